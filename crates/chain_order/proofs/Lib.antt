pub mod Branches
pub mod Finding
mod Marking
mod Numbering
mod Walking
