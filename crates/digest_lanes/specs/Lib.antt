pub mod Front
pub mod Groups
pub mod Lanes
pub mod Midstate
pub mod Texts
