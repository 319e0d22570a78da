pub mod Counting
pub mod Cutting
pub mod Meaning
pub mod Reading
