pub mod Alike
pub mod Upgrading
pub mod Reading
pub mod Renaming
