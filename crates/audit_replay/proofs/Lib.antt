pub mod Throughout
pub mod Supplying
pub mod Auditing
pub mod Forged
pub mod Shown
pub mod Showing
