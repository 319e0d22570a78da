mod Arrived
mod Linking
mod Others
pub mod LinkedUp
