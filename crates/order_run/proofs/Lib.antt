pub mod Arrivals
mod Ending
mod Numbers
pub mod Runs
