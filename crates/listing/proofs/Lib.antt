pub mod Writing
pub mod Counts
pub mod Turns
pub mod Steps
pub mod Again
