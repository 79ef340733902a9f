pub mod Numbers
pub mod Slots
pub mod Policy
pub mod Arrivals
pub mod Ready
pub mod Statements
pub mod Strides
pub mod Kept
