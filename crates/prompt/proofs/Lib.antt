pub mod Choices
pub mod Values
mod Examples
pub mod Typed
