pub mod Shapes
pub mod Serving
pub mod Stepped
pub mod Seen
pub mod Carrying
pub mod Growing
pub mod Turns
pub mod Promised
