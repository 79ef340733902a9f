pub mod Going
pub mod Done
