-- The lemmas of this crate, module by module.
pub mod Decoding
pub mod Turns
