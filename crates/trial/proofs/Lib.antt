-- The lemmas of this crate, module by module.
pub mod Written
pub mod Instructions
pub mod Histories
pub mod Moves
pub mod Loops
pub mod Shows
pub mod Sieves
pub mod Refused
pub mod Turning
