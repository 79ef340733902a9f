-- The lemmas of this crate, module by module.
pub mod Goings
pub mod GoingKeeps
pub mod Slots
pub mod GoingTill
pub mod Looked
pub mod Doing
