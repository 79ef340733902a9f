-- The lemmas of this crate, module by module.
pub mod Picks
pub mod Ranges
pub mod Every
pub mod Registers
pub mod WordsHold
pub mod SmallNumbers
pub mod Running
pub mod MoreInput
pub mod SmallStates
pub mod OutsGrow
pub mod Stops
pub mod Times
pub mod StopsAre
pub mod Exact
pub mod PastStays
pub mod Shown
mod Box
pub mod Readers
pub mod Digits
pub mod Spellings
pub mod Texts
pub mod FirstBytes
pub mod Many
pub mod Whole
pub mod ToldRows
pub mod Writes
mod ReaderExamples
pub mod Reckons
pub mod Folds
