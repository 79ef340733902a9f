-- The lemmas of this crate, module by module.
pub mod Tables
pub mod Carried
pub mod Plans
pub mod OneLevel
pub mod AllLevels
pub mod Forward
pub mod Looking
pub mod Search
pub mod Stand
pub mod Acts
pub mod Arriving
pub mod Fewness
pub mod LevelUp
