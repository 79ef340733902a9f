pub mod Run
pub mod Statements
pub mod Whys
pub mod Acts
pub mod Texts
