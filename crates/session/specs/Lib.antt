pub mod Does
pub mod Shown
