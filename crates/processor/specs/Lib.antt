pub mod Reckons
pub mod Pages
pub mod Held
pub mod Like
pub mod Holding
pub mod Telling
