pub mod Bases
pub mod Fronts
pub mod Numbers
