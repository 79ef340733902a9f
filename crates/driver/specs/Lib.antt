pub mod Refusals
pub mod Carried
pub mod Rows
pub mod Screens
pub mod Says
