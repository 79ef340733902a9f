pub mod Branches
pub mod Labels
pub mod Columns
pub mod Lines
pub mod Window
pub mod Statements
