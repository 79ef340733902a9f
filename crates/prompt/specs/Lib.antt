pub mod Words
pub mod Verbs
pub mod Numbers
pub mod Requests
pub mod Meant
pub mod Statements
