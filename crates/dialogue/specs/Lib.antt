pub mod Spelled
pub mod Placed
pub mod Printed
