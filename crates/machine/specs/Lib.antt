pub mod Promise
pub mod Engine
pub mod Plans
pub mod Entry
pub mod Lent
pub mod Phases
pub mod Fair
