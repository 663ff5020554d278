-- All are the interface.
pub mod Find
pub mod Turn
pub mod Promise
