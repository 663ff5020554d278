-- The interface.
pub mod Sizings
