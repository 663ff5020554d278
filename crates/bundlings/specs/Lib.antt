-- The interface.
pub mod Bundlings
