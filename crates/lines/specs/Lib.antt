-- The interface.
pub mod Lines
