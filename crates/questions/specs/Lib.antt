-- The interface.
pub mod Questions
