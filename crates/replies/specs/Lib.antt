-- The interface.
pub mod Reply
