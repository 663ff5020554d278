pub mod Outcomes
pub mod Buffers
pub mod Turn
pub mod Delivery
pub mod Fills
