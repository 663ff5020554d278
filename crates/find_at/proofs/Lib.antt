pub mod Sizes
pub mod Outcomes
pub mod Buffers
pub mod Delivery
pub mod Numbers
pub mod Fills
pub mod Searching
