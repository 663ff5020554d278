pub mod Reach
pub mod Filling
pub mod Keeping
pub mod Writing
pub mod Answering
