pub mod Reasons
pub mod Parts
