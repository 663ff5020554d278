pub mod LeastSizes
pub mod Parts
