pub mod FirstCodes
pub mod Parts
