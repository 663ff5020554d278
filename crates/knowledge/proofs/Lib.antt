pub mod Bits
pub mod Handing
pub mod Keeping
