pub mod Codes
pub mod Meaning
pub mod Orders
pub mod Consistent
pub mod Decided
