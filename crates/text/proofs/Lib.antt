pub mod Decimal
pub mod PutNumber
pub mod Lines
pub mod Entries
pub mod Hex
