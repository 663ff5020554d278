pub mod Knows
pub mod Row
