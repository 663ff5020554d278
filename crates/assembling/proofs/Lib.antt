pub mod Growing
pub mod TableCells
pub mod Stretches
pub mod Counting
pub mod Assembling
