pub mod Smallest
pub mod Located
pub mod Summing
pub mod Promised
pub mod Written
pub mod Neighbours
