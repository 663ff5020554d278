-- All of these are the interface: what the contracts of the crates above cite, and what a reader has to believe.
pub mod Sheet
pub mod WellFormed
pub mod Structure
pub mod Order
pub mod Problem
pub mod Box
