-- The interface: Bundle, which the contract cites, Promise and Written. For proofs: Parts.
pub mod Bundle
pub mod Promise
pub mod Written
pub mod Parts
