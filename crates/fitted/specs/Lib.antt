-- Filing and Promise are the interface; Parts serves the proofs.
pub mod Filing
pub mod Promise
pub mod Parts
