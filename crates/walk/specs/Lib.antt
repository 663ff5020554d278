-- Walk and Promise are the interface; Parts serves the proofs.
pub mod Walk
pub mod Promise
pub mod Parts
