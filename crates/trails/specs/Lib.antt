-- Trails is the interface; Parts serves the proofs.
pub mod Trails
pub mod Parts
