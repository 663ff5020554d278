-- Findings is the interface; Parts serves the proofs.
pub mod Findings
pub mod Parts
