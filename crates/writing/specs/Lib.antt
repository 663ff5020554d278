-- Written is the interface; Parts serves the proofs.
pub mod Written
pub mod Parts
