-- Judge is the interface; Parts serves the proofs.
pub mod Judge
pub mod Parts
