-- The interface, which contracts of public functions cite: Verdict. For proofs: Parts.
pub mod Verdict
pub mod Parts
