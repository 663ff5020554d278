-- The interface: Propagated (what the contracts of the public functions say). For the proofs: Parts.
pub mod Propagated
pub mod Parts
