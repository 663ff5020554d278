-- The interface: Given (what the contracts of the public functions rest on). For the proofs: Parts.
pub mod Given
pub mod Parts
