-- The interface: Layout (where tables stand in bytes), Tests (what judge tests), Grid (one table before it is written). For the proofs: Parts.
pub mod Layout
pub mod Tests
pub mod Grid
pub mod Parts
