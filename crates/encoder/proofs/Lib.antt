-- The laws that the proofs of this crate apply.
pub mod Placing
pub mod ShortRecords
pub mod Sheets
