-- The interface: Layout and Packed, which contracts cite, and Encode, which says what Layout says the other way round.
-- Between this crate and the parser: Parts. For proofs, also in the crates above: Views.
pub mod Layout
pub mod Encode
pub mod Packed
pub mod Kinds
pub mod Payloads
pub mod Views
pub mod Parts
