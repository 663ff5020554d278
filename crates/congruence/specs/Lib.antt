-- The interface: Closure (the groups, computed), Forced (what forced and group mean), Groups (what the code promises). For the proofs: Parts.
pub mod Closure
pub mod Groups
pub mod Forced
pub mod Parts
