pub mod Members
pub mod Lengths
pub mod Entries
pub mod Formed
pub mod Answering
pub mod Keeping
