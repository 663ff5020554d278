pub mod Verbs
pub mod LineEnds
