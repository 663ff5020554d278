-- Both are the interface, which contracts of public functions cite.
pub mod Record
pub mod Step
