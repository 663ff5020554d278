pub mod Searchable
pub mod Parts
