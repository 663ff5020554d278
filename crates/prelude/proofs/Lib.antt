pub mod Tests
pub mod Lists
pub mod Fronted
pub mod Collect
pub mod Rows
pub mod Pasted
pub mod Bytes
pub mod Causes
