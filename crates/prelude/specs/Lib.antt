pub mod Tests
pub mod Lists
pub mod Limits
pub mod Pasted
pub mod Bytes
pub mod Causes
