-- All are the interface.
pub mod Worked
pub mod EmptySheet
pub mod Walks
pub mod AtSizes
pub mod Bundles
