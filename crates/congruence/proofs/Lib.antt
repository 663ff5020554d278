pub mod Keys
pub mod Replacing
pub mod Labels
pub mod Sweeps
pub mod Structures
pub mod Closing
pub mod NoPart
