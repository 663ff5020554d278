pub mod Replies
pub mod ByGroups
pub mod NoPart
pub mod Fixed
pub mod Worked
