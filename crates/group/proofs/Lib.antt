pub mod Parsed
pub mod Replies
pub mod NoPart
pub mod Worked
