pub mod Judged
pub mod Replies
pub mod Stretches
pub mod Questions
pub mod Fills
