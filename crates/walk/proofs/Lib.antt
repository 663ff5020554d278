pub mod Steps
pub mod Events
pub mod Outcomes
pub mod Walked
pub mod InTurn
pub mod Fills
