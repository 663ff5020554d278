pub mod Outcomes
pub mod Least
pub mod Numbers
pub mod Fills
