pub mod Sources
pub mod Filings
pub mod Filed
pub mod Rooms
