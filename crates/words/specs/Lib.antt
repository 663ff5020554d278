pub mod Words
pub mod Complaints
