-- The interface.
pub mod Filings
