-- Both are the interface: the fitted sheet, and what finding on it gives.
pub mod FittedSheet
pub mod Kept
