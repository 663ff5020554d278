pub mod Letters
pub mod Ascii
pub mod Text
