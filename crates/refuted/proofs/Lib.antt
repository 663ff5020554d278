pub mod Alone
pub mod Refuted
pub mod Fitted
pub mod Walk
pub mod Sizes
pub mod Bundle
pub mod Fills
