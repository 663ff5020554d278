pub mod Parser
pub mod Verdicts
pub mod Refusals
