-- The laws of refusals and answers.
pub mod Checks
pub mod Shared
pub mod Decided
