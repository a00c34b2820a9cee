-- The worked cases and the one statement about them.
pub mod Cases
