-- The few words of the claims that no contract cites.
pub mod Words
