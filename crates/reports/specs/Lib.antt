-- What the contract of the report's counts cites, what private contracts alone cite, and the words of their law.
pub mod Runs
pub mod Counts
pub mod Private
pub mod Starts
