-- Laws of the report's counts.
pub mod Sums
pub mod Spikes
pub mod Residues
pub mod Starts
pub mod Counted
pub mod Decided
pub mod Bounds
pub mod Lengths
