-- Laws of lists of names and their judge.
pub mod Judges
pub mod Flags
pub mod Cuts
pub mod Ends
pub mod Sizes
pub mod Decided
