-- Laws behind the runs, and what a reader of residues relies on.
pub mod Fills
pub mod Carried
pub mod Windows
pub mod Residues
pub mod Fine
pub mod Decided
