-- Laws of the night program, for its proofs.
pub mod Pieces
pub mod Sheets
