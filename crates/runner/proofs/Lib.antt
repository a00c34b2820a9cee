-- The laws of running a recipe on a stack of rows, piece by piece.
pub mod Written
pub mod Performs
pub mod Pieces
pub mod Fine
pub mod Decided
