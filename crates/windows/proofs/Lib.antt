-- The laws of positions and columns.
pub mod Searches
pub mod Columns
