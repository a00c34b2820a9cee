-- The laws of rows, a file to a layer.
pub mod Rows
pub mod Changes
pub mod Passes
pub mod Parts
pub mod Shifts
pub mod Listed
pub mod Sweeps
pub mod Sorts
pub mod Decided
