-- What the contracts on positions and columns cite.
pub mod Columns
pub mod Private
