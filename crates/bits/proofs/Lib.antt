-- The laws of these leaves.
pub mod Sets
pub mod Backwards
pub mod Bytes
pub mod Counts
