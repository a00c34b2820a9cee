-- What the C interface's promises allow.
pub mod Tells
pub mod Decided
pub mod Sheet
