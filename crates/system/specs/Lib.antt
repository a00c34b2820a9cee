-- What the contracts of the calls to the operating system cite.
pub mod Reads
pub mod Paths
pub mod Private
pub mod Writes
