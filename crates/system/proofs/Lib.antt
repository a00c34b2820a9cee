-- Laws of the calls to the operating system, for its proofs.
pub mod Bytes
