-- Laws of the report program, for its proofs.
pub mod Files
