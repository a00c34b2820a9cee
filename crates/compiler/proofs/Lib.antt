-- Laws of compiling, and demand 3.
pub mod Patterns
pub mod Batches
pub mod Demand
pub mod Compiles
pub mod Decided
