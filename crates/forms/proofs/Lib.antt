-- Laws of the form check.
pub mod Chains
pub mod Shifts
pub mod Fine
pub mod Decided
