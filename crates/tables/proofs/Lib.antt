-- What is shown of the table calls.
pub mod Chains
pub mod Bytes
pub mod Accepted
pub mod Twelve
pub mod Tabulated
pub mod Inverse
pub mod Decided
