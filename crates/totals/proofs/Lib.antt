-- Laws of the night sheet's totals.
pub mod Fields
pub mod Running
pub mod Files
pub mod Nights
