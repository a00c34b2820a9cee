-- What the preset call rests on, and what is shown of it.
pub mod Nearest
pub mod Rule
pub mod Given
pub mod Terms
pub mod Median
pub mod Decided
