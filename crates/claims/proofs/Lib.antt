-- The claims, and what they cite beyond the crates below.
pub mod Outcomes
pub mod Chain
pub mod Filters
pub mod Ranks
pub mod Sheets
pub mod Claims
pub mod Layouts
pub mod Files
pub mod Counts
pub mod Nights
