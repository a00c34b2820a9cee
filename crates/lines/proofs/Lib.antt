-- The laws of the lines.
pub mod Decimals
pub mod Numbers
pub mod Puts
pub mod Fields
pub mod Inside
pub mod Decided
pub mod Bounds
pub mod Lengths
pub mod Feeds
