-- What the contracts on rows cite: their sizes, a row and its passes, what a change makes of a row; and what private contracts alone cite.
pub mod Sizes
pub mod Rows
pub mod Changes
pub mod Private
