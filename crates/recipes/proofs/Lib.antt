-- The laws of recipes: what a decoded step is, a recipe's plan, the reach that each step leaves, and what an accepted recipe goes through.
pub mod Decodes
pub mod Plans
pub mod Reaches
pub mod Accepted
pub mod Turns
pub mod Decided
