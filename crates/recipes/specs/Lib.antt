-- What the contracts on recipes cite: a step's bytes, what steps do one after another, which recipes are accepted, what a recipe gives; and
-- what private contracts alone cite.
pub mod Steps
pub mod Machine
pub mod Judge
pub mod Meaning
pub mod Private
