-- What the contracts of lists of names cite.
pub mod Names
pub mod Judge
