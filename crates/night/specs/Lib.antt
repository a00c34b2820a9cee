-- What the contracts of the night program cite.
pub mod Private
