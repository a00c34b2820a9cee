-- What the contracts of the lines cite, and what private contracts alone cite.
pub mod Lines
pub mod Private
