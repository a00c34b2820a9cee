-- What the contracts of the C interface cite beside the calls' own promises, and what private contracts alone cite.
pub mod Told
pub mod Sheet
pub mod Private
