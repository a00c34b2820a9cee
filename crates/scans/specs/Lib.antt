-- What the contracts of the runs cite, and what private contracts alone cite.
pub mod Run
pub mod Private
