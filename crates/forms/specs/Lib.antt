-- What the contracts of the form check cite.
pub mod Check
