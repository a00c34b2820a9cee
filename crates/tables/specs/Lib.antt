-- What the contracts of the table calls cite.
pub mod Tables
