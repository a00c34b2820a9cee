-- What the contracts of the night sheet's totals cite, and the words of their laws.
pub mod Totals
pub mod Nights
