-- Laws of the scan file, for its proofs and for those of the crates above.
pub mod Layouts
pub mod Causes
pub mod Refused
pub mod Fronts
pub mod Stores
pub mod Accepts
pub mod Held
pub mod Numbers
pub mod Words
pub mod Contents
pub mod RoundTrips
pub mod Decided
