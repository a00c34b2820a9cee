-- What the contracts of every call cite of refusals and answers.
pub mod Numbers
pub mod Refusals
pub mod Shared
pub mod Promise
