-- What the contract of compiling cites, and what private contracts alone cite.
pub mod Compile
pub mod Private
