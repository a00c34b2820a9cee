-- What the contract on running a recipe cites, and what private contracts alone cite.
pub mod Run
pub mod Private
pub mod PrivateStacks
pub mod PrivateChanges
