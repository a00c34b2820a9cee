-- What the contracts of the scan file cite, what private contracts alone cite, and the words of the scan file's laws.
pub mod Bytes
pub mod Layout
pub mod Files
pub mod Private
pub mod Causes
