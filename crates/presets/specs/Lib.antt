-- What the contract of the preset call cites.
pub mod Presets
