-- What private contracts alone cite; the value of a form is in theory/specs.
pub mod Private
