-- The walks behind the value of a form.
pub mod Counts
