-- What the reading of a field, and of a sheet's elements, says.
pub mod Fields
pub mod Answers
pub mod Round
