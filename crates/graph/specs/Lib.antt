-- The constraint graph of a sheet in lent arrays of numbers.
pub mod Lent
