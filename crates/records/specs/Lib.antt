-- A held sketch in lent bytes, and every run of asks and placings on it.
pub mod Record
pub mod Runs
