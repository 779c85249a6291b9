-- The report of a sheet's facts, and the sheets to try.
pub mod Account
pub mod Saved
pub mod Resting
pub mod Table
pub mod Own
