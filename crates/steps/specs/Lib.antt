-- The plan as a list of step records.
pub mod Records
pub mod Listing
