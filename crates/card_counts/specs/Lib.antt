-- How many sets of distances have each verdict.
pub mod Counts
