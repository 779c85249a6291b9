-- The sheet with the longest plan.
pub mod Longest
