-- The steps of one cluster, listed and measured.
pub mod Measured
pub mod Part
pub mod Tallies
pub mod Shown
