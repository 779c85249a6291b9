-- Laws that the proofs of several functions share.
pub mod Gather
pub mod Joins
pub mod Two
pub mod Swept
pub mod Storing
pub mod Rejoining
pub mod Listing
pub mod Calling
pub mod Starting
