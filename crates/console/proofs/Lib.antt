-- Laws that the proofs of several functions share.
pub mod Counting
