-- Laws that the proofs share.
pub mod Bytes
pub mod Measured
pub mod Spread
pub mod Untagged
