-- Laws that the proofs share.
pub mod Opening
pub mod Constraints
pub mod Dimension
pub mod Sheets
