-- The report's bytes, and what is known of them. Read Elements, then Report.
pub mod Elements
pub mod Report
pub mod Pieces
pub mod Block
pub mod Going
