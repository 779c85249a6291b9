-- The chain from one element to another.
pub mod Says
pub mod Chain
pub mod Layers
pub mod Kept
pub mod Answer
