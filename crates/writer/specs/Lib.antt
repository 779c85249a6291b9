-- What the writer answers, and what it leaves in the lent space.
pub mod Spread
pub mod Write
