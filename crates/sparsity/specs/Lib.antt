-- The search for an over set: the freedoms, what is reached along them, the answer.
pub mod Freedoms
pub mod Reach
pub mod Answer
