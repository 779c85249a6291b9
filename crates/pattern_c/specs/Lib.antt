-- What the functions for C take and answer.
pub mod Numbers
pub mod Columns
pub mod Uncut
pub mod Writes
