-- What the engine answers.
pub mod Steps
pub mod Lists
pub mod Turns
