-- What the programs read and print.
pub mod Numbers
pub mod Refused
