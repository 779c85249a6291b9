-- What the entry points answer, by the bytes of a sheet.
pub mod Entries
pub mod Over
pub mod Orders
pub mod Refusals
pub mod Rule14
pub mod ReadWrite
pub mod Promises
pub mod Held
pub mod Counts
pub mod Parts
pub mod Untagged
pub mod Circles
pub mod Opens
