-- What the contracts of `held` cite.
pub mod Held
