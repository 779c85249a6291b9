pub mod Elements
pub mod Each
pub mod Image
