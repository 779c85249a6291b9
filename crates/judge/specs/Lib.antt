-- The judgement of a constraint graph.
pub mod Judged
pub mod Found
pub mod Telling
