-- The card of five points: the verdict of each set of distances.
pub mod Card
