-- A held sketch: what asking and placing answer, and what the sketch is then.
pub mod Judgement
pub mod Sketch
pub mod Placing
pub mod Runs
