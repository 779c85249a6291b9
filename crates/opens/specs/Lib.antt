-- The merges that are open after a number of the engine's steps: the list (Opens), what is shown of it (Shown), and the numbers by which the code
-- puts it in order (Keys).
pub mod Opens
pub mod Shown
pub mod Keys
