-- What the check of a saved plan answers, and that it answers so without rule 14.
pub mod Check
pub mod Rule14
