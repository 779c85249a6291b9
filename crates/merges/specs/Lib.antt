-- Merges in arrays: what a run begins from and answers (Run), and what arrays hold on the way (Going). Search says what the search for the first open
-- merge begins from, keeps and finds.
pub mod Run
pub mod Going
pub mod Search
