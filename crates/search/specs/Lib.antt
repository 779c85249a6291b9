-- What the search for the first open merge keeps beside the clusters (State), and sets of cluster numbers in words (Words).
pub mod State
pub mod Words
