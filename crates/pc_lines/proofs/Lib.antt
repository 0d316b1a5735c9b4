mod WordLemmas
mod LineLemmas
mod NextWord
