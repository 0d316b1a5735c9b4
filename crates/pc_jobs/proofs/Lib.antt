mod PhraseLemmas
mod WorkloadLemmas
mod ReadLemmas
mod Turns
mod FillLaws
