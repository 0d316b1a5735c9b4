mod WordLemmas
mod FirstWords
mod ScriptLemmas
mod TextLemmas
mod RoleLemmas
mod CauseLemmas
