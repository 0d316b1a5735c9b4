mod BaseLemmas
mod RunLemmas
mod ScriptLemmas
