pub mod AuditLemmas
mod ChangeLemmas
mod FirstOfEach
pub mod TreeLemmas
mod LaidInTurn
