mod FolderBases
mod FolderParts
mod FolderRecovery
pub mod RuleRefusals
mod TokenSearch
