use Rattle.std.proofs.Common.{inl}
use Rattle.pc_commands.proofs.parts.JoinedFileMakerNotedFile.finish.Goals as goal

pub returns-clause-unnamed : goal.returns-clause-unnamed
returns-clause-unnamed c = inl (λ text was. tt)
