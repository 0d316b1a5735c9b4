use Rattle.std.proofs.Common.{inr}
use Rattle.pc_disk.proofs.generations.GenerationFoldersGenerations.numbers.Goals as goal

pub returns : goal.returns
returns c = λ number. inr (λ name. tt)
