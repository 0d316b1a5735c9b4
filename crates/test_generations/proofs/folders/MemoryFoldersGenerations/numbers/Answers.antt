use Rattle.std.proofs.Common.{inr}
use Rattle.test_generations.proofs.folders.MemoryFoldersGenerations.numbers.Goals as goal

pub returns : goal.returns
returns c = λ number. inr (λ name. tt)
