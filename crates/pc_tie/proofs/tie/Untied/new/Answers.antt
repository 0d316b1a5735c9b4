use Rattle.pc_tie.proofs.Steps.{begins}
use Rattle.pc_tie.proofs.tie.Untied.new.Goals as goal

pub of_words-requires : goal.of_words-requires
of_words-requires c = begins _ _
