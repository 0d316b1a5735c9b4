use Rattle.test_model.proofs.ExamplesOfLocks.{examples_of_locks}
use Rattle.test_model.proofs.examples.worked_examples_of_locks.Goals as goal

pub returns : goal.returns
returns c = examples_of_locks
