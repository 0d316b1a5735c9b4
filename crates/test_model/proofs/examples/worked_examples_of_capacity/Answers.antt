use Rattle.test_model.proofs.ExamplesOfCapacity.{examples_of_capacity}
use Rattle.test_model.proofs.examples.worked_examples_of_capacity.Goals as goal

pub returns : goal.returns
returns c = examples_of_capacity
