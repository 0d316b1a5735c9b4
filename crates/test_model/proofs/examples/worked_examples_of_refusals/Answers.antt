use Rattle.test_model.proofs.ExamplesOfRefusals.{examples_of_refusals}
use Rattle.test_model.proofs.examples.worked_examples_of_refusals.Goals as goal

pub returns : goal.returns
returns c = examples_of_refusals
