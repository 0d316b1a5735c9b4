use Rattle.test_model.proofs.ExamplesOfAdds.{examples_of_adds}
use Rattle.test_model.proofs.examples.worked_examples_of_adds.Goals as goal

pub returns : goal.returns
returns c = examples_of_adds
