use Rattle.test_model.proofs.ExamplesOfHeadlines.{examples_of_headlines}
use Rattle.test_model.proofs.examples.worked_examples_of_headlines.Goals as goal

pub returns : goal.returns
returns c = examples_of_headlines
