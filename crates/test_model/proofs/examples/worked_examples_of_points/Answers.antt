use Rattle.test_model.proofs.ExamplesOfPoints.{examples_of_points}
use Rattle.test_model.proofs.examples.worked_examples_of_points.Goals as goal

pub returns : goal.returns
returns c = examples_of_points
