use Rattle.test_model.proofs.ExamplesOfFiles.{examples_of_files}
use Rattle.test_model.proofs.examples.worked_examples_of_files.Goals as goal

pub returns : goal.returns
returns c = examples_of_files
