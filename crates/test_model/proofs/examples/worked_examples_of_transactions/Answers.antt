use Rattle.test_model.proofs.ExamplesOfTransactions.{examples_of_transactions}
use Rattle.test_model.proofs.examples.worked_examples_of_transactions.Goals as goal

pub returns : goal.returns
returns c = examples_of_transactions
