use Rattle.test_model.proofs.ExamplesOfRules.{lock_rules, file_rules, key_rules, limit_rules, refusal_rules, read_rules}
use Rattle.test_model.proofs.examples.worked_examples_of_rules.Goals as goal

pub returns-clause-locks : goal.returns-clause-locks
returns-clause-locks c = lock_rules

pub returns-clause-files : goal.returns-clause-files
returns-clause-files c = file_rules

pub returns-clause-keys : goal.returns-clause-keys
returns-clause-keys c = key_rules

pub returns-clause-limits : goal.returns-clause-limits
returns-clause-limits c = limit_rules

pub returns-clause-refusals : goal.returns-clause-refusals
returns-clause-refusals c = refusal_rules

pub returns-clause-reads : goal.returns-clause-reads
returns-clause-reads c = read_rules
