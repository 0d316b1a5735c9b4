use Rattle.test_model.proofs.KeyByKeyLaws.{key_by_key}
use Rattle.test_model.proofs.examples.definitions_key_by_key.Goals as goal

pub returns : goal.returns
returns c = key_by_key
