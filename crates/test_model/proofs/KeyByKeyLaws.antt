-- Parts, joins and layings of each key, by the laws of the model.
use Rattle.std.proofs.Common.{◌≡◌}
use Rattle.pc_model.proofs.JoinLaws.{get-joined, get-laid, get-triples_of}
use Rattle.test_model.specs.KeyByKey.{KeyByKey}

pub key_by_key : KeyByKey
key_by_key = record {
  parts = get-triples_of;
  joins = get-joined;
  layings = get-laid;
}
