-- The hash of a key. Nothing matters but that it is one number for the seed and the key.
use Rattle.std.specs.Prelude.{ℕ, List}
use Rattle.std.specs.Hash.DefaultHasher as sip
use Rattle.std.specs.RandomState.{initial_hasher}
use Rattle.std.specs.declared.random_state.RandomState.{RandomState}

unfoldable pub key_hash : RandomState → List ℕ → ℕ
key_hash seed key = sip.finish (sip.write (initial_hasher seed) key)
