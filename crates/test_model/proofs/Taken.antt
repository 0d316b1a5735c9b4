-- The key of a Took reply.
use Rattle.std.proofs.Common.{ℕ, List, []}
use Rattle.pc_types.specs.declared.Reply.{Reply}
use Rattle.pc_types.specs.declared.Reply.TheVariants as told

abbrev pub key_taken : Reply → List ℕ
key_taken (told.Took key content) = key
key_taken other = []
