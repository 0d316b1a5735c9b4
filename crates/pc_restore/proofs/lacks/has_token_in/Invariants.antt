use Rattle.std.proofs.Common.{◌≡◌, length}
use Rattle.pc_model.specs.Log.{has_token}
use Rattle.pc_log.specs.Orders.{no_token}
use Rattle.pc_log.specs.Reading.{all_at}
use Rattle.pc_restore.proofs.lacks.has_token_in.Given as goal

-- the token is one of the entries if and only if it is one of those that are still to be read
abbrev pub invariant-loop-rest : goal.invariant-loop-rest
invariant-loop-rest l = has_token l.point (all_at l.format l.last l.rest).entries ≡ has_token l.point (all_at l.format no_token l.bytes).entries

abbrev pub decreases-loop-rest : goal.decreases-loop-rest
decreases-loop-rest l = length l.rest
