use Rattle.std.proofs.Common.{◌≡◌, length}
use Rattle.pc_model.specs.Log.{log_after_point}
use Rattle.pc_log.specs.Orders.{no_token}
use Rattle.pc_log.specs.Reading.{all_at}
use Rattle.pc_points.proofs.replaying.skip_to_token.Given as goal

-- what is still to come has behind the token what all of the entries have
abbrev pub invariant-loop-rest : goal.invariant-loop-rest
invariant-loop-rest l = log_after_point l.fn.point (all_at l.format l.last l.rest).entries ≡ log_after_point l.fn.point (all_at l.format no_token l.bytes).entries

abbrev pub decreases-loop-rest : goal.decreases-loop-rest
decreases-loop-rest l = length l.rest
