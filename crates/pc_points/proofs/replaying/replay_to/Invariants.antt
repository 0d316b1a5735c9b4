use Rattle.std.proofs.Common.{◌≡◌, length}
use Rattle.pc_log.specs.Reading.{all_at}
use Rattle.pc_points.specs.Points.{state_before}
use Rattle.pc_points.proofs.replaying.replay_to.Given as goal

-- what is still to come makes of the database what all of the entries make of the first one
abbrev pub invariant-loop-rest : goal.invariant-loop-rest
invariant-loop-rest l = state_before l.fn.point l.database (all_at l.format l.last l.rest).entries ≡ state_before l.fn.point l.fn.database (all_at l.format l.fn.last l.bytes).entries

abbrev pub decreases-loop-rest : goal.decreases-loop-rest
decreases-loop-rest l = length l.rest
