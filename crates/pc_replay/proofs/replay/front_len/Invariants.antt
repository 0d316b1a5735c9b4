use Rattle.std.proofs.Common.{◌≡◌, ◌++◌, take, drop}
use Rattle.pc_model.specs.Log.{front}
use Rattle.pc_replay.proofs.replay.front_len.Given as goal

abbrev pub invariant-loop-i : goal.invariant-loop-i
invariant-loop-i l = take l.i l.log ++ front l.point (drop l.i l.log) ≡ front l.point l.log
