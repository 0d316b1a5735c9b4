use Rattle.std.proofs.Common.{◌≡◌, take, All}
use Rattle.pc_model.specs.Database.{database_of}
use Rattle.pc_model.specs.Log.{after}
use Rattle.pc_kept_log.specs.Logs.{entries_of}
use Rattle.pc_replay.specs.Audits.{IsRightInTurn}
use Rattle.pc_audit.proofs.replays.are_right.Given as goal

-- the tree is the base with the first entries replayed, and the files so far are correct
abbrev pub invariant-loop-file : goal.invariant-loop-file
invariant-loop-file l = (l.table ≡ after (database_of l.fn.base) (take l.at (entries_of l.fn.log))) × All (IsRightInTurn (database_of l.fn.base) (entries_of l.fn.log)) (take l.file-index l.fn.files)
