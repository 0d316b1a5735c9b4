use Rattle.std.proofs.Common.{◌≡◌, take, All}
use Rattle.pc_model.specs.Database.{database_of}
use Rattle.pc_model.specs.Log.{after}
use Rattle.pc_replay.specs.Audits.{IsRightInTurn}
use Rattle.pc_replay.proofs.audits.are_right.Given as goal

-- the tree is the base with the first entries replayed, and the files so far are correct
abbrev pub invariant-loop-file : goal.invariant-loop-file
invariant-loop-file l = (l.tree ≡ after (database_of l.fn.base) (take l.at l.fn.log)) × All (IsRightInTurn (database_of l.fn.base) l.fn.log) (take l.file-index l.fn.files)
