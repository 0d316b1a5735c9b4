use Rattle.std.proofs.Common.{◌≡◌, length}
use Rattle.pc_recover.proofs.Reaching.{LeftToNote}
use Rattle.pc_recover.proofs.reach.least_tops.Given as goal

-- the files that are left to note
abbrev pub invariant-loop-file : goal.invariant-loop-file
invariant-loop-file l = record {
  len : length l.tops.items ≡ 65536;
  left : LeftToNote l.files l.file-index l.tops.items;
}
