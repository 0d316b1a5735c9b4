use Rattle.std.proofs.Common.{take}
use Rattle.pc_recover.proofs.ApartFiles.{AreNoted}
use Rattle.pc_recover.proofs.joining.are_apart.Given as goal

-- the parts so far are noted
abbrev pub invariant-loop-part : goal.invariant-loop-part
invariant-loop-part l = AreNoted (take l.part-index l.parts) l.tops.items
