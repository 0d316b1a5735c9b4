use Rattle.std.proofs.Common.{◌≡◌, ◌++◌}
use Rattle.std.specs.Vec.Iter.{into_iter_items}
use Rattle.pc_recover.specs.Recovery.{files_to, read_files}
use Rattle.pc_recover.proofs.state.used.Given as goal

-- the used files so far, and those among the files that are left
abbrev pub invariant-loop-file : goal.invariant-loop-file
invariant-loop-file l = l.parts.items ++ files_to l.fn.point (read_files (into_iter_items l.file-iterator)) ≡ files_to l.fn.point (read_files l.fn.files.items)
