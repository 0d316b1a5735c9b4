use Rattle.std.proofs.Common.{◌≡◌, ◌++◌, drop, map}
use Rattle.pc_recover.specs.Recovery.{decoded_files}
use Rattle.pc_recover.proofs.candidates.candidates.Given as goal

-- the files so far, and those of the parts that are left
abbrev pub invariant-loop-part : goal.invariant-loop-part
invariant-loop-part l = l.files.items ++ decoded_files l.fn.run (map (λ part. part.now) (drop l.part-index l.parts)) ≡ decoded_files l.fn.run (map (λ part. part.now) l.parts)
