use Rattle.std.proofs.Common.{◌≡◌, map, take}
use Rattle.std.specs.List.{All}
use Rattle.pc_collapse.specs.Merges.{IsCovered, entries_of_file}
use Rattle.pc_collapse.proofs.merging.entries_of_parts.Given as goal

abbrev pub invariant-loop-number : goal.invariant-loop-number
invariant-loop-number l = (l.inputs.items ≡ map entries_of_file (take l.number l.fn.parts)) × All IsCovered (take l.number l.fn.parts)
