use Rattle.std.proofs.Common.{◌++◌, List}
use Rattle.std.specs.Vec.Iter.{into_iter_items}
use Rattle.pc_model.specs.Files.{File}
use Rattle.pc_collapse.specs.Worth.{AreWorth}
use Rattle.pc_collapse.specs.Rounds.{AllBecome, together}
use Rattle.pc_collapse.proofs.rounds.gather.Given as goal

abbrev pub invariant-loop-pieces : goal.invariant-loop-pieces
invariant-loop-pieces g l =
    (lists : List (List File)) → AllBecome lists l.fn.joined.items
    → (rest : List (List File)) × AllBecome rest (into_iter_items l.pieces-iterator) × AreWorth (together lists) (l.left.items ++ together rest)
