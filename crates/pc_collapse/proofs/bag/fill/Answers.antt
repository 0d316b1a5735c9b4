use Rattle.std.proofs.Common.{ap, ◌∙◌, List}
use Rattle.pc_model.specs.Files.{File}
use Rattle.pc_collapse.specs.Bags.{hand, all_parts}
use Rattle.pc_collapse.proofs.BagMoves.{put_first, room_first}
use Rattle.pc_collapse.proofs.bag.fill.Goals as goal

pub push_as-requires-clause-rule : goal.push_as-requires-clause-rule
push_as-requires-clause-rule g c =
    let is = c.loop-piece.invariant.1 ∙ ap (λ (l : List File). hand all_parts l) c.in-Some.ensures.steps.0 in
    (put_first _ _ _ _ _ _ is, room_first _ _ _ _ _ is)
