use Rattle.std.proofs.Common.{◌∷◌, List, [], ap, arith, length}
use Rattle.pc_model.specs.Files.{File}
use Rattle.pc_collapse.specs.declared.rule.Hand.{Hand}
use Rattle.pc_collapse.proofs.BagMoves.{takes, puts_back, finds_room, took_two, sound_two}
use Rattle.pc_collapse.proofs.FoldedFiles.{cause_for}
use Rattle.pc_collapse.proofs.bag.turn.Goals as goal

pub pop_as-requires-clause-rule : goal.pop_as-requires-clause-rule
pop_as-requires-clause-rule g c = (takes _ _ _ (let p = ap (λ (h : Hand). h.parts) c.requires.idle.1 in omega (arith, p)), λ items views b at. tt)

pub pop_as-requires-2-clause-rule : goal.pop_as-requires-2-clause-rule
pop_as-requires-2-clause-rule g c = (takes _ _ _ (let p = ap (λ (h : Hand). h.parts) c.requires.idle.1 in let q = ap (λ (h : Hand). h.parts) c.in-Some.ensures.rule.0 in omega (arith, p, q)), λ items views b at. tt)

pub push_as-requires-clause-rule : goal.push_as-requires-clause-rule
push_as-requires-clause-rule g c =
    let two = took_two _ _ _ _ _ _ c.requires.idle.1 c.in-Some.ensures.rule.0 c.in-Some-pop_as.ensures.rule.0 c.in-Err.ensures.1 in
    (puts_back _ _ _ _ _ _ two.1 two.0, finds_room _ _ _ (let n = ap (λ (l : List File). length l) two.0 in omega (arith, n)))

pub returns-in-Ok-push_as-clause-refused : goal.returns-in-Ok-push_as-clause-refused
returns-in-Ok-push_as-clause-refused g c =
    cause_for _ (c.in-Some-pop_as.second ∷ c.in-Some.first ∷ []) _ (sound_two _ _ _ _ _ c.requires.idle.1 c.in-Some.ensures.rule.0 c.in-Some-pop_as.ensures.rule.1) c.in-Err.ensures.2
