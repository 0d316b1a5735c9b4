use Rattle.std.proofs.Common.{◌++◌, List, map, sym, subst}
use Rattle.std.specs.Vec.Iter.{into_iter_items}
use Rattle.pc_model.specs.Files.{File}
use Rattle.pc_collapse.specs.Worth.{AreWorth}
use Rattle.pc_collapse.specs.Rounds.{neighbour_files, hand_files, together}
use Rattle.pc_collapse.proofs.DealtFiles.{become_refused, cause_within, joined_two}
use Rattle.pc_collapse.proofs.rounds.join_pairs.Goals as goal

pub returns-in_err-piece : goal.returns-in_err-piece
returns-in_err-piece g c =
    let worth = subst (λ pairs. AreWorth (hand_files c.args.hand) (c.loop-pair.joined.items ++ together (map neighbour_files pairs))) c.in-Some.ensures.steps.0 c.loop-pair.invariant in
    become_refused _ _ _ c.from_residual-in_err-piece.ensures (cause_within (hand_files c.args.hand) c.loop-pair.joined.items (neighbour_files c.in-Some.pair) _ _ worth c.in_err-piece.ensures)

pub loop-pair-preserved : goal.loop-pair-preserved
loop-pair-preserved g c =
    let worth = subst (λ pairs. AreWorth (hand_files c.args.hand) (c.loop-pair.joined.items ++ together (map neighbour_files pairs))) c.in-Some.ensures.steps.0 c.loop-pair.invariant in
    subst (λ (l : List File). AreWorth (hand_files c.args.hand) (l ++ together (map neighbour_files (into_iter_items c.next.new.self)))) (sym c.in_ok-push.ensures.items) (joined_two (hand_files c.args.hand) c.loop-pair.joined.items (neighbour_files c.in-Some.pair) _ _ worth c.in_ok-piece.ensures)
