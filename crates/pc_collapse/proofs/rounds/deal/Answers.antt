use Rattle.std.proofs.Common.{◌<◌, ◌+◌, ◌%◌, ◌++◌, sym, ◌∙◌, subst}
use Rattle.std.specs.Vec.Iter.{into_iter_items}
use Rattle.std.proofs.Math.Nat.{mod-lt}
use Rattle.pc_collapse.specs.Worth.{AreWorth}
use Rattle.pc_collapse.specs.Rounds.{dealt_files}
use Rattle.pc_collapse.proofs.DealtFiles.{dealt_two, lent_back}
use Rattle.pc_collapse.proofs.rounds.deal.Goals as goal

pub loop-first-preserved : goal.loop-first-preserved
loop-first-preserved g c =
    let back = lent_back c.loop-first.all.len c.give.new.all c.loop-first.all.items (sym (c.give.ensures.len ∙ c.deref_mut.ensures.len)) in
    let worth = subst (λ all. AreWorth c.args.pieces.items (dealt_files all ++ into_iter_items c.loop-first.rest)) (sym c.deref_mut.ensures.value) c.loop-first.invariant.2 in (
      subst (λ n. (c.loop-first.number + 1) % c.args.workers < n) (sym c.loop-first.invariant.1) (mod-lt (c.loop-first.number + 1) c.requires),
      c.loop-first.invariant.1,
      subst (λ all. AreWorth c.args.pieces.items (dealt_files all ++ into_iter_items c.next-second.new.self)) (sym back)
          (dealt_two c.args.pieces.items (dealt_files c.deref_mut.result.now) (dealt_files c.give.new.all) _ _ _ _ _ worth c.in-Some.ensures.items c.next-second.ensures.items c.in_ok-give.ensures.given),
    )
