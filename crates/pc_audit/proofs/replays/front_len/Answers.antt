use Rattle.std.proofs.Common.{◌≡◌, ◌++◌, ◌∷◌, List, take, drop, sym, ap, ◌∙◌, arith}
use Rattle.pc_types.specs.declared.Entry.{Entry}
use Rattle.pc_model.specs.Log.{front}
use Rattle.pc_kept_log.specs.Logs.{entries_of}
use Rattle.pc_audit.proofs.TableLemmas.{place_inside, rest_behind, front_on}
use Rattle.pc_audit.proofs.replays.front_len.Goals as goal

pub loop-entry-preserved : goal.loop-entry-preserved
loop-entry-preserved c =
    let log = entries_of c.args.log.now in
    let place = c.loop-entry.place in
    let rest = c.next.new.self in
    let at : drop place log ≡ c.in-Some.entry ∷ rest = sym c.loop-entry.invariant.left ∙ c.in-Some.ensures.steps in
    record {
      left = rest_behind c.args.point log place c.in-Some.entry rest at;
      within = omega (arith, place_inside c.args.point log place c.in-Some.entry rest at);
      so_far =
          front_on c.args.point log place c.in-Some.entry rest at (sym c.is_mark.ensures ∙ c.if-is_mark.false)
          ∙ ap (λ (es : List Entry). take place log ++ front c.args.point es) (sym c.in-Some.ensures.steps) ∙ c.loop-entry.invariant.so_far;
    }
