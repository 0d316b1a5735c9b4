use Rattle.std.proofs.Common.{◌≡◌, ◌+◌, suc, List, [], ◌∷◌, ◌++◌, take, sym, ap, ◌∙◌, ℕ, arith}
use Rattle.pc_types.specs.declared.Entry.{Entry}
use Rattle.pc_kept_log.specs.Logs.{entries_of}
use Rattle.pc_kept_log.proofs.PieceLaws.{one_read}
use Rattle.pc_kept_log.proofs.log.Log.entries.Goals as goal

pub loop-place-preserved : goal.loop-place-preserved
loop-place-preserved c =
    let all = entries_of c.args.self.now in
    let next : suc c.loop-place.place ≡ c.loop-place.place + 1 = omega arith in
    record {
      so_far =
          c.push_reserved.ensures.items ∙ ap (λ (es : List Entry). es ++ c.in_ok-entry.field-0 ∷ []) c.loop-place.invariant.so_far ∙ sym (one_read all c.loop-place.place c.in_ok-entry.field-0 c.in_ok-entry.ensures)
          ∙ ap (λ (n : ℕ). take n all) next;
      room = omega (arith, c.push_reserved.ensures.len, c.push_reserved.ensures.capacity, c.loop-place.invariant.room, c.loop-place-test.true);
    }
