use Rattle.std.proofs.Common.{◌+◌, ◌++◌, List, ℕ, sym, ap, ◌∙◌, arith}
use Rattle.std.specs.Prelude.{slice_range}
use Rattle.std.specs.List.{flat_map}
use Rattle.std.proofs.lemmas.Grind.{flat_map-append}
use Rattle.pc_types.specs.declared.Entry.{Entry}
use Rattle.pc_kept_log.specs.Logs.{entries_of}
use Rattle.pc_log.specs.Texts.{entry_text}
use Rattle.pc_kept_log.proofs.PieceLaws.{ranges_join}
use Rattle.pc_kept_log.proofs.log.Log.copied_texts.Goals as goal

pub loop-done-preserved : goal.loop-done-preserved
loop-done-preserved c =
    let all = entries_of c.args.self.now in
    let from = c.args.from in
    let done = c.loop-done.done in
    let count = c.texts-count.result.count in
    record {
      so_far =
          c.in_ok-extend_from_slice.ensures.items ∙ ap (λ (t : List ℕ). t ++ c.texts-count.result.bytes.now) c.loop-done.invariant.so_far ∙ ap (λ (t : List ℕ). flat_map entry_text (slice_range all from (from + done)) ++ t) c.texts-count.ensures.texts
          ∙ sym (flat_map-append entry_text (slice_range all from (from + done)) (slice_range all (from + done) (from + done + count))) ∙ ap (λ (es : List Entry). flat_map entry_text es) (ranges_join all from done count);
      within = omega (arith, c.texts-count.ensures.most, c.loop-done-test.true);
    }
