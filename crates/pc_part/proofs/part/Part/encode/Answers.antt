use Rattle.std.proofs.Common.{◌++◌, List, ℕ, length, arith, subst, Err}
use Rattle.std.proofs.lemmas.Result.{err_from_is_err_and}
use Rattle.std.specs.List.{flat_map}
use Rattle.pc_io.specs.Tallies.{Puts}
use Rattle.pc_io.proofs.PutsLaws.{puts_then, puts_stop}
use Rattle.pc_part.specs.Texts.{head_text, bounds_text, triple_text, end_text}
use Rattle.pc_part.proofs.LawfulParts.{part_lawful}
use Rattle.pc_part.proofs.PartTexts.{few_ranges, text_parts}
use Rattle.pc_part.proofs.Successes.{surely_so}
use Rattle.pc_part.proofs.part.Part.encode.Goals as goal

pub overflow_cast-ranges : goal.overflow_cast-ranges
overflow_cast-ranges g c = let few = few_ranges 1 c.ranges-ranges.result.now c.ranges-ranges.ensures.apart.1 in omega (arith, few)

pub returns-in_err-put_head-clause-text : goal.returns-in_err-put_head-clause-text
returns-in_err-put_head-clause-text g c =
    let p = err_from_is_err_and c.from_residual.result c.from_residual.ensures.1 in
    let contents = g.W.Write.contents in
    let a = head_text c.run-run.result (length c.ranges-ranges.result.now) in
    let b = flat_map bounds_text c.ranges-ranges.result.now ++ (flat_map triple_text c.entries-entries.result ++ end_text (length c.entries-entries.result)) in
    rw (p.1, p.2) (subst (λ (t : List ℕ). Puts contents c.args.out.now c.put_head.new.out (Err c.in_err-put_head.field-0.0) t)
    (text_parts c.args.self.now _ _ _ c.run-run.ensures c.ranges-ranges.ensures.bounds c.entries-entries.ensures.entries)
    (puts_stop contents c.args.out.now c.put_head.new.out c.in_err-put_head.field-0.0 a b c.in_err-put_head.ensures))

pub returns-in_err-put_ranges-clause-text : goal.returns-in_err-put_ranges-clause-text
returns-in_err-put_ranges-clause-text g c =
    let p = err_from_is_err_and c.from_residual-in_err-put_ranges.result c.from_residual-in_err-put_ranges.ensures.1 in
    let contents = g.W.Write.contents in
    let a = head_text c.run-run.result (length c.ranges-ranges.result.now) in
    let b = flat_map bounds_text c.ranges-ranges.result.now in
    let d = flat_map triple_text c.entries-entries.result ++ end_text (length c.entries-entries.result) in
    rw (p.1, p.2) (subst (λ (t : List ℕ). Puts contents c.args.out.now c.put_ranges.new.out (Err c.in_err-put_ranges.field-0.0) t)
    (text_parts c.args.self.now _ _ _ c.run-run.ensures c.ranges-ranges.ensures.bounds c.entries-entries.ensures.entries)
    (puts_then contents c.args.out.now c.put_head.new.out c.put_ranges.new.out (Err c.in_err-put_ranges.field-0.0) a (b ++ d) c.in_ok-put_head.ensures
    (puts_stop contents c.put_head.new.out c.put_ranges.new.out c.in_err-put_ranges.field-0.0 b d c.in_err-put_ranges.ensures)))

pub returns-in_err-put_entries-clause-text : goal.returns-in_err-put_entries-clause-text
returns-in_err-put_entries-clause-text g c =
    let p = err_from_is_err_and c.from_residual-in_err-put_entries.result c.from_residual-in_err-put_entries.ensures.1 in
    let contents = g.W.Write.contents in
    let a = head_text c.run-run.result (length c.ranges-ranges.result.now) in
    let b = flat_map bounds_text c.ranges-ranges.result.now in
    let d = flat_map triple_text c.entries-entries.result in
    let e = end_text (length c.entries-entries.result) in
    rw (p.1, p.2) (subst (λ (t : List ℕ). Puts contents c.args.out.now c.put_entries.new.out (Err c.in_err-put_entries.field-0.0) t)
    (text_parts c.args.self.now _ _ _ c.run-run.ensures c.ranges-ranges.ensures.bounds c.entries-entries.ensures.entries)
    (puts_then contents c.args.out.now c.put_head.new.out c.put_entries.new.out (Err c.in_err-put_entries.field-0.0) a (b ++ (d ++ e)) c.in_ok-put_head.ensures
    (puts_then contents c.put_head.new.out c.put_ranges.new.out c.put_entries.new.out (Err c.in_err-put_entries.field-0.0) b (d ++ e) c.in_ok-put_ranges.ensures
    (puts_stop contents c.put_ranges.new.out c.put_entries.new.out c.in_err-put_entries.field-0.0 d e c.in_err-put_entries.ensures.text))))

pub returns-clause-text : goal.returns-clause-text
returns-clause-text g c =
    let contents = g.W.Write.contents in
    let a = head_text c.run-run.result (length c.ranges-ranges.result.now) in
    let b = flat_map bounds_text c.ranges-ranges.result.now in
    let d = flat_map triple_text c.entries-entries.result in
    let e = end_text (length c.entries-entries.result) in
    subst (λ (t : List ℕ). Puts contents c.args.out.now c.put_end.new.out c.put_end.result t)
    (text_parts c.args.self.now _ _ _ c.run-run.ensures c.ranges-ranges.ensures.bounds c.entries-entries.ensures.entries)
    (puts_then contents c.args.out.now c.put_head.new.out c.put_end.new.out _ a (b ++ (d ++ e)) c.in_ok-put_head.ensures
    (puts_then contents c.put_head.new.out c.put_ranges.new.out c.put_end.new.out _ b (d ++ e) c.in_ok-put_ranges.ensures
    (puts_then contents c.put_ranges.new.out c.put_entries.new.out c.put_end.new.out _ d e c.in_ok-put_entries.ensures.text
    (subst (λ (n : ℕ). Puts contents c.put_entries.new.out c.put_end.new.out c.put_end.result (end_text n)) c.len-count.ensures c.put_end.ensures))))

pub returns-clause-lawful : goal.returns-clause-lawful
returns-clause-lawful g c = surely_so c.put_end.result
    (part_lawful c.args.self.now c.run-run.result c.ranges-ranges.result.now c.entries-entries.result c.run-run.ensures c.ranges-ranges.ensures.points c.entries-entries.ensures.entries
    (omega arith) c.ranges-ranges.ensures.apart c.entries-entries.ensures.covered c.entries-entries.ensures.limit c.in_ok-put_entries.ensures.lawful)
