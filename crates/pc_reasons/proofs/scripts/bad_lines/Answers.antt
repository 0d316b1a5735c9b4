use Rattle.std.proofs.Common.{List, [], ℕ, map, get_or, sym, arith, Bor}
use Rattle.std.proofs.lemmas.List.{get_or-map, length-map}
use Rattle.pc_reasons.proofs.ScriptLemmas.{bad_more}
use Rattle.pc_reasons.proofs.scripts.bad_lines.Goals as goal

abbrev none : Bor (List ℕ)
none = record { ref_ptr = (0, 0); now = [] }

pub loop-index-preserved : goal.loop-index-preserved
loop-index-preserved c =
    let lines = c.args.lines.now in
    let texts = map (λ (w : Bor (List ℕ)). w.now) lines in
    let i = c.loop-index.index in
    bad_more texts i (get_or lines i none).now c.loop-index.bad.items c.in_ok-bad.bad.items _ (omega (arith, length-map lines (λ (w : Bor (List ℕ)). w.now))) (sym (get_or-map (λ (w : Bor (List ℕ)). w.now) lines i none [] c.loop-index-test.true)) c.loop-index.invariant c.in_ok-bad.ensures
