use Rattle.std.proofs.Common.{◌++◌, sym, ap, ◌∙◌}
use Rattle.std.proofs.lemmas.Result.{err_from_is_err_and}
use Rattle.pc_part.specs.Texts.{triple_text}
use Rattle.pc_part.proofs.PassedTexts.{one_stopped}
use Rattle.pc_part.proofs.encoding.put_entries.Goals as goal

pub returns-in_err-put_entry-clause-text : goal.returns-in_err-put_entry-clause-text
returns-in_err-put_entry-clause-text g c =
    let p = err_from_is_err_and c.from_residual.result c.from_residual.ensures.1 in
    rw (p.1, p.2) (one_stopped g.W.Write.contents triple_text c.args.out.now c.loop-entry.out c.put_entry.new.out c.loop-entry.yielded c.in-Some.entry c.loop-entry.invariant.sent c.in_err-put_entry.field-0.0 c.next.new.self c.args.entries
    (ap (λ es. c.loop-entry.yielded ++ es) (sym c.in-Some.ensures.steps) ∙ c.loop-entry.invariant.others) c.in_err-put_entry.ensures.text)
