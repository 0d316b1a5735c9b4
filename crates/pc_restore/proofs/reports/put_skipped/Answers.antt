use Rattle.std.proofs.Common.{◌++◌, codes}
use Rattle.std.specs.Prelude.{slice_get}
use Rattle.std.proofs.lemmas.Result.{err_from_is_err_and}
use Rattle.pc_io.proofs.PutsLaws.{puts_then, puts_stop}
use Rattle.pc_texts.specs.Texts.{printed_name, refusal_text}
use Rattle.pc_restore.specs.Reports.{name_at}
use Rattle.pc_restore.specs.Recoveries.{names_of}
use Rattle.pc_restore.proofs.reports.put_skipped.Goals as goal

pub returns-in_err-put_place : goal.returns-in_err-put_place
returns-in_err-put_place g c =
    let p = err_from_is_err_and c.from_residual.result c.from_residual.ensures.1 in
    rw (p.1, p.2) (puts_stop g.W.Write.contents c.args.out.now c.put_place.new.out _ (codes "skipped " ++ printed_name (name_at (slice_get (names_of c.args.parts.now) c.args.skipped.now.place))) (codes " " ++ (refusal_text c.args.skipped.now.reason ++ codes "\n")) (rw c.name_at.ensures at c.in_err-put_place.ensures))

pub returns : goal.returns
returns g c =
    puts_then g.W.Write.contents c.args.out.now c.put_place.new.out c.put_reason_line.new.out c.put_reason_line.result (codes "skipped " ++ printed_name (name_at (slice_get (names_of c.args.parts.now) c.args.skipped.now.place))) (codes " " ++ (refusal_text c.args.skipped.now.reason ++ codes "\n")) (rw c.name_at.ensures at c.in_ok-put_place.ensures) c.put_reason_line.ensures
