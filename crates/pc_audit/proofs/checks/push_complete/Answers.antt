use Rattle.std.proofs.Common.{◌↔◌, ◌∙◌, ap, sym, subst, All, List}
use Rattle.pc_replay.specs.Audits.{IsRight, triples_from}
use Rattle.pc_replay.specs.declared.audits.CompleteFile.{CompleteFile}
use Rattle.pc_audit.specs.Checks.{IsFileRight}
use Rattle.pc_audit.proofs.RightFiles.{with_copy}
use Rattle.pc_audit.proofs.checks.push_complete.Goals as goal

pub returns-in_ok-push-clause-right : goal.returns-in_ok-push-clause-right
returns-in_ok-push-clause-right c base log =
    let copies = c.args.complete.now.items in
    let P : List CompleteFile → Type 0 = λ items. All (IsRight base log) items ↔ (All (IsRight base log) copies × IsFileRight base log c.args.file.now) in
    subst P (sym c.in_ok-push.ensures.items) (with_copy base log copies c.args.file.now (record { point = c.in-Some.point; triples = c.in_ok-triples.triples }) c.in-Some.ensures
    (ap (λ triples. triples_from triples) c.in_ok-triples.ensures ∙ c.entries.ensures.triples))
