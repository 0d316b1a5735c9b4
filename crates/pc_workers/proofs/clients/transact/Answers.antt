use Rattle.std.proofs.Common.{ap, sym, subst, ◌∙◌, inr}
use Rattle.std.specs.Prelude.{is_some}
use Rattle.pc_shared.specs.Sitters.{Sitter}
use Rattle.pc_workers.specs.Attempts.{OneDies}
use Rattle.pc_workers.specs.Courses.{IsCourse}
use Rattle.pc_workers.specs.declared.clients.EndedTransaction.TheVariants.{Committed}
use Rattle.pc_workers.proofs.AskedLaws.{when_true}
use Rattle.pc_workers.proofs.AttemptLaws.{commit_is_refused, commit_is_made}
use Rattle.pc_workers.proofs.WaitLaws.{waited}
use Rattle.pc_workers.proofs.clients.transact.Goals as goal

pub returns-in-Err-commit-clause-course : goal.returns-in-Err-commit-clause-course
returns-in-Err-commit-clause-course g c =
    let st = g.N.StoreName.name.setting in
    let s = c.args.session.now.number in
    let begun = c.begin.new.session.seen in
    inr (
      begun,
      (c.in_default.field-0, c.in_default.ensures.call),
      commit_is_refused st s c.args.ops.now begun c.make_all.new.session.seen c.commit.new.session.seen c.begin.new.session.number c.make_all.new.session.number c.begin.ensures.number
          (c.make_all.ensures.receipts.number ∙ c.begin.ensures.number) (when_true (OneDies st c.begin.new.session.number c.args.ops.now begun c.make_all.new.session.seen) c.in-Ok-true.field-0 c.in-Ok-true.field-0-test c.in-Ok-true.ensures.made) (ap (λ (x : Sitter). x.seen) c.in-Err-commit.ensures.same) _
          c.in-Err-commit.ensures.refused,
    )

pub returns-clause-course : goal.returns-clause-course
returns-clause-course g c =
    let st = g.N.StoreName.name.setting in
    let s = c.args.session.now.number in
    let begun = c.begin.new.session.seen in
    subst (λ (x : Sitter). IsCourse st s c.args.ops.now Committed c.args.session.now.seen x.seen) (sym c.hold.ensures.same)
    (commit_is_made st s c.args.ops.now c.args.session.now.seen begun c.make_all.new.session.seen c.commit.new.session.seen c.begin.new.session.number c.make_all.new.session.number c.begin.ensures.number
    (c.make_all.ensures.receipts.number ∙ c.begin.ensures.number) (c.in_default.field-0, c.in_default.ensures.call)
    (when_true (OneDies st c.begin.new.session.number c.args.ops.now begun c.make_all.new.session.seen) c.in-Ok-true.field-0 c.in-Ok-true.field-0-test c.in-Ok-true.ensures.made) c.in-Ok.entry c.in-Ok.ensures.call)

pub returns-clause-held : goal.returns-clause-held
returns-clause-held g c = λ committed.
    waited g.N.StoreName.out g.N.StoreName.name.setting c.args.patience.now.lag (is_some c.hold.new.patience.log_end) c.commit.new.session c.hold.new.session c.make_all.new.session.number c.in-Ok.entry c.make_all.new.session.seen
    c.hold.ensures.same c.in-Ok.ensures.call c.hold.ensures.out
