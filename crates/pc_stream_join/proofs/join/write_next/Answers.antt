use Rattle.std.proofs.Common.{◌≡◌, ◌<◌, ℕ, false, sym, subst, ◌∙◌, arith}
use Rattle.std.specs.Prelude.{nat_le}
use Rattle.std.proofs.lemmas.Bool.Decides.{nat_tests}
use Rattle.std.proofs.lemmas.Result.{err_from_is_err_and}
use Rattle.pc_stream_join.proofs.StepLaws.{HasAnswered, all_given, entry_fails, entry_written, next_fails, none_of, too_many}
use Rattle.pc_stream_join.proofs.join.write_next.Goals as goal

room_of : (count : ℕ) → nat_le 4294967295 count ≡ false → count < 4294967295
room_of count roomy = grind (arith, nat_tests)

pub returns-in_err-entry-clause-steps : goal.returns-in_err-entry-clause-steps
returns-in_err-entry-clause-steps g c = λ begun joining.
    let p = err_from_is_err_and c.from_residual.result c.from_residual.ensures.1 in
    rw (p.1, p.2) (next_fails g.R.Read.remaining g.W.Write.contents begun c.args.inputs.now c.args.merge.now c.args.writer.now c.args.out.now joining c.next.new.inputs c.next.new.self c.in_err-entry.field-0.0
    c.in_err-entry.ensures.goes_on (c.in_err-entry.ensures.stand joining.unrefused) (c.in_err-entry.ensures.refusals joining.unrefused))

pub returns-in_default-clause-steps : goal.returns-in_default-clause-steps
returns-in_default-clause-steps g c = λ begun joining.
    let answered : HasAnswered g.R.Read.remaining c.args.inputs.now c.args.merge.now c.next.new.inputs c.next.new.self c.in_ok-entry.field-0 =
    (c.in_ok-entry.ensures.goes_on, c.in_ok-entry.ensures.stand joining.unrefused, c.in_ok-entry.ensures.rises, c.in_ok-entry.ensures.within, c.in_ok-entry.ensures.refused) in
    let none = none_of c.in_ok-entry.field-0 c.in_default.not-Some in
    let a = subst (HasAnswered g.R.Read.remaining c.args.inputs.now c.args.merge.now c.next.new.inputs c.next.new.self) none answered in
    all_given g.R.Read.remaining g.W.Write.contents begun c.args.inputs.now c.args.merge.now c.args.writer.now c.args.out.now joining c.next.new.inputs c.next.new.self a.0 a.1

pub returns-then-is_full-clause-steps : goal.returns-then-is_full-clause-steps
returns-then-is_full-clause-steps g c = λ begun joining.
    let answered : HasAnswered g.R.Read.remaining c.args.inputs.now c.args.merge.now c.next.new.inputs c.next.new.self c.in_ok-entry.field-0 =
    (c.in_ok-entry.ensures.goes_on, c.in_ok-entry.ensures.stand joining.unrefused, c.in_ok-entry.ensures.rises, c.in_ok-entry.ensures.within, c.in_ok-entry.ensures.refused) in
    let a = subst (HasAnswered g.R.Read.remaining c.args.inputs.now c.args.merge.now c.next.new.inputs c.next.new.self) c.in-Some.is answered in
    too_many g.R.Read.remaining g.W.Write.contents begun c.args.inputs.now c.args.merge.now c.args.writer.now c.args.out.now joining c.next.new.inputs c.next.new.self c.in-Some.entry
    a.0 a.1 (sym c.is_full.ensures ∙ c.if-is_full.true)

pub returns-in_err-entry-2-clause-steps : goal.returns-in_err-entry-2-clause-steps
returns-in_err-entry-2-clause-steps g c = λ begun joining.
    let answered : HasAnswered g.R.Read.remaining c.args.inputs.now c.args.merge.now c.next.new.inputs c.next.new.self c.in_ok-entry.field-0 =
    (c.in_ok-entry.ensures.goes_on, c.in_ok-entry.ensures.stand joining.unrefused, c.in_ok-entry.ensures.rises, c.in_ok-entry.ensures.within, c.in_ok-entry.ensures.refused) in
    let a = subst (HasAnswered g.R.Read.remaining c.args.inputs.now c.args.merge.now c.next.new.inputs c.next.new.self) c.in-Some.is answered in
    let p = err_from_is_err_and c.from_residual-in_err-entry-2.result c.from_residual-in_err-entry-2.ensures.1 in
    rw (p.1, p.2) (entry_fails g.R.Read.remaining g.W.Write.contents begun c.args.inputs.now c.args.merge.now c.args.writer.now c.args.out.now joining c.next.new.inputs c.next.new.self c.in-Some.entry
    a.0 a.1 a.2 a.3 a.4 c.entry-2.ensures.lawful (room_of c.args.writer.now.count (sym c.is_full.ensures ∙ c.if-is_full.false)) c.entry-2.new.out c.entry-2.new.self.kept c.in_err-entry-2.field-0.0 c.in_err-entry-2.ensures.goes)

pub returns-clause-steps : goal.returns-clause-steps
returns-clause-steps g c = λ begun joining.
    let answered : HasAnswered g.R.Read.remaining c.args.inputs.now c.args.merge.now c.next.new.inputs c.next.new.self c.in_ok-entry.field-0 =
    (c.in_ok-entry.ensures.goes_on, c.in_ok-entry.ensures.stand joining.unrefused, c.in_ok-entry.ensures.rises, c.in_ok-entry.ensures.within, c.in_ok-entry.ensures.refused) in
    let a = subst (HasAnswered g.R.Read.remaining c.args.inputs.now c.args.merge.now c.next.new.inputs c.next.new.self) c.in-Some.is answered in (
      rw c.take_back.ensures (entry_written g.R.Read.remaining g.W.Write.contents begun c.args.inputs.now c.args.merge.now c.args.writer.now c.args.out.now joining c.next.new.inputs c.next.new.self c.in-Some.entry
          a.0 a.1 a.2 a.3 a.4 c.entry-2.ensures.lawful (room_of c.args.writer.now.count (sym c.is_full.ensures ∙ c.if-is_full.false)) c.entry-2.new.self c.entry-2.new.out c.in_ok-entry-2.ensures.goes c.in_ok-entry-2.ensures.counted),
      c.in_ok-entry-2.ensures.counted,
    )
