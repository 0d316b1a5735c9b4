use Rattle.std.proofs.Common.{◌≡◌, ℕ, false, ap, sym, subst, ◌∙◌}
use Rattle.std.specs.Option.{is_some}
use Rattle.pc_model.specs.Database.{written}
use Rattle.pc_model.specs.Replies.{Setting, no_session}
use Rattle.pc_engine.specs.Store.{setting_of, active_of}
use Rattle.pc_transactions.specs.Sessions.{writes_in}
use Rattle.pc_latch.proofs.OwnReading.{is_known, writes_known}
use Rattle.pc_types.specs.declared.Event.TheVariants.{Get}
use Rattle.pc_latch.proofs.Asking.{asked}
use Rattle.pc_latch.proofs.latched.Latched.get.Goals as goal

pub returns-clause-asked : goal.returns-clause-asked
returns-clause-asked g c =
    let hist = c.self.inside.keeper.history in
    let stands = c.self.invariant.1 in
    asked g.N.StoreName.name.setting c.self.inside.world c.read-answer.new.world hist c.number-number.result c.args.session.now c.note.new.session (λ n. Get n c.args.key.now) _ c.get-step.result c.get-step.ensures c.number-number.ensures.number stands c.self.invariant.2 (c.read-answer.ensures.follows hist stands) c.note.ensures.knew c.note.ensures.number c.note.ensures.moves

pub returns-clause-own_write : goal.returns-clause-own_write
returns-clause-own_write g c = λ opened.
    let w = c.self.inside.world in
    let s = c.args.session.now in
    let key = c.args.key.now in
    let known : no_session (setting_of w) s.number ≡ false = subst (λ (st : Setting). no_session st s.number ≡ false) (sym c.self.invariant.2) (is_known g.N.StoreName.name.setting s c.number-number.ensures.session) in
    c.has_written-own_write.ensures ∙ (ap (λ (n : ℕ). is_some (written (writes_in (active_of w n)) key)) c.number-number.ensures.number ∙ ap (λ ws. is_some (written ws key)) (writes_known w c.self.inside.keeper.history s.seen s.number c.self.invariant.1 known c.note.ensures.knew opened))
