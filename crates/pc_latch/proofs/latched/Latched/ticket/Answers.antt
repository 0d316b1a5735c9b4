use Rattle.std.proofs.Common.{◌∷◌, ◌++◌, [], List, Err, sym, ap, ◌∙◌}
use Rattle.pc_model.specs.History.{History, log_of}
use Rattle.pc_model.specs.Standing.{IsOfItsPoints}
use Rattle.pc_latch.proofs.Worths.{worth_new, shelved_worth, shelved_points, shelved_by_history, none_handed, some_handed, not_missing}
use Rattle.pc_latch.proofs.latched.Latched.ticket.Goals as goal

pub returns-in-Err-clause-refused : goal.returns-in-Err-clause-refused
returns-in-Err-clause-refused g c =
    none_handed g.N.StoreName.name.setting c.self.inside.world c.self.inside.keeper.history c.args.self.now c.args.number c.in-Err.why c.self.invariant.2 c.self.invariant.1 c.self.view_is
    (λ e. c.in-Err.ensures.none.0 (ap Err e)) c.in-Err.ensures.refusals

pub returns-in-Err-clause-none : goal.returns-in-Err-clause-none
returns-in-Err-clause-none g c = λ missing.
    let e = c.in-Err.ensures.none.1 (sym (shelved_by_history g.N.StoreName.name.setting c.self.inside.world c.self.inside.keeper.history c.args.self.now c.args.number c.self.invariant.2 c.self.invariant.1 c.self.view_is) ∙ missing) in
    cc (e)

pub invariant_of-result : goal.invariant_of-result
invariant_of-result g c =
    let st = g.N.StoreName.name.setting in
    let hist = c.self.inside.keeper.history in
    let items = c.push_reserved.ensures.items ∙ ap (λ (l : List History). l ++ c.witness.result ∷ []) (c.reserve.ensures.items ∙ c.new-witnesses.ensures.items) in
    let of : IsOfItsPoints st.run st.base (log_of hist) c.in-Ok.part = shelved_worth st c.self.inside.world hist c.args.number c.in-Ok.part c.self.invariant.2 c.self.invariant.1 c.in-Ok.ensures.file in
    worth_new st hist c.witness.result _ c.in-Ok.part items c.witness.ensures.witness of

pub returns-clause-point : goal.returns-clause-point
returns-clause-point g c = shelved_points c.self.inside.world c.self.inside.keeper.history c.args.number c.in-Ok.part c.self.invariant.1 c.self.invariant.3 c.in-Ok.ensures.file

pub returns-clause-file : goal.returns-clause-file
returns-clause-file g c = some_handed g.N.StoreName.name.setting c.self.inside.world c.self.inside.keeper.history c.args.self.now c.args.number c.in-Ok.part c.self.invariant.2 c.self.invariant.1 c.self.view_is c.in-Ok.ensures.file

pub returns-clause-none : goal.returns-clause-none
returns-clause-none g c = λ missing.
    absurd (not_missing g.N.StoreName.name.setting c.self.inside.world c.self.inside.keeper.history c.args.self.now c.args.number c.in-Ok.part c.self.invariant.2 c.self.invariant.1 c.self.view_is c.in-Ok.ensures.file missing)
