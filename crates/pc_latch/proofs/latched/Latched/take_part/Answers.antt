use Rattle.std.proofs.Common.{◌≡◌, List, ap, ◌∙◌, subst}
use Rattle.std.specs.Prelude.{Some, IfOk}
use Rattle.pc_model.specs.Files.{File, file_at, shelf}
use Rattle.pc_tie.specs.Seats.{KeeperView}
use Rattle.pc_latch.proofs.CycleLaws.{shelf_known}
use Rattle.pc_latch.proofs.Worths.{same_refusal}
use Rattle.pc_latch.proofs.latched.Latched.take_part.Goals as goal

pub returns-clause-file : goal.returns-clause-file
returns-clause-file g c =
    let run = g.N.StoreName.name.setting.run in
    let same : shelf run c.compare_own.new.self.history ≡ shelf run c.args.checkpointer.now = ap (λ (m : KeeperView). shelf run m.history) c.compare_own.ensures.same.0 ∙ shelf_known run c.self.inside.keeper.history c.args.checkpointer.now c.compare_own.ensures.knew in
    subst (λ (files : List File). IfOk c.ticket.result (λ t. file_at files c.args.number ≡ Some t)) same c.ticket.ensures.file

pub returns-clause-refused : goal.returns-clause-refused
returns-clause-refused g c =
    let st = g.N.StoreName.name.setting in
    let same : shelf st.run c.compare_own.new.self.history ≡ shelf st.run c.args.checkpointer.now = ap (λ (m : KeeperView). shelf st.run m.history) c.compare_own.ensures.same.0 ∙ shelf_known st.run c.self.inside.keeper.history c.args.checkpointer.now c.compare_own.ensures.knew in
    same_refusal st c.compare_own.new.self.history c.args.checkpointer.now c.args.number c.ticket.result same c.ticket.ensures.refused

pub returns-clause-none : goal.returns-clause-none
returns-clause-none g c = λ none.
    let run = g.N.StoreName.name.setting.run in
    let same : shelf run c.compare_own.new.self.history ≡ shelf run c.args.checkpointer.now = ap (λ (m : KeeperView). shelf run m.history) c.compare_own.ensures.same.0 ∙ shelf_known run c.self.inside.keeper.history c.args.checkpointer.now c.compare_own.ensures.knew in
    c.ticket.ensures.none (ap (λ (files : List File). file_at files c.args.number) same ∙ none)
