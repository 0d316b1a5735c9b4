use Rattle.std.proofs.Common.{ap, sym, ◌∙◌, None}
use Rattle.std.specs.FinMap.{find}
use Rattle.std.proofs.lemmas.Result.{on_ok_weaker}
use Rattle.pc_model.specs.Database.{key_cmp, database_of, put}
use Rattle.pc_model.proofs.PairMapLaws.{of_get}
use Rattle.pc_replay.proofs.ChangeLemmas.{noted, forgotten, absent}
use Rattle.pc_replay.proofs.overlay.Overlay.remove.Goals as goal

pub returns-in-Ok : goal.returns-in-Ok
returns-in-Ok c =
    on_ok_weaker c.note.result
    (λ updates. noted (database_of c.self.inside.pairs.items) c.self.inside.changes c.note.new.changes c.args.key None updates ∙ ap (λ db. put db c.args.key None) c.self.view_is) c.note.ensures

pub returns-in-Err : goal.returns-in-Err
returns-in-Err c =
    let pairs = c.self.inside.pairs.items in
    let none = sym (of_get pairs c.args.key) ∙ ap (find key_cmp c.args.key) (sym c.deref.ensures.value) ∙ c.in-Err.ensures.gap.finds in
    forgotten (database_of pairs) c.self.inside.changes c.forget.new.changes c.args.key (database_of pairs) None (absent (database_of pairs) c.args.key none) c.forget.ensures
    ∙ ap (λ db. put db c.args.key None) c.self.view_is
