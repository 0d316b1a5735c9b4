use Rattle.std.proofs.Common.{sym, subst, ◌∙◌}
use Rattle.pc_model.specs.Database.{Database}
use Rattle.pc_audit.specs.Tables.{IsContainedIn}
use Rattle.pc_audit.proofs.TableLemmas.{all_within, within_all}
use Rattle.pc_audit.proofs.table.Table.is_within.Goals as goal

pub returns : goal.returns
returns c =
    let entries = c.self.inside.pairs.entries in
    let other = c.args.other.now in
    let W : Database → Type 0 = λ db. IsContainedIn db other in (
      λ yes. subst W c.self.view_is (all_within entries other (sym c.all_in.ensures.all ∙ yes)),
      λ within. c.all_in.ensures.all ∙ within_all entries other c.all_in.ensures.unique (subst W (sym c.self.view_is) within),
    )
