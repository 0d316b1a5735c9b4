use Rattle.std.proofs.Common.{sym, subst, ◌∙◌}
use mathlib.Core.Bool.{false≢true}
use Rattle.pc_model.specs.Database.{Database}
use Rattle.pc_audit.specs.Tables.{IsContainedIn}
use Rattle.pc_audit.proofs.TableLemmas.{same_within}
use Rattle.pc_audit.proofs.table.Table.is.Goals as goal

pub returns-then-is_within : goal.returns-then-is_within
returns-then-is_within c =
    let own = c.args.self.now in
    let other = c.args.other.now in
    let W : Database → Type 0 = λ db. IsContainedIn db own in (
      λ yes. same_within own other (c.is_within.ensures.0 c.if-is_within.true) (c.is_within-then-is_within.ensures.0 yes),
      λ one. c.is_within-then-is_within.ensures.1 (subst W one (λ key value there. there)),
    )

pub returns-else-is_within : goal.returns-else-is_within
returns-else-is_within c =
    let W : Database → Type 0 = λ db. IsContainedIn c.args.self.now db in (
      λ yes. absurd (false≢true (sym c.if-is_within.false ∙ yes)),
      λ one. c.is_within.ensures.1 (subst W one (λ key value there. there)),
    )
