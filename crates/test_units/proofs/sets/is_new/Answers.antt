use Rattle.std.proofs.Common.{IsTrue, subst, rules}
use Rattle.std.specs.Prelude.{not}
use Rattle.test_units.proofs.Apart.{not_found}
use Rattle.test_units.proofs.sets.is_new.Goals as goal

pub returns-then-opened-lt12 : goal.returns-then-opened-lt12
returns-then-opened-lt12 c = λ h.
    ((search rules), (search rules), not_found c.args.slot c.args.opened.now (subst (λ b. IsTrue (not b)) c.contains.ensures.value h))
