use Rattle.std.proofs.Common.{◌∙◌}
use Rattle.std.specs.Ordering.{nat_cmp}
use Rattle.std.specs.Cmp.Lexicographic.{slice_cmp}
use Rattle.pc_taken.proofs.HeadedLaws.{by_numbers}
use Rattle.pc_taken.proofs.headed.Headed.compare.Goals as goal

pub returns-then-self-other : goal.returns-then-self-other
returns-then-self-other c =
    c.cmp.ensures ∙ by_numbers c.self.inside.head c.other.inside.head c.self.inside.key c.other.inside.key c.self.invariant c.other.invariant c.if-self-other.true
    ∙ (λ t. slice_cmp nat_cmp (c.self.view_is t) (c.other.view_is t))
