use Rattle.std.proofs.Common.{ap, sym, ◌∙◌, ◌&&◌}
use mathlib.Core.Bool.{false≢true}
use Rattle.pc_replay.specs.Trees.{has_all}
use Rattle.pc_replay.proofs.TreeLemmas.{same_by_all, both}
use Rattle.pc_replay.proofs.tree.Tree.is.Goals as goal

pub returns-then-is_within : goal.returns-then-is_within
returns-then-is_within c =
    let same = same_by_all c.args.self.now c.args.other.now in
    let all = ap (λ b. b && has_all c.args.other.now c.args.self.now) (sym c.is_within.ensures ∙ c.if-is_within.true) in
    (λ yes. same.0 (all ∙ sym c.is_within-then-is_within.ensures ∙ yes), λ one. c.is_within-then-is_within.ensures ∙ sym all ∙ same.1 one)

pub returns-else-is_within : goal.returns-else-is_within
returns-else-is_within c = (
  λ yes. absurd (false≢true (sym c.if-is_within.false ∙ yes)),
  λ one. c.is_within.ensures ∙ (both (has_all c.args.self.now c.args.other.now) (has_all c.args.other.now c.args.self.now) ((same_by_all c.args.self.now c.args.other.now).1 one)).0,
)
