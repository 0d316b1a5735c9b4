use Rattle.std.proofs.Common.{◌⊎◌, ℕ, List, None, sym, subst}
use Rattle.std.specs.List.{Contains}
use Rattle.pc_generations.proofs.RemovalLaws.{removal_ends}
use Rattle.pc_generations.proofs.beginning.remove_older.Goals as goal

pub returns-clause-gone : goal.returns-clause-gone
returns-clause-gone g c =
    let old = g.G.Generations.stands c.args.folders.now in
    let IsListed : List ℕ → Type 0 = λ numbers. (number : ℕ) → Contains numbers number ⊎ ((name : List ℕ) → old number name None) in
    removal_ends old (g.G.Generations.stands c.loop-older.folders) c.args.keep c.args.number c.loop-older.removal c.deref-older-items.result.now c.loop-older.older-index
    (subst IsListed (sym c.deref-older-items.ensures.value) c.in_ok-numbers.ensures) c.loop-older.invariant.less c.loop-older-test.false c.loop-older.invariant.gone
