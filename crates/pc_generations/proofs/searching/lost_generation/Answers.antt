use Rattle.std.proofs.Common.{◌⊎◌, ℕ, List, None, sym, subst}
use Rattle.std.specs.List.{Contains}
use Rattle.pc_generations.proofs.SearchLaws.{none_lost}
use Rattle.pc_generations.proofs.searching.lost_generation.Goals as goal

pub returns : goal.returns
returns g c =
    let stands = g.G.Generations.stands c.args.folders.now in
    let IsListed : List ℕ → Type 0 = λ numbers. (number : ℕ) → Contains numbers number ⊎ ((name : List ℕ) → stands number name None) in
    none_lost stands c.deref-number-items.result.now c.args.latest c.loop-number.number-index (subst IsListed (sym c.deref-number-items.ensures.value) c.in_ok-numbers.ensures)
    c.loop-number-test.false c.loop-number.invariant.none
