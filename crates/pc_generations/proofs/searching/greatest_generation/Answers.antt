use Rattle.std.proofs.Common.{◌⊎◌, ℕ, List, None, sym, subst}
use Rattle.std.specs.List.{Contains}
use Rattle.pc_generations.proofs.SearchLaws.{top_found}
use Rattle.pc_generations.proofs.searching.greatest_generation.Goals as goal

pub returns : goal.returns
returns g c =
    let stands = g.G.Generations.stands c.args.folders.now in
    let IsListed : List ℕ → Type 0 = λ numbers. (number : ℕ) → Contains numbers number ⊎ ((name : List ℕ) → stands number name None) in
    top_found stands c.deref-number-items.result.now c.loop-number.greatest c.loop-number.number-index (subst IsListed (sym c.deref-number-items.ensures.value) c.in_ok-numbers.ensures)
    c.loop-number-test.false c.loop-number.invariant.covered
