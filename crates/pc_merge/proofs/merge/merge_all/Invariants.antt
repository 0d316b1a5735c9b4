use Rattle.std.proofs.Common.{◌≡◌, ℕ, Bool, IsTrue, All, List, Some, None, length, map}
use Rattle.std.specs.Prelude.{vec_len}
use Rattle.pc_types.specs.declared.Triple.{Triple}
use Rattle.pc_merge.specs.Coming.{Coming}
use Rattle.pc_merge.specs.Inputs.{all_known, left_in}
use Rattle.pc_merge.specs.Standings.{AreWithin}
use Rattle.pc_merge.proofs.MergeLaws.{IsUnderWay}
use Rattle.pc_merge.proofs.merge.merge_all.Given as goal

abbrev pub invariant-loop : goal.invariant-loop
invariant-loop g l = record {
  count : vec_len l.all ≡ l.counter;
  together : length l.inputs ≡ length l.merge.firsts;
  sound : l.merge.refused ≡ None;
  stand : map g.E.Entries.standing l.inputs ≡ map g.E.Entries.standing l.fn.inputs;
  to_come : (points : ℕ → Bool) → All (λ input. g.E.Entries.within input points) l.fn.inputs → AreWithin g.E.Entries.within points l.inputs l.merge.firsts;
  given : (points : ℕ → Bool) → All (λ input. g.E.Entries.within input points) l.fn.inputs → All (λ (entry : Triple). IsTrue (points entry.point)) l.all.items;
  way : (was : List Coming) → all_known (map g.E.Entries.coming l.fn.inputs) ≡ Some was → IsUnderWay was l.all.items (left_in (map g.E.Entries.coming l.inputs) l.merge);
}
