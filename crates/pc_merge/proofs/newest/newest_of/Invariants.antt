use Rattle.std.proofs.Common.{◌≡◌, ℕ, Bool, IsTrue, List, Some, length, map}
use Rattle.pc_merge.specs.Coming.{Coming}
use Rattle.pc_merge.specs.Drawing.{ArePassing}
use Rattle.pc_merge.specs.Standings.{AreWithin}
use Rattle.pc_merge.specs.Tournaments.{first_entry_at, IsNoLater}
use Rattle.pc_merge.proofs.PlacesLeft.{having}
use Rattle.pc_merge.proofs.newest.newest_of.Given as goal

abbrev pub invariant-loop-place : goal.invariant-loop-place
invariant-loop-place g l = record {
  together : length l.inputs ≡ length l.firsts;
  stand : map g.E.Entries.standing l.inputs ≡ map g.E.Entries.standing l.fn.inputs;
  key : l.newest.key ≡ l.fn.entry.key;
  within : (points : ℕ → Bool) → IsTrue (points l.fn.entry.point) → AreWithin g.E.Entries.within points l.fn.inputs l.fn.firsts → IsTrue (points l.newest.point) × AreWithin g.E.Entries.within points l.inputs l.firsts;
  least : (place : ℕ) → IsNoLater (Some l.newest) (first_entry_at l.firsts place);
  passing : (was : List Coming) → ArePassing was (map g.E.Entries.coming l.fn.inputs) l.fn.firsts l.fn.entry → ArePassing was (map g.E.Entries.coming l.inputs) l.firsts l.newest;
}

abbrev pub decreases-loop-place : goal.decreases-loop-place
decreases-loop-place g l = having l.newest.key l.firsts
