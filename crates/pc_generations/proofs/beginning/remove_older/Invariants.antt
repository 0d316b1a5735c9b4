use Rattle.std.proofs.Common.{◌+◌, ◌<◌, ℕ, List, None, OnOk}
use Rattle.std.specs.List.{AllWithin}
use Rattle.pc_generations.specs.Folders.{KeepsLast, NothingComes}
use Rattle.pc_generations.proofs.beginning.remove_older.Given as goal

-- of the generations that were looked at the older ones are gone, unless one couldn't be removed; the others are as they were
abbrev pub invariant-loop-older : goal.invariant-loop-older
invariant-loop-older g l = record {
  kept : KeepsLast l.keep (g.G.Generations.stands l.initial.folders) (g.G.Generations.stands l.folders) l.number;
  less : (other : ℕ) → NothingComes (g.G.Generations.stands l.initial.folders) (g.G.Generations.stands l.folders) other;
  gone : OnOk l.removal (AllWithin (λ older. older + l.keep < l.number → (name : List ℕ) → g.G.Generations.stands l.folders older name None) l.older-items 0 l.older-index);
}
