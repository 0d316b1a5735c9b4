-- The files that the bag and the collapsers' hands hold together.
use Rattle.std.specs.Prelude.{◌≡◌, ℕ, ◌+◌, ◌≤◌, List, [], ◌∷◌, ◌++◌, length, Option, None, IfSome}
use Rattle.std.specs.Option.{option_or}
use mathlib.Core.Option.{some}
use lib.ListN.{get_elem?}
use Rattle.pc_types.specs.declared.Refusal.{Refusal}
use Rattle.pc_model.specs.Files.{File}
use Rattle.crossbeam_queue.specs.Passes.{view, IsPassOf}
use Rattle.crossbeam_queue.specs.declared.array_queue.Doing.{Doing}
use Rattle.crossbeam_queue.specs.declared.array_queue.Slotted.{Slotted}
use Rattle.pc_collapse.specs.Worth.{AreWorth, IsCauseFor}
use Rattle.pc_types.specs.declared.limits.TheConstants.{MOST_COLLAPSERS}
use Rattle.pc_collapse.specs.declared.bag.BagCollapser.{BagCollapser}
use Rattle.pc_collapse.specs.declared.rule.Hand.{Hand}

-- a hand with that many parts of the right to know the whole
abbrev pub hand : ℕ → List File → Hand
hand parts held = record { parts = parts; held = held }

-- the right to know the whole: a part for each collapser there may be, and one for the caller
abbrev pub all_parts : ℕ
all_parts = MOST_COLLAPSERS + 1

-- what all hands hold
abbrev pub held_by : List Hand → List File
held_by [] = []
held_by (v ∷ vs) = v.held ++ held_by vs

-- the parts of the right to know the whole, added up
abbrev pub parts_of : List Hand → ℕ
parts_of [] = 0
parts_of (v ∷ vs) = v.parts + parts_of vs

-- The rule: the files in the bag and in the hands together represent the given files, and are no more of them. A hand
-- without a part of the right to know the whole holds nothing.
pub record Bagged (given items : List File) (views : List Hand) : Type 0 where
  pub worth : AreWorth given (items ++ held_by views)
  pub few : length items + length (held_by views) ≤ length given
  pub parts : parts_of views ≡ all_parts
  pub idle : (pass : ℕ) (v : Hand) → get_elem? views pass ≡ some v → v.parts ≡ 0 → v.held ≡ []

-- what is held without the file that was taken last
abbrev pub held_without_last : List File → List File
held_without_last [] = []
held_without_last (f ∷ fs) = fs

module _ {G Q A : Type 0} (bag : Slotted (Option File) (Doing File Hand) Q A) where
  -- a collapser that holds nothing
  abbrev pub IsReady : BagCollapser G → Type 0
  IsReady c = IsPassOf bag c.pass × (view c.pass ≡ hand 1 [])

-- the same, and if a join was refused, the fold of the given files may be refused for it
abbrev pub IsBagDone : {G Q A : Type 0} → List File → Slotted (Option File) (Doing File Hand) Q A → BagCollapser G → Type 0
IsBagDone given bag c = IsReady bag c × IfSome c.refused (IsCauseFor given)

-- the first refusal that a collapser kept, if one did
abbrev pub first_kept : {G : Type 0} → List (BagCollapser G) → Option Refusal
first_kept [] = None
first_kept (c ∷ cs) = option_or c.refused (first_kept cs)
