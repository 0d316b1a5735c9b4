-- The join of two shelved files, on its way to the shelf.
use Rattle.std.specs.Prelude.{◌≡◌, ℕ, List, [], ◌∷◌, None, Result, Ok, Err, MatchOption}
use Rattle.pc_types.specs.declared.Refusal.{Refusal}
use Rattle.pc_types.specs.declared.Refusal.TheVariants as why
use Rattle.pc_types.specs.declared.Reply.TheVariants as told
use Rattle.pc_model.specs.Maps as map_of
use Rattle.pc_model.specs.Sets as set
use Rattle.pc_model.specs.Files.{File, file_at, join_of}
use Rattle.pc_model.specs.Replies.{join_refusal}
use Rattle.pc_engine.specs.declared.shelving.Shelvable.{Shelvable}

-- the part with its points and the number of its entries
pub record IsShelvable (part : File) (s : Shelvable) : Type 0 where
  pub part_is : s.part ≡ part
  pub points_are : s.points ≡ set.items part.points
  pub count : s.entries ≡ map_of.len part.triples

-- the join, if no refusal is due; otherwise the refusal, or that an allocation failed
abbrev pub IsJoin : List File → ℕ → ℕ → Result Shelvable Refusal → Type 0
IsJoin shelf a b (Ok s) = (join_refusal shelf (file_at shelf a) (file_at shelf b) ≡ None) × (join_of (file_at shelf a) (file_at shelf b) ≡ s.part ∷ []) × IsShelvable s.part s
IsJoin shelf a b (Err e) = MatchOption (join_refusal shelf (file_at shelf a) (file_at shelf b)) (e ≡ why.OutOfMemory) (λ due. due ≡ told.Refused e)
