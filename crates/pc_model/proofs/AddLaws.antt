-- An add that is granted if no cause of a refusal applies has a sum, and can be kept as one change with what was written of
-- its key. And if each transaction's sums are correct, what its commit does applies.
use Rattle.std.proofs.Common.{◌≡◌, ℕ, List, [], ◌∷◌, ◌++◌, eqb, not, ◌||◌, ◌&&◌, Option, Some, None, is_some, is_none, refl, sym, ap, ◌∙◌, cond, Bool, true, false, arith}
use Rattle.std.specs.Prelude.{⊤, MatchBool, ℤ}
use Rattle.std.proofs.lemmas.Bool.Decides.{nat_tests}
use Rattle.pc_types.specs.declared.Change.TheVariants.{Add}
use Rattle.pc_types.specs.declared.Entry.{Entry}
use Rattle.pc_types.specs.declared.Entry.TheVariants.{Commit, Token}
use Rattle.pc_types.specs.declared.Mode.TheVariants.{Exclusive}
use Rattle.pc_types.specs.declared.Outcome.TheVariants.{Granted}
use Rattle.pc_types.specs.declared.Refusal.{Refusal}
use Rattle.pc_types.specs.declared.Refusal.TheVariants as why
use Rattle.pc_types.specs.Changes.{added, can_add, change_to}
use Rattle.pc_model.specs.Maps.{get}
use Rattle.pc_model.specs.Database.{Database, applied_all, write_of, with_write, written, seen}
use Rattle.pc_model.specs.Changes.{Applies, AllApply, AddsApply}
use Rattle.pc_model.specs.Log.{after}
use Rattle.pc_model.specs.History.{History, Effect, effect, contents, log_of, transaction_number_of, writes_of, writes_by, entries_by}
use Rattle.pc_model.specs.History.Effect.{Begins, Reads, Writes, Adds, Waits, Dies, Commits, Aborts, Moves, Takes, Shelves, Joins, Nothing}
use Rattle.pc_model.specs.Locks.{outcome, queue_of}
use Rattle.pc_model.specs.Reads.{HasRightReads, HasReadFrom, ReadBy, RightBy}
use Rattle.pc_model.specs.Replies.{Setting, first_refusal, is_granted, write_causes, add_causes, may_write, no_number, out_of_range, seen_by}
use Rattle.pc_model.proofs.EffectLaws.{no_first, no_other, no_others}
use Rattle.pc_model.proofs.ChangeLaws.{still}

-- if no cause applies and the request is granted, there is a sum, and it can be kept
pub add_stands : (st : Setting) (h : History) (s : ℕ) (key : List ℕ) (delta : ℤ) → first_refusal (write_causes st s key h ++ add_causes st s key delta h) ≡ None → outcome (queue_of key h) (transaction_number_of s h) Exclusive ≡ Granted →
    (is_none (added delta (seen_by st s key h)) ≡ false) × (can_add (written (writes_of s h) key) delta ≡ true)
add_stands st h s key delta none granted = by_or (is_none (added delta (seen_by st s key h))) (can_add (written (writes_of s h) key) delta) in_range
  where
    range : List (Bool × Refusal)
    range = (may_write s key h && out_of_range st s key delta h, why.OutOfRange) ∷ []

    in_range : out_of_range st s key delta h ≡ false
    in_range =
        let last = no_first (may_write s key h && out_of_range st s key delta h, why.OutOfRange) [] (no_other (may_write s key h && no_number st s key h, why.NotNumber) range (no_others (write_causes st s key h) (add_causes st s key delta h) none)) in
        sym (ap (λ b. b && out_of_range st s key delta h) (ap is_granted granted)) ∙ last

    by_or : (a b : Bool) → (a || not b) ≡ false → (a ≡ false) × (b ≡ true)
    by_or true b e = cc
    by_or false true e = (refl, refl)
    by_or false false e = cc

module _ (db : Database) (s : ℕ) where
  abbrev Then : History → Effect → Type 0
  Then h e = ReadBy s db e h (HasReadFrom db s h) → (HasReadFrom db s h → AllApply db (writes_of s h)) → AllApply db (writes_by s e (writes_of s h))

  set_applies : (v : Option (List ℕ)) (there : Option (List ℕ)) → Applies (change_to v) there
  set_applies None there = tt
  set_applies (Some value) there = tt

  begins : (h : History) (b : Bool) → MatchBool b ⊤ (HasReadFrom db s h) → (HasReadFrom db s h → AllApply db (writes_of s h)) → AllApply db (cond b [] (writes_of s h))
  begins h true m earlier = λ q. tt
  begins h false m earlier = earlier m

  sets : (h : History) (k : List ℕ) (v : Option (List ℕ)) (b : Bool) → AllApply db (writes_of s h) → AllApply db (cond b (with_write (writes_of s h) (write_of k (change_to v))) (writes_of s h))
  sets h k v true apply = still db (writes_of s h) (write_of k (change_to v)) apply (set_applies v _)
  sets h k v false apply = apply

  adds : (h : History) (k : List ℕ) (d n : ℤ) (b : Bool) → (b ≡ true → added d (seen (written (writes_of s h) k) (get db k)) ≡ Some n) → AllApply db (writes_of s h) → AllApply db (cond b (with_write (writes_of s h) (write_of k (Add d))) (writes_of s h))
  adds h k d n true right apply = still db (writes_of s h) (write_of k (Add d)) apply (ap is_some (right refl))
  adds h k d n false right apply = apply

  by_effect : (h : History) (e : Effect) → Then h e
  by_effect h (Begins t) reads earlier = begins h (eqb t s) reads earlier
  by_effect h (Reads t k answer) reads earlier = earlier reads.1
  by_effect h (Writes t k v) reads earlier = sets h k v (eqb t s) (earlier reads)
  by_effect h (Adds t k d n) reads earlier = adds h k d n (eqb t s) (λ own. reads.0 (grind (arith, nat_tests))) (earlier reads.1)
  by_effect h (Waits t k x) reads earlier = earlier reads
  by_effect h (Dies t k x) reads earlier = earlier reads
  by_effect h (Commits t) reads earlier = earlier reads
  by_effect h (Aborts t) reads earlier = earlier reads
  by_effect h (Moves phase n) reads earlier = earlier reads
  by_effect h (Takes k c) reads earlier = earlier reads
  by_effect h (Shelves n) reads earlier = earlier reads
  by_effect h (Joins a b) reads earlier = earlier reads
  by_effect h Nothing reads earlier = earlier reads

  -- if a session's sums are correct, what its writes do to each key applies
  pub writes_apply : (h : History) → HasReadFrom db s h → AllApply db (writes_of s h)
  writes_apply [] reads = λ q. tt
  writes_apply (step ∷ h) reads = by_effect h (effect step) reads (writes_apply h)

-- more of a log whose adds apply
adds-append : (db : Database) (log more : List Entry) → AddsApply db log → AddsApply (after db log) more → AddsApply db (log ++ more)
adds-append db [] more first second = second
adds-append db (Commit s ws ∷ log) more first second = (first.0, adds-append (applied_all db ws) log more first.1 second)
adds-append db (Token phase point ∷ log) more first second = adds-append db log more first second

-- if the reads and sums of each committed transaction are correct, the adds of its commit apply
pub adds_apply : (base : Database) (h : History) → HasRightReads base h → AddsApply base (log_of h)
adds_apply base [] right = tt
adds_apply base (step ∷ h) right = adds-append base (log_of h) (entries_by (effect step) h) (adds_apply base h right.1) (by_step (effect step) right.0)
  where
    by_step : (e : Effect) → RightBy base e h → AddsApply (contents base h) (entries_by e h)
    by_step (Commits s) right = (writes_apply (contents base h) s h right, tt)
    by_step (Moves phase n) right = tt
    by_step (Shelves n) right = tt
    by_step other right = tt
