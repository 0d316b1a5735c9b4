-- Two changes of a key in a row are the merged one, and one more write of a transaction does what it does after all others.
use Rattle.std.proofs.Common.{◌≡◌, ℕ, List, [], ◌∷◌, refl, sym, ap, subst, ◌∙◌, cond, Bool, true, false, Option, Some, None, is_some}
use Rattle.std.specs.Prelude.{ℤ, ◌+ℤ◌, if◌then◌else◌}
use Rattle.std.specs.Option.{option_and_then}
use Rattle.std.proofs.lemmas.Cmp.{eq_by_cmp_equiv}
use Rattle.pc_types.specs.declared.Change.{Change}
use Rattle.pc_types.specs.declared.Change.TheVariants.{Set, Remove, Add}
use Rattle.pc_types.specs.declared.Write.{Write}
use Rattle.pc_types.specs.Changes.{fits_i64, number_text, content_number, sum_of, added, or_same, changed_content, change_to, merged}
use Rattle.pc_types.proofs.NumberLaws.{fits_is, read_back, is_sum, assoc}
use Rattle.pc_model.specs.Maps.{get}
use Rattle.pc_model.specs.Database.{Database, key_order, same_bytes, applied, applied_all, write_of, with_write, written, seen}
use Rattle.pc_model.specs.DistinctWrites.{AreDistinct}
use Rattle.pc_model.specs.Changes.{Applies, AppliesIfAny, AllApplyInTurn, merged_writes, AllApply}
use Rattle.pc_model.proofs.JoinLaws.{one_key, get_put}
use Rattle.pc_model.proofs.PairMapLaws.{same_database}
use Rattle.pc_model.proofs.WrittenKeyLaws.{merged_if, written_with}
use Rattle.pc_model.proofs.DistinctWriteLaws.{distinct_with, seen_of}

abbrev pub Merges : Change → Change → Option (List ℕ) → Type 0
Merges a b there = (changed_content (merged a b) there ≡ changed_content b (changed_content a there)) × Applies (merged a b) there

-- what leaves a content does so whatever was there
on_value : (content there : Option (List ℕ)) → (changed_content (change_to content) there ≡ content) × Applies (change_to content) there
on_value None there = (refl, tt)
on_value (Some v) there = (refl, tt)

-- an add after an add
on_add : (e d : ℤ) (there : Option (List ℕ)) (o : Option ℤ) → content_number there ≡ o → is_some (option_and_then (λ x. sum_of x e) o) ≡ true → is_some (added d (or_same there (option_and_then (λ x. sum_of x e) o))) ≡ true →
    (or_same there (option_and_then (λ x. sum_of x (e +ℤ d)) o) ≡ or_same (or_same there (option_and_then (λ x. sum_of x e) o)) (added d (or_same there (option_and_then (λ x. sum_of x e) o)))) × (is_some (option_and_then (λ x. sum_of x (e +ℤ d)) o) ≡ true)
on_add e d there None is first second = cc
on_add e d there (Some n) is first second =
    let one = is_sum n e first in
    let then_ : or_same there (sum_of n e) ≡ Some (number_text (n +ℤ e)) = ap (or_same there) one.0 in
    let more : added d (or_same there (sum_of n e)) ≡ sum_of (n +ℤ e) d = ap (added d) then_ ∙ ap (option_and_then (λ x. sum_of x d)) (read_back (n +ℤ e) (fits_is (n +ℤ e) one.1)) in
    let two = is_sum (n +ℤ e) d (sym (ap is_some more) ∙ second) in
    let all : sum_of n (e +ℤ d) ≡ Some ((n +ℤ e) +ℤ d) = ap (λ z. if fits_i64 z then Some z else None) (sym (assoc n e d)) ∙ two.0 in
    (ap (or_same there) all ∙ sym (ap (or_same (or_same there (sum_of n e))) (more ∙ two.0)), ap is_some all)

pub merge : (a b : Change) (there : Option (List ℕ)) → Applies a there → Applies b (changed_content a there) → Merges a b there
merge a (Set v) there first second = (refl, tt)
merge a Remove there first second = (refl, tt)
merge (Set v) (Add d) there first second = on_value (changed_content (Add d) (Some v)) there
merge Remove (Add d) there first second = on_value (changed_content (Add d) None) there
merge (Add e) (Add d) there first second = on_add e d there (content_number there) refl first second

-- a change after the earlier one does what both do in a row
pub merge_if : (o : Option Change) (change : Change) (there : Option (List ℕ)) → AppliesIfAny o there → Applies change (seen o there) → (changed_content (merged_if o change) there ≡ changed_content change (seen o there)) × Applies (merged_if o change) there
merge_if None change there first second = (refl, second)
merge_if (Some before) change there first second = merge before change there first second

turn : (k l : List ℕ) → same_bytes k l ≡ same_bytes l k
turn k l = (eq_by_cmp_equiv key_order.total).symm k l

-- one more write, merged with the earlier one of its key, does what it does after all of them
pub final_write : (db : Database) (ws : List Write) (w : Write) → AreDistinct ws → AppliesIfAny (written ws w.key) (get db w.key) → Applies w.change (seen (written ws w.key) (get db w.key)) →
    applied_all db (with_write ws w) ≡ applied (applied_all db ws) w
final_write db ws w d first second = same_database _ _ (λ q.
    seen_of db (with_write ws w) q (distinct_with ws w d) ∙ ap (λ o. seen o (get db q)) (written_with ws w q) ∙ by_match q (same_bytes w.key q) refl
    ∙ sym (get_put (applied_all db ws) w.key q (changed_content w.change (get (applied_all db ws) w.key))))
  where
    by_match : (q : List ℕ) (b : Bool) → same_bytes w.key q ≡ b → seen (cond b (Some (merged_if (written ws w.key) w.change)) (written ws q)) (get db q)
        ≡ cond (same_bytes q w.key) (changed_content w.change (get (applied_all db ws) w.key)) (get (applied_all db ws) q)
    by_match q true e =
        ap (λ k. changed_content (merged_if (written ws w.key) w.change) (get db k)) (sym (one_key w.key q e))
        ∙ (merge_if (written ws w.key) w.change (get db w.key) first second).0
        ∙ ap (changed_content w.change) (sym (seen_of db ws w.key d))
        ∙ ap (λ b. cond b (changed_content w.change (get (applied_all db ws) w.key)) (get (applied_all db ws) q)) (sym (turn q w.key ∙ e))
    by_match q false e = sym (seen_of db ws q d) ∙ ap (λ b. cond b (changed_content w.change (get (applied_all db ws) w.key)) (get (applied_all db ws) q)) (sym (turn q w.key ∙ e))

-- an add that doesn't apply changes nothing
pub nothing_done : (db : Database) (key : List ℕ) (d : ℤ) → added d (get db key) ≡ None → applied db (write_of key (Add d)) ≡ db
nothing_done db key d none = same_database _ _ (λ q. get_put db key q (changed_content (Add d) (get db key)) ∙ by_match q (same_bytes q key) refl)
  where
    by_match : (q : List ℕ) (b : Bool) → same_bytes q key ≡ b → cond b (changed_content (Add d) (get db key)) (get db q) ≡ get db q
    by_match q true e = ap (or_same (get db key)) none ∙ ap (get db) (sym (one_key q key e))
    by_match q false e = refl

-- More writes of a transaction, each applying to what the ones before it made, do the same if they are kept as one for each
-- key besides those of before.
module _ (db : Database) where
  pub still : (ws : List Write) (w : Write) → AllApply db ws → Applies w.change (seen (written ws w.key) (get db w.key)) → AllApply db (with_write ws w)
  still ws w apply own q = subst (λ o. AppliesIfAny o (get db q)) (sym (written_with ws w q)) (by_match (same_bytes w.key q) refl)
    where
      by_match : (b : Bool) → same_bytes w.key q ≡ b → AppliesIfAny (cond b (Some (merged_if (written ws w.key) w.change)) (written ws q)) (get db q)
      by_match true e = subst (λ k. Applies (merged_if (written ws w.key) w.change) (get db k)) (one_key w.key q e) (merge_if (written ws w.key) w.change (get db w.key) (apply w.key) own).1
      by_match false e = apply q

  pub final_writes_beside : (ws more : List Write) → AreDistinct ws → AllApply db ws → AllApplyInTurn (applied_all db ws) more → applied_all db (merged_writes ws more) ≡ applied_all (applied_all db ws) more
  final_writes_beside ws [] d apply in_turn = refl
  final_writes_beside ws (w ∷ more) d apply in_turn =
      let own : Applies w.change (seen (written ws w.key) (get db w.key)) = subst (Applies w.change) (seen_of db ws w.key d) in_turn.0 in
      let one : applied_all db (with_write ws w) ≡ applied (applied_all db ws) w = final_write db ws w d (apply w.key) own in
      final_writes_beside (with_write ws w) more (distinct_with ws w d) (still ws w apply own) (subst (λ now. AllApplyInTurn now more) (sym one) in_turn.1) ∙ ap (λ now. applied_all now more) one

  pub final_writes : (ws : List Write) → AllApplyInTurn db ws → applied_all db (merged_writes [] ws) ≡ applied_all db ws
  final_writes ws in_turn = final_writes_beside [] ws tt (λ q. tt) in_turn
