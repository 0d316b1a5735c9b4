-- What a transaction sees of a key that it has set or removed.
use Rattle.pc_transactions.specs.Adds.{AddProceeds, value_of_sum}
use Rattle.pc_model.specs.Replies.{is_granted}
use Rattle.pc_types.specs.declared.Outcome.TheVariants.{Granted}
use Rattle.pc_types.specs.declared.Outcome.{Outcome}
use Rattle.std.specs.Prelude.{ℤ}
use Rattle.pc_model.proofs.ChangeLaws.{merge_if}
use Rattle.pc_types.specs.declared.Change.TheVariants.{Add}
use Rattle.std.proofs.Common.{◌≡◌, ℕ, List, Option, Some, None, is_none, refl, sym, ap, ◌∙◌, cond, true, false, Bool, is_some}
use Rattle.std.proofs.lemmas.Cmp.{eq_by_cmp_equiv}
use Rattle.pc_types.specs.declared.Write.{Write}
use Rattle.pc_types.specs.declared.Change.{Change}
use Rattle.pc_types.specs.Changes.{CanMerge, added, number_text, or_same, change_to}
use Rattle.pc_model.specs.Changes.{Applies, AppliesIfAny}
use Rattle.pc_model.specs.Database.{key_order, same_bytes, with_write, written, seen, write_of}
use Rattle.pc_model.proofs.WrittenKeyLaws.{merged_if, written_with}
use Rattle.pc_records.specs.Rows.{Row, record_of, stored}
use Rattle.pc_transactions.specs.Sessions.{seen_in, after_writing, writes_in}
use Rattle.pc_transactions.specs.Actives.{Active}

first_of : {X : Type 0} (b : Bool) (x y : X) → b ≡ true → cond b x y ≡ x
first_of true x y e = refl
first_of false x y e = absurd (let no : false ≡ true = e in cc)

merged_last : (before : Option Change) (content : Option (List ℕ)) → merged_if before (change_to content) ≡ change_to content
merged_last None content = refl
merged_last (Some before) None = refl
merged_last (Some before) (Some value) = refl

-- whatever it has done to the key before
written_last : (ws : List Write) (key : List ℕ) (content : Option (List ℕ)) → written (with_write ws (write_of key (change_to content))) key ≡ Some (change_to content)
written_last ws key content = written_with ws (write_of key (change_to content)) key ∙ first_of (same_bytes key key) _ (written ws key) ((eq_by_cmp_equiv key_order.total).refl key) ∙ ap Some (merged_last (written ws key) content)

-- a key that is set or removed can always be
pub applies_content : (content : Option (List ℕ)) (there : Option (List ℕ)) → Applies (change_to content) there
applies_content None there = tt
applies_content (Some value) there = tt

-- and that can be kept as one change with it
pub may_merge : (before : Option Change) (content : Option (List ℕ)) → CanMerge before (change_to content)
may_merge before None = tt
may_merge before (Some value) = tt

content_of : (content there : Option (List ℕ)) → content ≡ seen (Some (change_to content)) there
content_of None there = refl
content_of (Some value) there = refl

pub sees_content : (rows : List Row) (a : Option Active) (key : List ℕ) (content : Option (List ℕ)) → is_none a ≡ false → content ≡ seen_in rows (after_writing a (write_of key (change_to content))) key
sees_content rows None key content there = absurd (let no : true ≡ false = there in cc)
sees_content rows (Some a) key content there = content_of content (stored (record_of rows key)) ∙ sym (ap (λ o. seen o (stored (record_of rows key))) (written_last a.writes key content))

-- if an add applies to what a transaction sees of a key, it leaves the sum there
pub sees_sum : (rows : List Row) (a : Option Active) (key : List ℕ) (delta sum : ℤ) → is_none a ≡ false → AppliesIfAny (written (writes_in a) key) (stored (record_of rows key)) → added delta (seen_in rows a key) ≡ Some sum →
    Some (number_text sum) ≡ seen_in rows (after_writing a (write_of key (Add delta))) key
sees_sum rows None key delta sum there apply is = absurd (let no : true ≡ false = there in cc)
sees_sum rows (Some a) key delta sum there apply is =
    let before : Option Change = written a.writes key in
    let committed : Option (List ℕ) = stored (record_of rows key) in
    let some : is_some (added delta (seen before committed)) ≡ true = ap is_some is in
    sym (
    ap (λ o. seen o committed) (written_with a.writes (write_of key (Add delta)) key ∙ ap (λ b. cond b (Some (merged_if before (Add delta))) before) ((eq_by_cmp_equiv key_order.total).refl key))
    ∙ (merge_if before (Add delta) committed apply some).0 ∙ ap (or_same (seen before committed)) is
    )

-- an add that goes on leaves its sum in the key's place, if its request is granted
pub sum_left : (rows : List Row) (a : Option Active) (key : List ℕ) (delta : ℤ) (full : Bool) (o : Outcome) (sum : Option ℤ) → is_none a ≡ false → AppliesIfAny (written (writes_in a) key) (stored (record_of rows key)) → AddProceeds full o (seen_in rows a key) (written (writes_in a) key) delta sum → o ≡ Granted →
    value_of_sum sum ≡ seen_in rows (after_writing a (write_of key (Add delta))) key
sum_left rows a key delta full o None there apply on granted = absurd (let no : true ≡ false = sym (ap is_granted granted) ∙ on.1 in cc)
sum_left rows a key delta full o (Some sum) there apply on granted = sees_sum rows a key delta sum there apply on.2
