-- The occupied keys are those of the records.
use Rattle.std.proofs.Common.{◌≡◌, ℕ, List, Option, Some, None, is_some, is_none, refl, sym, ap, ◌∙◌, Bool, not, eqb, ◌||◌, ◌&&◌}
use Rattle.pc_model.specs.Sets as set
use Rattle.pc_model.specs.History.{History}
use Rattle.pc_model.specs.Replies.{Setting, is_empty, occupied, is_full}
use Rattle.pc_model.proofs.CountLaws.{length_of_set}
use Rattle.pc_model.proofs.OccupiedKeyLaws.{four, occupied_is}
use Rattle.pc_records.specs.Rows.{Row, Record, Kept, record_of, stored, is_in_open_set, is_in_closed_set, requests_on}
use Rattle.pc_records.specs.RowSteps.{is_full_for}
use Rattle.pc_records.specs.Following.{AreRecords, stands_kept}

kept_by : (r : Option Record) → (is_some (stored r) || (not (is_empty (requests_on r)) || (is_in_open_set r || is_in_closed_set r))) ≡ stands_kept r
kept_by None = refl
kept_by (Some r) = refl

-- a key is occupied if it has a record
pub occupied_now : (st : Setting) (rows : List Row) (h : History) (q : List ℕ) → AreRecords st.base rows h → set.contains (occupied st h) q ≡ is_some (record_of rows q)
occupied_now st rows h q are =
    occupied_is st h q
    ∙ four _ _ _ _ _ _ _ _ (ap is_some (sym (are.stored q))) (ap (λ u. not (is_empty u)) (sym (are.requests q))) (sym (are.open_set q)) (sym (are.closed_set q))
    ∙ kept_by (record_of rows q)
    ∙ sym (are.kept q)

-- the records say when they are full for a key
pub full_now : (st : Setting) (kept : Kept) (h : History) (key : List ℕ) → st.capacity ≡ kept.capacity → AreRecords st.base kept.rows h → is_full_for kept key ≡ is_full st key h
full_now st kept h key same are =
    ap (λ n. is_none (record_of kept.rows key) && eqb n kept.capacity) (length_of_set kept.rows (occupied st h) are.sorted (λ q. occupied_now st kept.rows h q are))
    ∙ ap (λ n. is_none (record_of kept.rows key) && eqb (set.len (occupied st h)) n) (sym same)
    ∙ none_is (record_of kept.rows key) (eqb (set.len (occupied st h)) st.capacity)
    ∙ ap (λ b. not b && eqb (set.len (occupied st h)) st.capacity) (sym (occupied_now st kept.rows h key are))
  where
    none_is : {A : Type 0} (o : Option A) (b : Bool) → (is_none o && b) ≡ (not (is_some o) && b)
    none_is None b = refl
    none_is (Some x) b = refl
