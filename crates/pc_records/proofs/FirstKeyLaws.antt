-- The records of a base, before any event.
use Rattle.std.proofs.Common.{◌≡◌, ℕ, List, [], ◌∷◌, map, Some, is_some, refl, sym, ap, ◌∙◌, cond, true, false}
use Rattle.std.specs.FinMap.{find}
use Rattle.pc_model.specs.Maps as map_of
use Rattle.pc_model.specs.Database.{Database, KeysRise, database_of, key_cmp, key_order, same_bytes}
use Rattle.pc_model.proofs.MapLaws.{get-from_list}
use Rattle.pc_records.specs.Rows.{record_of, stored, is_in_open_set, is_in_closed_set, requests_on}
use Rattle.pc_records.specs.RowSteps.{committed_row}
use Rattle.pc_records.specs.Following.{AreRecords, stands_kept}
use Rattle.pc_records.proofs.Rising.{rows_rise}

-- every key's committed value is in its row
found_rows : (pairs : List (List ℕ × List ℕ)) (q : List ℕ) → stored (record_of (map committed_row pairs) q) ≡ find key_cmp q pairs
found_rows [] q = refl
found_rows (p ∷ pairs) q = elim (same_bytes q p.0) as (λ b. stored (cond b (Some (committed_row p).1) (record_of (map committed_row pairs) q)) ≡ cond b (Some p.1) (find key_cmp q pairs)) [ true ↦ refl | false ↦ found_rows pairs q ]

unrequested : (pairs : List (List ℕ × List ℕ)) (q : List ℕ) → requests_on (record_of (map committed_row pairs) q) ≡ []
unrequested [] q = refl
unrequested (p ∷ pairs) q = elim (same_bytes q p.0) as (λ b. requests_on (cond b (Some (committed_row p).1) (record_of (map committed_row pairs) q)) ≡ []) [ true ↦ refl | false ↦ unrequested pairs q ]

not_open : (pairs : List (List ℕ × List ℕ)) (q : List ℕ) → is_in_open_set (record_of (map committed_row pairs) q) ≡ false
not_open [] q = refl
not_open (p ∷ pairs) q = elim (same_bytes q p.0) as (λ b. is_in_open_set (cond b (Some (committed_row p).1) (record_of (map committed_row pairs) q)) ≡ false) [ true ↦ refl | false ↦ not_open pairs q ]

not_closed : (pairs : List (List ℕ × List ℕ)) (q : List ℕ) → is_in_closed_set (record_of (map committed_row pairs) q) ≡ false
not_closed [] q = refl
not_closed (p ∷ pairs) q = elim (same_bytes q p.0) as (λ b. is_in_closed_set (cond b (Some (committed_row p).1) (record_of (map committed_row pairs) q)) ≡ false) [ true ↦ refl | false ↦ not_closed pairs q ]

all_kept : (pairs : List (List ℕ × List ℕ)) (q : List ℕ) → is_some (record_of (map committed_row pairs) q) ≡ stands_kept (record_of (map committed_row pairs) q)
all_kept [] q = refl
all_kept (p ∷ pairs) q = elim (same_bytes q p.0) as (λ b. is_some (cond b (Some (committed_row p).1) (record_of (map committed_row pairs) q)) ≡ stands_kept (cond b (Some (committed_row p).1) (record_of (map committed_row pairs) q))) [ true ↦ refl | false ↦ all_kept pairs q ]

-- the records of the base's pairs are those of a history with no step
pub first_records : (base : Database) (pairs : List (List ℕ × List ℕ)) → KeysRise pairs → database_of pairs ≡ base → AreRecords base (map committed_row pairs) []
first_records base pairs rise is =
    record {
      sorted = rows_rise pairs rise;
      stored = λ q. found_rows pairs q ∙ sym (get-from_list key_order pairs q) ∙ ap (λ db. map_of.get db q) is;
      requests = unrequested pairs;
      open_set = not_open pairs;
      closed_set = not_closed pairs;
      point = λ q closed. absurd (let no : false ≡ true = sym (not_closed pairs q) ∙ closed in cc);
      kept = all_kept pairs;
    }
