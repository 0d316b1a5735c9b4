-- Maps by hash as databases, and the entries of a log in order.
use Rattle.std.proofs.Common.{◌≡◌, ℕ, zero, suc, ◌+◌, ◌<◌, List, [], ◌∷◌, ◌++◌, length, take, drop, Option, Some, cond, Bool, true, false, ◌&&◌, refl, sym, ap, ◌∙◌, append_assoc, arith}
use Rattle.std.specs.Prelude.{slice_range}
use Rattle.std.proofs.lemmas.List.{append-nil, take_all}
use Rattle.std.specs.HashMap as hash
use Rattle.std.specs.HashMap.{HashMap}
use Rattle.std.specs.Map.{keys_of}
use Rattle.std.specs.FinMap.{find}
use Rattle.std.specs.List.{list_all, IsDistinct, AllByRecursion}
use Rattle.std.specs.declared.random_state.RandomState.{RandomState}
use Rattle.std.proofs.lemmas.Cmp.{eq_by_cmp_equiv}
use Rattle.pc_types.specs.declared.Entry.{Entry}
use Rattle.pc_types.specs.declared.Entry.TheVariants.{Commit, Token}
use Rattle.pc_model.specs.Maps.{get}
use Rattle.pc_model.specs.Database.{Database, database_of, key_order, key_cmp, same_bytes, put, applied_all}
use Rattle.pc_model.specs.Files.{same_content}
use Rattle.pc_model.specs.Log.{after, front}
use Rattle.pc_kept_log.specs.Logs.{writes_of_entry}
use Rattle.pc_model.proofs.MapLaws.{get-from_list}
use Rattle.pc_model.proofs.PairMapLaws.{same_database}
use Rattle.pc_model.proofs.JoinLaws.{get_put}
use Rattle.pc_model.proofs.KeyTreeLaws.{find-lookup}
use Rattle.pc_audit.specs.Tables.{is_mark}
use Rattle.pc_audit.specs.Tables.{IsContainedIn}
use Rattle.pc_replay.proofs.TreeLemmas.{found_too, same_at}

-- ---- maps

abbrev Pairs : Type 0
Pairs = HashMap (List ℕ) (List ℕ) RandomState

-- a look-up in the map is one in the database
pub get-table : (m : Pairs) (q : List ℕ) → get (database_of m.entries) q ≡ hash.get same_bytes m q
get-table m q = get-from_list key_order m.entries q ∙ find-lookup m.entries q

-- an update of the map is a write
pub put-table : (old new : Pairs) (key : List ℕ) (content : Option (List ℕ)) →
    ((q : List ℕ) → hash.get same_bytes new q ≡ cond (same_bytes key q) content (hash.get same_bytes old q)) → database_of new.entries ≡ put (database_of old.entries) key content
put-table old new key content updates = same_database _ _ (λ q.
    get-table new q ∙ updates q ∙ ap (λ b. cond b content (hash.get same_bytes old q)) ((eq_by_cmp_equiv key_order.total).symm key q)
    ∙ ap (cond (same_bytes q key) content) (sym (get-table old q)) ∙ sym (get_put (database_of old.entries) key q content))

-- what is asked of each entry
abbrev has : Database → List ℕ × List ℕ → Bool
has n e = same_content (Some e.1) (get n e.0)

-- if all entries are had, so is what the first database has of any key
pub all_within : (es : List (List ℕ × List ℕ)) (n : Database) → list_all (has n) es ≡ true → IsContainedIn (database_of es) n
all_within es n all q v there = found_too es n q v all (sym (get-from_list key_order es q) ∙ there)

-- entries of distinct keys are each found
own_found : (es : List (List ℕ × List ℕ)) → IsDistinct same_bytes (keys_of es) → AllByRecursion (λ e. find key_cmp e.0 es ≡ Some e.1) es
unfolding IsDistinct
own_found [] once = tt
own_found (e ∷ es) once = (ap (λ b. cond b (Some e.1) (find key_cmp e.0 es)) ((eq_by_cmp_equiv key_order.total).refl e.0), later es once.0 (own_found es once.1))
  where
    later : (xs : List (List ℕ × List ℕ)) → AllByRecursion (λ y. same_bytes e.0 y ≡ false) (keys_of xs) → AllByRecursion (λ x. find key_cmp x.0 es ≡ Some x.1) xs → AllByRecursion (λ x. find key_cmp x.0 (e ∷ es) ≡ Some x.1) xs
    later [] apart found = tt
    later (x ∷ xs) apart found =
        (ap (λ b. cond b (Some e.1) (find key_cmp x.0 es)) ((eq_by_cmp_equiv key_order.total).symm x.0 e.0 ∙ apart.0) ∙ found.0, later xs apart.1 found.1)

-- if the second database has all of the first, it has each entry
pub within_all : (es : List (List ℕ × List ℕ)) (n : Database) → IsDistinct same_bytes (keys_of es) → IsContainedIn (database_of es) n → list_all (has n) es ≡ true
within_all es n once within = each es (own_found es once)
  where
    each : (xs : List (List ℕ × List ℕ)) → AllByRecursion (λ x. find key_cmp x.0 es ≡ Some x.1) xs → list_all (has n) xs ≡ true
    each [] found = refl
    each (x ∷ xs) found =
        ap (λ o. same_content (Some x.1) o && list_all (has n) xs) (within x.0 x.1 (get-from_list key_order es x.0 ∙ found.0))
        ∙ ap (λ b. b && list_all (has n) xs) ((eq_by_cmp_equiv key_order.total).refl x.1) ∙ each xs found.1

-- databases of which each has what the other has are one
pub same_within : (m n : Database) → IsContainedIn m n → IsContainedIn n m → m ≡ n
same_within m n first second = same_database m n (λ q. same_at (get m q) (get n q) (λ v there. first q v there) (λ v there. second q v there))

-- ---- entries

-- one entry more is replayed
pub after_entry : (db : Database) (entry : Entry) (log : List Entry) → after db (entry ∷ log) ≡ after (applied_all db (writes_of_entry (Some entry))) log
after_entry db (Commit session writes) log = refl
after_entry db (Token phase point) log = refl

-- the front ends at the mark, and goes on after any other entry
pub front_entry : (point : ℕ) (entry : Entry) (log : List Entry) → front point (entry ∷ log) ≡ cond (is_mark point entry) [] (entry ∷ front point log)
front_entry point (Commit session writes) log = refl
front_entry point (Token phase m) log = refl

-- all entries, and the first ones
pub from_start : (log : List Entry) (n : ℕ) → slice_range log 0 n ≡ take n log
from_start log n = ap (λ k. take k log) (omega arith)

pub all_of : (log : List Entry) → slice_range log 0 (length log) ≡ log
all_of log = from_start log (length log) ∙ take_all (length log) log (omega arith)

-- one entry more is in front, if it isn't the mark
record Splits (log : List Entry) (place : ℕ) (entry : Entry) (rest : List Entry) : Type 0 where
  inside : place < length log
  behind : rest ≡ drop (place + 1) log
  more : take (place + 1) log ≡ take place log ++ entry ∷ []

splits : (log : List Entry) (place : ℕ) (entry : Entry) (rest : List Entry) → drop place log ≡ entry ∷ rest → Splits log place entry rest
splits [] zero entry rest at = absurd cc
splits [] (suc place) entry rest at = absurd cc
splits (x ∷ log) zero entry rest at = record {
  inside = omega arith;
  behind = cc;
  more = cc;
}
splits (x ∷ log) (suc place) entry rest at =
    let found = splits log place entry rest at in
    let next : suc (place + 1) ≡ suc place + 1 = omega arith in
    record {
      inside = omega (arith, found.inside);
      behind = found.behind ∙ ap (λ n. drop n (x ∷ log)) next;
      more = ap (λ n. take n (x ∷ log)) (sym next) ∙ ap (λ es. x ∷ es) found.more;
    }

module _ (point : ℕ) (log : List Entry) (place : ℕ) (entry : Entry) (rest : List Entry) (at : drop place log ≡ entry ∷ rest) where
  pub place_inside : place < length log
  place_inside = (splits log place entry rest at).inside

  pub rest_behind : rest ≡ drop (place + 1) log
  rest_behind = (splits log place entry rest at).behind

  pub front_on : is_mark point entry ≡ false → take (place + 1) log ++ front point rest ≡ take place log ++ front point (entry ∷ rest)
  front_on other =
      ap (λ es. es ++ front point rest) (splits log place entry rest at).more ∙ append_assoc (take place log) (entry ∷ []) (front point rest)
      ∙ ap (λ es. take place log ++ es) (sym (front_entry point entry rest ∙ ap (λ b. cond b [] (entry ∷ front point rest)) other))

  pub front_ends : is_mark point entry ≡ true → take place log ≡ take place log ++ front point (entry ∷ rest)
  front_ends mark = sym (append-nil (take place log)) ∙ ap (λ es. take place log ++ es) (sym (front_entry point entry rest ∙ ap (λ b. cond b [] (entry ∷ front point rest)) mark))
