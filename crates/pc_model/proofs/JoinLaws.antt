-- What a join, a part and a laid file have at a key.
use Rattle.std.proofs.Common.{◌≡◌, ℕ, ◌<◌, List, [], ◌∷◌, ◌++◌, refl, sym, ap, ◌∙◌, cond, Bool, true, false, Option, Some, None, ◌||◌, lt-ltb}
use Rattle.std.specs.declared.cmp.Ordering.{Ordering}
use Rattle.std.specs.declared.cmp.Ordering.TheVariants.{Less, Equal, Greater}
use Rattle.std.specs.FinMap.{find}
use Rattle.pc_model.specs.Maps.{get}
use Rattle.pc_model.proofs.MapLaws.{get-insert, get-remove, get-empty, get-entries}
use Rattle.std.specs.Ordering.{is_eq}
use Rattle.pc_model.specs.Database.{Database, key_cmp, key_order, same_bytes, put, applied, applied_all}
use Rattle.pc_types.specs.Changes.{changed_content}
use Rattle.pc_model.specs.Points.{Triples, AtPoint, newer, later, joined_entries, joined, laid_at, laid_entries, laid, triples_at_point, is_among, with_key, with_keys, with_written}
use Rattle.pc_types.specs.declared.Write.{Write}
use Rattle.pc_types.specs.declared.Entry.{Entry}
use Rattle.pc_types.specs.declared.Entry.TheVariants.{Commit, Token}
use Rattle.pc_model.specs.Log.{after}
use Rattle.pc_model.proofs.PairMapLaws.{same_database}

is_equal : (o : Ordering) → is_eq o ≡ true → o ≡ Equal
is_equal Equal e = refl
is_equal Less e = cc
is_equal Greater e = cc

-- keys that a test finds the same are one
pub one_key : (k l : List ℕ) → same_bytes k l ≡ true → k ≡ l
one_key k l e = key_order.exact k l (is_equal (key_cmp k l) e)

pub get_put : (db : Database) (key q : List ℕ) (content : Option (List ℕ)) → get (put db key content) q ≡ cond (same_bytes q key) content (get db q)
get_put db key q None = get-remove db key q
get_put db key q (Some value) = get-insert db key value q

-- of each key the join has the later triple
joined_entries_get : (m : Triples) (es : List (List ℕ × AtPoint)) (q : List ℕ) → get (joined_entries m es) q ≡ later (get m q) (find key_cmp q es)
joined_entries_get m [] q = refl
joined_entries_get m (e ∷ es) q = get-insert (joined_entries m es) e.0 (newer (get m e.0) e.1) q
    ∙ elim (same_bytes q e.0) as (λ b. same_bytes q e.0 ≡ b → cond b (Some (newer (get m e.0) e.1)) (get (joined_entries m es) q) ≡ later (get m q) (cond b (Some e.1) (find key_cmp q es))) [
      | true ↦ λ same. ap (λ k. Some (newer (get m k) e.1)) (sym (one_key q e.0 same))
      | false ↦ λ _. joined_entries_get m es q
    ] refl

pub get-joined : (m n : Triples) (q : List ℕ) → get (joined m n) q ≡ later (get m q) (get n q)
get-joined m n q = joined_entries_get m n.entries q ∙ ap (later (get m q)) (sym (get-entries n q))

laid_entries_get : (db : Database) (point : ℕ) (es : List (List ℕ × AtPoint)) (q : List ℕ) → get (laid_entries db point es) q ≡ laid_at (get db q) point (find key_cmp q es)
laid_entries_get db point [] q = refl
laid_entries_get db point (e ∷ es) q = get_put (laid_entries db point es) e.0 q (laid_at (get db e.0) point (Some e.1))
    ∙ elim (same_bytes q e.0) as (λ b. same_bytes q e.0 ≡ b → cond b (laid_at (get db e.0) point (Some e.1)) (get (laid_entries db point es) q) ≡ laid_at (get db q) point (cond b (Some e.1) (find key_cmp q es))) [
      | true ↦ λ same. ap (λ k. laid_at (get db k) point (Some e.1)) (sym (one_key q e.0 same))
      | false ↦ λ _. laid_entries_get db point es q
    ] refl

-- a laid file sets each key that has a triple above the point
pub get-laid : (db : Database) (point : ℕ) (m : Triples) (q : List ℕ) → get (laid db point m) q ≡ laid_at (get db q) point (get m q)
get-laid db point m q = laid_entries_get db point m.entries q ∙ ap (laid_at (get db q) point) (sym (get-entries m q))

-- a part has the keys that it is made of
pub get-triples_of : (point : ℕ) (db : Database) (keys : List (List ℕ)) (q : List ℕ) → get (triples_at_point point db keys) q ≡ cond (is_among keys q) (Some (record { point = point; content = get db q })) None
get-triples_of point db [] q = get-empty key_order q
get-triples_of point db (key ∷ keys) q = get-insert (triples_at_point point db keys) key (record { point = point; content = get db key }) q
    ∙ elim (same_bytes q key) as (λ b. same_bytes q key ≡ b → cond b (Some (record { point = point; content = get db key })) (get (triples_at_point point db keys) q) ≡ cond (b || is_among keys q) (Some (record { point = point; content = get db q })) None) [
      | true ↦ λ same. ap (λ k. Some (record { point = point; content = get db k })) (sym (one_key q key same))
      | false ↦ λ _. get-triples_of point db keys q
    ] refl

first : (a b : Bool) → (a || b) ≡ false → a ≡ false
first true b e = cc
first false b e = refl

second : (a b : Bool) → (a || b) ≡ false → b ≡ false
second true b e = cc
second false b e = e

-- whether the writes, or the log's commits, have the key
abbrev pub have_key : List Write → List ℕ → Bool
have_key [] q = false
have_key (w ∷ ws) q = same_bytes q w.key || have_key ws q

abbrev pub has_written : List Entry → List ℕ → Bool
has_written [] q = false
has_written (Commit s ws ∷ log) q = have_key ws q || has_written log q
has_written (Token phase point ∷ log) q = has_written log q

is_among-append : (keys more : List (List ℕ)) (q : List ℕ) → is_among (keys ++ more) q ≡ (is_among keys q || is_among more q)
is_among-append [] more q = refl
is_among-append (k ∷ keys) more q = elim (same_bytes q k) as (λ b. (b || is_among (keys ++ more) q) ≡ ((b || is_among keys q) || is_among more q)) [ true ↦ refl | false ↦ is_among-append keys more q ]

or_false : (b : Bool) → (b || false) ≡ b
or_false true = refl
or_false false = refl

or_assoc : (a b c : Bool) → ((a || b) || c) ≡ (a || (b || c))
or_assoc true b c = refl
or_assoc false b c = refl

is_among-with_key : (keys : List (List ℕ)) (k q : List ℕ) → is_among (with_key keys k) q ≡ (is_among keys q || same_bytes q k)
is_among-with_key keys k q = elim (is_among keys k) as (λ b. is_among keys k ≡ b → is_among (cond b keys (keys ++ k ∷ [])) q ≡ (is_among keys q || same_bytes q k)) [
  | true ↦ λ there. elim (same_bytes q k) as (λ b. same_bytes q k ≡ b → is_among keys q ≡ (is_among keys q || b)) [
    | true ↦ λ same. let here : is_among keys q ≡ true = ap (is_among keys) (one_key q k same) ∙ there in rw here refl
    | false ↦ λ _. sym (or_false (is_among keys q))
  ] refl
  | false ↦ λ _. is_among-append keys (k ∷ []) q ∙ ap (λ b. is_among keys q || b) (or_false (same_bytes q k))
] refl

is_among-with_keys : (keys : List (List ℕ)) (ws : List Write) (q : List ℕ) → is_among (with_keys keys ws) q ≡ (is_among keys q || have_key ws q)
is_among-with_keys keys [] q = sym (or_false (is_among keys q))
is_among-with_keys keys (w ∷ ws) q = is_among-with_keys (with_key keys w.key) ws q ∙ ap (λ b. b || have_key ws q) (is_among-with_key keys w.key q) ∙ or_assoc (is_among keys q) (same_bytes q w.key) (have_key ws q)

pub is_among-with_written : (keys : List (List ℕ)) (log : List Entry) (q : List ℕ) → is_among (with_written keys log) q ≡ (is_among keys q || has_written log q)
is_among-with_written keys [] q = sym (or_false (is_among keys q))
is_among-with_written keys (Commit s ws ∷ log) q = is_among-with_written (with_keys keys ws) log q ∙ ap (λ b. b || has_written log q) (is_among-with_keys keys ws q) ∙ or_assoc (is_among keys q) (have_key ws q) (has_written log q)
is_among-with_written keys (Token phase point ∷ log) q = is_among-with_written keys log q

-- a key that isn't written keeps what it has
applied_all_other : (db : Database) (ws : List Write) (q : List ℕ) → have_key ws q ≡ false → get (applied_all db ws) q ≡ get db q
applied_all_other db [] q none = refl
applied_all_other db (w ∷ ws) q none =
    applied_all_other (applied db w) ws q (second (same_bytes q w.key) (have_key ws q) none) ∙ get_put db w.key q (changed_content w.change (get db w.key)) ∙ ap (λ b. cond b (changed_content w.change (get db w.key)) (get db q)) (first (same_bytes q w.key) (have_key ws q) none)

pub after_other : (db : Database) (log : List Entry) (q : List ℕ) → has_written log q ≡ false → get (after db log) q ≡ get db q
after_other db [] q none = refl
after_other db (Commit s ws ∷ log) q none = after_other (applied_all db ws) log q (second (have_key ws q) (has_written log q) none) ∙ applied_all_other db ws q (first (have_key ws q) (has_written log q) none)
after_other db (Token phase point ∷ log) q none = after_other db log q none

-- A file of what a piece of the log wrote, applied to the database before it, is the database after it.
pub one_piece : (db : Database) (log : List Entry) (b point : ℕ) → b < point → laid db b (triples_at_point point (after db log) (with_written [] log)) ≡ after db log
one_piece db log b point above = same_database _ _ (λ q. get-laid db b _ q ∙ ap (laid_at (get db q) b) (get-triples_of point (after db log) (with_written [] log) q ∙ ap (λ t. cond t (Some (record { point = point; content = get (after db log) q })) None) (is_among-with_written [] log q))
    ∙ elim (has_written log q) as (λ t. has_written log q ≡ t → laid_at (get db q) b (cond t (Some (record { point = point; content = get (after db log) q })) None) ≡ get (after db log) q) [
      | true ↦ λ _. ap (λ t. cond t (get (after db log) q) (get db q)) (lt-ltb b point above)
      | false ↦ λ none. sym (after_other db log q none)
    ] refl)
