-- Triples that ascend by key, laid in order, are laid as the definition says.
use Rattle.std.proofs.Common.{◌≡◌, ℕ, List, [], ◌∷◌, Some, refl, sym, ap, ◌∙◌, cond, Bool, true, false}
use Rattle.std.specs.Prelude.{nat_lt}
use Rattle.std.specs.FinMap.{find, is_sorted}
use Rattle.std.specs.FinMap.Entries.{below_all}
use Rattle.pc_types.specs.declared.Triple.{Triple}
use Rattle.pc_model.specs.Maps.{get}
use Rattle.pc_model.specs.Database.{Database, key_cmp, same_bytes, put}
use Rattle.pc_model.specs.Points.{Triples, laid_at, laid}
use Rattle.pc_model.specs.TripleLists.{entry_of, map_entries}
use Rattle.pc_replay.specs.Laying.{laid_one, laid_in_turn}
use Rattle.pc_model.proofs.MapLaws.{get-entries}
use Rattle.pc_model.proofs.RisingLaws.{none_below, both}
use Rattle.pc_model.proofs.PairMapLaws.{same_database, tested}
use Rattle.pc_model.proofs.JoinLaws.{get_put, get-laid, one_key}

-- one triple laid sets its key alone, if its point is above
get_laid_one : (db : Database) (point : ℕ) (t : Triple) (q : List ℕ) → get (laid_one db point t) q ≡ cond (same_bytes q t.key) (laid_at (get db t.key) point (Some (entry_of t).1)) (get db q)
get_laid_one db point t q = by_point (nat_lt point t.point)
  where
    kept : (b : Bool) → same_bytes q t.key ≡ b → get db q ≡ cond b (get db t.key) (get db q)
    kept true same = ap (get db) (one_key q t.key same)
    kept false same = refl

    by_point : (b : Bool) → get (cond b (put db t.key t.content) db) q ≡ cond (same_bytes q t.key) (cond b t.content (get db t.key)) (get db q)
    by_point true = get_put db t.key q t.content
    by_point false = kept (same_bytes q t.key) refl

get_in_turn : (db : Database) (point : ℕ) (ts : List Triple) (q : List ℕ) → is_sorted key_cmp (map_entries ts) ≡ true → get (laid_in_turn db point ts) q ≡ laid_at (get db q) point (find key_cmp q (map_entries ts))
get_in_turn db point [] q rise = refl
get_in_turn db point (t ∷ ts) q rise =
    let parts = both (below_all key_cmp t.key (map_entries ts)) (is_sorted key_cmp (map_entries ts)) rise in
    get_in_turn (laid_one db point t) point ts q parts.1
    ∙ ap (λ c. laid_at c point (find key_cmp q (map_entries ts))) (get_laid_one db point t q)
    ∙ by_key (same_bytes q t.key) refl parts.0
  where
    by_key : (b : Bool) → same_bytes q t.key ≡ b → below_all key_cmp t.key (map_entries ts) ≡ true →
        laid_at (cond b (laid_at (get db t.key) point (Some (entry_of t).1)) (get db q)) point (find key_cmp q (map_entries ts)) ≡ laid_at (get db q) point (cond b (Some (entry_of t).1) (find key_cmp q (map_entries ts)))
    by_key true same below =
        let here : q ≡ t.key = one_key q t.key same in
        ap (laid_at (laid_at (get db t.key) point (Some (entry_of t).1)) point) (ap (λ k. find key_cmp k (map_entries ts)) here ∙ none_below t.key (map_entries ts) below)
        ∙ ap (λ k. laid_at (get db k) point (Some (entry_of t).1)) (sym here)
    by_key false same below = refl

-- triples that ascend by key, laid in turn, are laid
pub laid_in_turn_is : (db : Database) (point : ℕ) (ts : List Triple) (m : Triples) → m.entries ≡ map_entries ts → laid_in_turn db point ts ≡ laid db point m
laid_in_turn_is db point ts m is = same_database _ _ (λ q.
    get_in_turn db point ts q (rw (← is) (tested m.rises))
    ∙ ap (λ es. laid_at (get db q) point (find key_cmp q es)) (sym is)
    ∙ ap (laid_at (get db q) point) (sym (get-entries m q)) ∙ sym (get-laid db point m q))
