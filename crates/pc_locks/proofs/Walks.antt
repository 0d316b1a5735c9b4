-- A walk along a slot's ids.
use Rattle.std.proofs.Common.{◌≡◌, ℕ, ◌+◌, ◌≤◌, List, [], ◌∷◌, ◌++◌, length, Option, Some, None, true, false, refl, sym, ◌∙◌, ap, arith, append-nil}
use Rattle.std.specs.List.{list_any}
use Rattle.std.proofs.lemmas.List.Folds.{list_any-append}
use Rattle.std.proofs.lemmas.List.{append_assoc, map-append, length-append}
use Rattle.pc_locks.specs.declared.node.Test.{Test}
use Rattle.pc_locks.specs.States.{first_in_list, last_in_list}
use Rattle.pc_locks.specs.Tables.{Nodes, passes, request_at, requests, IsIdFound}

-- what was passed, none of which passes the test, and what is left
pub record Walked (nodes : Nodes) (ids : List ℕ) (asked : Test) (previous at : Option ℕ) (count : ℕ) : Type 0 where
  pub before : List ℕ
  pub behind : List ℕ
  pub split : ids ≡ before ++ behind
  pub previous_is : previous ≡ last_in_list before
  pub at_is : at ≡ first_in_list behind
  pub none_before : list_any (passes asked) (requests nodes before) ≡ false
  pub counted : length before ≡ count

pub last_end : (xs : List ℕ) (id : ℕ) → Some id ≡ last_in_list (xs ++ id ∷ [])
last_end [] id = refl
last_end (x ∷ []) id = refl
last_end (x ∷ y ∷ ys) id = last_end (y ∷ ys) id

-- at an id of the list
pub record At (ids : List ℕ) (before : List ℕ) (id : ℕ) : Type 0 where
  pub behind : List ℕ
  pub split : ids ≡ before ++ id ∷ behind

pub walk_at : (nodes : Nodes) (ids : List ℕ) (asked : Test) (previous at : Option ℕ) (count id : ℕ) (w : Walked nodes ids asked previous at count) → at ≡ Some id → At ids w.before id
walk_at nodes ids asked previous at count id w e = by w.behind w.split (sym w.at_is ∙ e)
  where
    by : (behind : List ℕ) → ids ≡ w.before ++ behind → first_in_list behind ≡ Some id → At ids w.before id
    by [] s f = absurd cc
    by (x ∷ xs) s f = let g : x ≡ id = cc in record { behind = xs; split = s ∙ ap (λ y. w.before ++ y ∷ xs) g }

pub walk_found : (nodes : Nodes) (ids : List ℕ) (asked : Test) (previous at : Option ℕ) (count id : ℕ) → Walked nodes ids asked previous at count → at ≡ Some id → passes asked (request_at nodes id) ≡ true → IsIdFound nodes ids asked previous id
walk_found nodes ids asked previous at count id w e p =
    let a = walk_at nodes ids asked previous at count id w e in
    record { before = w.before; behind = a.behind; split = a.split; previous_is = w.previous_is; none_before = w.none_before; passed = p }

pub walk_on : (nodes : Nodes) (ids : List ℕ) (asked : Test) (previous at new : Option ℕ) (count id : ℕ) (w : Walked nodes ids asked previous at count) → at ≡ Some id → passes asked (request_at nodes id) ≡ false →
    ((before rest : List ℕ) → ids ≡ before ++ id ∷ rest → new ≡ first_in_list rest) → Walked nodes ids asked (Some id) new (count + 1)
walk_on nodes ids asked previous at new count id w e p n =
    let a = walk_at nodes ids asked previous at count id w e in
    record {
      before = w.before ++ id ∷ [];
      behind = a.behind;
      split = a.split ∙ sym (append_assoc w.before (id ∷ []) a.behind);
      previous_is = last_end w.before id;
      at_is = n w.before a.behind a.split;
      none_before = ap (list_any (passes asked)) (map-append (request_at nodes) w.before (id ∷ [])) ∙ (list_any-append (passes asked) (requests nodes w.before) (request_at nodes id ∷ []) ∙ rw (w.none_before, p));
      counted = length-append w.before (id ∷ []) ∙ omega (arith, w.counted);
    }

pub walk_end : (nodes : Nodes) (ids : List ℕ) (asked : Test) (previous at : Option ℕ) (count : ℕ) → Walked nodes ids asked previous at count → at ≡ None → list_any (passes asked) (requests nodes ids) ≡ false
walk_end nodes ids asked previous at count w e = by w.behind w.split (sym w.at_is ∙ e)
  where
    by : (behind : List ℕ) → ids ≡ w.before ++ behind → first_in_list behind ≡ None → list_any (passes asked) (requests nodes ids) ≡ false
    by [] s f = ap (λ xs. list_any (passes asked) (requests nodes xs)) (s ∙ append-nil w.before) ∙ w.none_before
    by (x ∷ xs) s f = absurd cc

pub walk_all : (nodes : Nodes) (ids : List ℕ) (asked : Test) (previous at : Option ℕ) (count : ℕ) → Walked nodes ids asked previous at count → length ids ≤ count → at ≡ None
walk_all nodes ids asked previous at count w h = by w.behind (ap length w.split ∙ length-append w.before w.behind) w.at_is
  where
    by : (behind : List ℕ) → length ids ≡ length w.before + length behind → at ≡ first_in_list behind → at ≡ None
    by [] s f = f
    by (x ∷ xs) s f = absurd (omega (arith, s, h, w.counted))

pub walk_start : (nodes : Nodes) (ids : List ℕ) (asked : Test) (at : Option ℕ) → at ≡ first_in_list ids → Walked nodes ids asked None at 0
walk_start nodes ids asked at e = record { before = []; behind = ids; split = refl; previous_is = refl; at_is = e; none_before = refl; counted = refl }

-- what was found passes
pub found_any : (nodes : Nodes) (ids : List ℕ) (asked : Test) (previous : Option ℕ) (id : ℕ) → IsIdFound nodes ids asked previous id → list_any (passes asked) (requests nodes ids) ≡ true
found_any nodes ids asked previous id f =
    ap (λ xs. list_any (passes asked) (requests nodes xs)) f.split ∙ (ap (list_any (passes asked)) (map-append (request_at nodes) f.before (id ∷ f.behind))
    ∙ (list_any-append (passes asked) (requests nodes f.before) (requests nodes (id ∷ f.behind)) ∙ rw (f.none_before, f.passed)))
