-- Granting from the front of a slot's requests.
use Rattle.std.proofs.Common.{◌≡◌, ◌≢◌, ℕ, ◌+◌, ◌≤◌, ◌==◌, inl, inr, List, [], ◌∷◌, ◌++◌, length, Option, Some, None, is_some, Bool, true, false, not, cond, ◌||◌, ◌&&◌, refl, sym, ◌∙◌, ap, subst, arith, append-nil}
use Rattle.std.proofs.lemmas.Bool.{eqb-true, eq-eqb, cases_eq, false_from_ne_true}
use Rattle.std.specs.Prelude.{option_map}
use Rattle.std.specs.List.{list_all}
use Rattle.std.proofs.lemmas.Bool.Decides.{nat_tests}
use Rattle.std.proofs.lemmas.List.{append_assoc, map-append, length-append}
use Rattle.std.proofs.lemmas.List.Folds.{list_all-append}
use Rattle.pc_types.specs.declared.Request.{Request}
use Rattle.pc_model.specs.Locks.{Queue, are_compatible, granted_behind, is_exclusive}
use Rattle.pc_model.specs.Queues.{stands_in, AreOnce}
use Rattle.pc_locks.specs.States.{is_listed, first_in_list}
use Rattle.pc_locks.specs.Tables.{Nodes, Placed, node_at, node_request, request_at, queue_place_of, requests}
use Rattle.pc_locks.proofs.TableLemmas.{transaction_same, requests_same}
use Rattle.pc_locks.proofs.RemovalLemmas.{member_stands, once_behind, back_listed}

abbrev is_nil : {A : Type 0} → List A → Bool
is_nil [] = true
is_nil (x ∷ xs) = false

and_false : (b : Bool) → (b && false) ≡ false
and_false true = refl
and_false false = refl

and_true : (b : Bool) → (b && true) ≡ b
and_true true = refl
and_true false = refl

flip_other : (a b : ℕ) → (a == b) ≡ false → (b == a) ≡ false
flip_other a b e = grind (arith, nat_tests)

abbrev all_shared : Queue → Bool
all_shared q = list_all (λ r. not (is_exclusive r.mode)) q

-- with requests of other transactions a request is compatible if there is none or all are shared
fits_shared : (r : Request) (q : Queue) → stands_in q r.transaction ≡ false → list_all (are_compatible r) q ≡ (is_nil q || (all_shared q && not (is_exclusive r.mode)))
fits_shared r [] e = refl
fits_shared r (x ∷ xs) e = by (x.transaction == r.transaction) refl e (fits_shared r xs)
  where
    parts : (a b : Bool) → list_all (are_compatible r) xs ≡ (is_nil xs || (all_shared xs && not a)) → ((not a && not b) && list_all (are_compatible r) xs) ≡ ((not b && all_shared xs) && not a)
    parts true b h = sym (and_false (not b && all_shared xs))
    parts false true h = refl
    parts false false h = h ∙ nil_too xs
      where
        nil_too : (q : Queue) → (is_nil q || (all_shared q && true)) ≡ (all_shared q && true)
        nil_too [] = refl
        nil_too (y ∷ ys) = refl

    by : (b : Bool) → (x.transaction == r.transaction) ≡ b → (b || stands_in xs r.transaction) ≡ false → (stands_in xs r.transaction ≡ false → list_all (are_compatible r) xs ≡ (is_nil xs || (all_shared xs && not (is_exclusive r.mode)))) →
        (((r.transaction == x.transaction) || (not (is_exclusive r.mode) && not (is_exclusive x.mode))) && list_all (are_compatible r) xs) ≡ ((not (is_exclusive x.mode) && all_shared xs) && not (is_exclusive r.mode))
    by true f g ih = absurd cc
    by false f g ih = rw (flip_other x.transaction r.transaction f) (parts (is_exclusive r.mode) (is_exclusive x.mode) (ih g))

-- a request before another is of another transaction
pub once_before : (nodes : Nodes) (before behind : List ℕ) (x : ℕ) → AreOnce (requests nodes (before ++ x ∷ behind)) → stands_in (requests nodes before) (request_at nodes x).transaction ≡ false
once_before nodes [] behind x o = refl
once_before nodes (y ∷ ys) behind x o =
    let differs : ((request_at nodes y).transaction == (request_at nodes x).transaction) ≡ false = false_from_ne_true ((request_at nodes y).transaction == (request_at nodes x).transaction) (λ e.
    let same = eqb-true (request_at nodes y).transaction (request_at nodes x).transaction e in
    let here : is_listed (x ∷ behind) x ≡ true = ap (λ b. b || is_listed behind x) (eq-eqb x x refl) in
    let f : false ≡ true = sym o.0 ∙ member_stands nodes (ys ++ x ∷ behind) x (request_at nodes y).transaction (back_listed ys (x ∷ behind) x here) (sym same) in cc) in
    rw differs (once_before nodes ys behind x o.1)

stands_same : (nodes new_nodes : Nodes) → ((id : ℕ) → queue_place_of (node_at new_nodes id) ≡ queue_place_of (node_at nodes id)) → (xs : List ℕ) (t : ℕ) → stands_in (requests new_nodes xs) t ≡ stands_in (requests nodes xs) t
stands_same nodes new_nodes p [] t = refl
stands_same nodes new_nodes p (x ∷ xs) t = rw (transaction_same nodes new_nodes x (p x), stands_same nodes new_nodes p xs t)

-- writing a request
pub written_is : (node : Option Placed) (q : Request) → is_some (queue_place_of node) ≡ true → node_request (option_map (λ (n : Placed). record n { request = q }) node) ≡ q
written_is None q e = absurd cc
written_is (Some n) q e = refl

pub place_written : (node : Option Placed) (q : Request) → q.transaction ≡ (node_request node).transaction → queue_place_of (option_map (λ (n : Placed). record n { request = q }) node) ≡ queue_place_of node
place_written None q e = refl
place_written (Some n) q e = ap (λ t. Some (n.slot, t)) e

-- those before are granted, and those after are to be
pub record Granting (was nodes : Nodes) (ids : List ℕ) (is_first are_shared : Bool) (at : Option ℕ) (count : ℕ) : Type 0 where
  pub before : List ℕ
  pub behind : List ℕ
  pub split : ids ≡ before ++ behind
  pub at_is : at ≡ first_in_list behind
  pub counted : length before ≡ count
  pub to_be : requests nodes before ++ granted_behind (requests nodes before) (requests nodes behind) ≡ granted_behind [] (requests was ids)
  pub first_is : is_first ≡ is_nil before
  pub shared_is : are_shared ≡ all_shared (requests nodes before)
  pub once : AreOnce (requests was ids)
  pub held : (id : ℕ) → is_listed ids id ≡ true → is_some (queue_place_of (node_at was id)) ≡ true
  pub places : (id : ℕ) → queue_place_of (node_at nodes id) ≡ queue_place_of (node_at was id)
  pub others : (id : ℕ) → is_listed ids id ≡ false → node_at nodes id ≡ node_at was id

pub grant_start : (nodes : Nodes) (ids : List ℕ) (at : Option ℕ) → at ≡ first_in_list ids → AreOnce (requests nodes ids) → ((id : ℕ) → is_listed ids id ≡ true → is_some (queue_place_of (node_at nodes id)) ≡ true) → Granting nodes nodes ids true true at 0
grant_start nodes ids at e o h = record {
  before = [];
  behind = ids;
  split = refl;
  at_is = e;
  counted = refl;
  to_be = refl;
  first_is = refl;
  shared_is = refl;
  once = o;
  held = h;
  places = λ id. refl;
  others = λ id f. refl;
}

pub record Here (ids : List ℕ) (before : List ℕ) (behind : List ℕ) (id : ℕ) : Type 0 where
  pub rest : List ℕ
  pub behind_is : behind ≡ id ∷ rest
  pub split : ids ≡ before ++ id ∷ rest

here : (ids before behind : List ℕ) (at : Option ℕ) (id : ℕ) → ids ≡ before ++ behind → at ≡ first_in_list behind → at ≡ Some id → Here ids before behind id
here ids before [] at id s e f = absurd (let g : None ≡ Some id = sym e ∙ f in cc)
here ids before (x ∷ xs) at id s e f =
    let g : Some x ≡ Some id = sym e ∙ f in
    let h : x ≡ id = cc in
    record { rest = xs; behind_is = ap (λ y. y ∷ xs) h; split = s ∙ ap (λ y. before ++ y ∷ xs) h }

pub grant_here : (was nodes : Nodes) (ids : List ℕ) (is_first are_shared : Bool) (at : Option ℕ) (count id : ℕ) (g : Granting was nodes ids is_first are_shared at count) → at ≡ Some id → Here ids g.before g.behind id
grant_here was nodes ids is_first are_shared at count id g e = here ids g.before g.behind at id g.split g.at_is e

nil_requests : (nodes : Nodes) (xs : List ℕ) → is_nil (requests nodes xs) ≡ is_nil xs
nil_requests nodes [] = refl
nil_requests nodes (x ∷ xs) = refl

-- whether the request fits all before it
fits_here : (was nodes : Nodes) (ids : List ℕ) (is_first are_shared : Bool) (at : Option ℕ) (count id : ℕ) (g : Granting was nodes ids is_first are_shared at count) (h : Here ids g.before g.behind id) →
    list_all (are_compatible (request_at nodes id)) (requests nodes g.before) ≡ (is_first || (are_shared && not (is_exclusive (request_at nodes id).mode)))
fits_here was nodes ids is_first are_shared at count id g h =
    let o = subst (λ xs. AreOnce (requests was xs)) h.split g.once in
    let s : stands_in (requests nodes g.before) (request_at nodes id).transaction ≡ false =
    stands_same was nodes g.places g.before (request_at nodes id).transaction ∙ (ap (stands_in (requests was g.before)) (transaction_same was nodes id (g.places id)) ∙ once_before was g.before h.rest id o) in
    fits_shared (request_at nodes id) (requests nodes g.before) s ∙ rw (nil_requests nodes g.before, sym g.first_is, sym g.shared_is)

-- what comes of the queue from this request on
behind_here : (q : Queue) (r : Request) (rs : Queue) (b : Bool) → list_all (are_compatible r) q ≡ b → granted_behind q (r ∷ rs) ≡ cond b (record r { granted = true } ∷ granted_behind (q ++ record r { granted = true } ∷ []) rs) (r ∷ rs)
behind_here q r rs b e = ap (λ x. cond x (record r { granted = true } ∷ granted_behind (q ++ record r { granted = true } ∷ []) rs) (r ∷ rs)) e

pub grant_stop : (was nodes : Nodes) (ids : List ℕ) (is_first are_shared : Bool) (at : Option ℕ) (count id : ℕ) → Granting was nodes ids is_first are_shared at count → at ≡ Some id →
    is_first ≡ false → (are_shared && not (is_exclusive (request_at nodes id).mode)) ≡ false → requests nodes ids ≡ granted_behind [] (requests was ids)
grant_stop was nodes ids is_first are_shared at count id g e f s =
    let h = grant_here was nodes ids is_first are_shared at count id g e in
    let fit : list_all (are_compatible (request_at nodes id)) (requests nodes g.before) ≡ false = fits_here was nodes ids is_first are_shared at count id g h ∙ rw (f, s) in
    ap (requests nodes) h.split ∙ (map-append (request_at nodes) g.before (id ∷ h.rest)
    ∙ (ap (λ q. requests nodes g.before ++ q) (sym (behind_here (requests nodes g.before) (request_at nodes id) (requests nodes h.rest) false fit))
    ∙ (ap (λ xs. requests nodes g.before ++ granted_behind (requests nodes g.before) (requests nodes xs)) (sym h.behind_is) ∙ g.to_be)))

pub grant_end : (was nodes : Nodes) (ids : List ℕ) (is_first are_shared : Bool) (at : Option ℕ) (count : ℕ) → Granting was nodes ids is_first are_shared at count → at ≡ None → requests nodes ids ≡ granted_behind [] (requests was ids)
grant_end was nodes ids is_first are_shared at count g e = by g.behind g.split (sym g.at_is ∙ e) g.to_be
  where
    by : (behind : List ℕ) → ids ≡ g.before ++ behind → first_in_list behind ≡ None → requests nodes g.before ++ granted_behind (requests nodes g.before) (requests nodes behind) ≡ granted_behind [] (requests was ids) → requests nodes ids ≡ granted_behind [] (requests was ids)
    by [] s f t = ap (requests nodes) (s ∙ append-nil g.before) ∙ (sym (append-nil (requests nodes g.before)) ∙ t)
    by (x ∷ xs) s f t = absurd cc

pub grant_all : (was nodes : Nodes) (ids : List ℕ) (is_first are_shared : Bool) (at : Option ℕ) (count : ℕ) → Granting was nodes ids is_first are_shared at count → length ids ≤ count → at ≡ None
grant_all was nodes ids is_first are_shared at count g h = by g.behind (ap length g.split ∙ length-append g.before g.behind) g.at_is
  where
    by : (behind : List ℕ) → length ids ≡ length g.before + length behind → at ≡ first_in_list behind → at ≡ None
    by [] s f = f
    by (x ∷ xs) s f = absurd (omega (arith, s, h, g.counted))

module _ (was nodes new_nodes : Nodes) (ids : List ℕ) (is_first are_shared : Bool) (at new_at : Option ℕ) (count id : ℕ) (g : Granting was nodes ids is_first are_shared at count) (e : at ≡ Some id)
    (fit : (is_first || (are_shared && not (is_exclusive (request_at nodes id).mode))) ≡ true)
    (written : node_at new_nodes id ≡ option_map (λ (n : Placed). record n { request = record (request_at nodes id) { granted = true } }) (node_at nodes id))
    (stay : (other : ℕ) → other ≢ id → node_at new_nodes other ≡ node_at nodes other)
    (next : (before rest : List ℕ) → ids ≡ before ++ id ∷ rest → new_at ≡ first_in_list rest) where
  at_it : Here ids g.before g.behind id
  at_it = grant_here was nodes ids is_first are_shared at count id g e

  listed_it : is_listed ids id ≡ true
  listed_it = ap (λ xs. is_listed xs id) at_it.split ∙ back_listed g.before (id ∷ at_it.rest) id (ap (λ b. b || is_listed at_it.rest id) (eq-eqb id id refl))

  once_it : AreOnce (requests was (g.before ++ id ∷ at_it.rest))
  once_it = subst (λ xs. AreOnce (requests was xs)) at_it.split g.once

  not_before : is_listed g.before id ≡ true → ⊥
  not_before f = let z : false ≡ true = sym (once_before was g.before at_it.rest id once_it) ∙ member_stands was g.before id (request_at was id).transaction f refl in cc

  not_behind : is_listed at_it.rest id ≡ true → ⊥
  not_behind f = let z : false ≡ true = sym (once_behind was g.before at_it.rest id once_it) ∙ member_stands was at_it.rest id (request_at was id).transaction f refl in cc

  granted_it : request_at new_nodes id ≡ record (request_at nodes id) { granted = true }
  granted_it = ap node_request written ∙ written_is (node_at nodes id) (record (request_at nodes id) { granted = true }) (ap is_some (g.places id) ∙ g.held id listed_it)

  before_now : requests new_nodes (g.before ++ id ∷ []) ≡ requests nodes g.before ++ record (request_at nodes id) { granted = true } ∷ []
  before_now =
      map-append (request_at new_nodes) g.before (id ∷ []) ∙ (ap (λ q. q ++ request_at new_nodes id ∷ []) (requests_same nodes new_nodes g.before (λ x f. stay x (λ z. not_before (ap (is_listed g.before) (sym z) ∙ f))))
      ∙ ap (λ r. requests nodes g.before ++ r ∷ []) granted_it)

  behind_now : requests new_nodes at_it.rest ≡ requests nodes at_it.rest
  behind_now = requests_same nodes new_nodes at_it.rest (λ x f. stay x (λ z. not_behind (ap (is_listed at_it.rest) (sym z) ∙ f)))

  fit_it : list_all (are_compatible (request_at nodes id)) (requests nodes g.before) ≡ true
  fit_it = fits_here was nodes ids is_first are_shared at count id g at_it ∙ fit

  place_now : (x : ℕ) → queue_place_of (node_at new_nodes x) ≡ queue_place_of (node_at nodes x)
  place_now x = elim (cases_eq x id) [
    | inl c ↦ ap (λ y. queue_place_of (node_at new_nodes y)) c ∙ (ap queue_place_of written ∙ (place_written (node_at nodes id) (record (request_at nodes id) { granted = true }) refl ∙ ap (λ y. queue_place_of (node_at nodes y)) (sym c)))
    | inr n ↦ ap queue_place_of (stay x n)
  ]

  nil_end : (xs : List ℕ) (x : ℕ) → false ≡ is_nil (xs ++ x ∷ [])
  nil_end [] x = refl
  nil_end (y ∷ ys) x = refl

  pub grant_on : Granting was new_nodes ids false (are_shared && not (is_exclusive (request_at nodes id).mode)) new_at (count + 1)
  grant_on = record {
    before = g.before ++ id ∷ [];
    behind = at_it.rest;
    split = at_it.split ∙ sym (append_assoc g.before (id ∷ []) at_it.rest);
    at_is = next g.before at_it.rest at_it.split;
    counted = length-append g.before (id ∷ []) ∙ omega (arith, g.counted);
    to_be =
        rw (before_now, behind_now, append_assoc (requests nodes g.before) (record (request_at nodes id) { granted = true } ∷ []) (granted_behind (requests nodes g.before ++ record (request_at nodes id) { granted = true } ∷ []) (requests nodes at_it.rest)))
        (ap (λ q. requests nodes g.before ++ q) (sym (behind_here (requests nodes g.before) (request_at nodes id) (requests nodes at_it.rest) true fit_it))
        ∙ (ap (λ xs. requests nodes g.before ++ granted_behind (requests nodes g.before) (requests nodes xs)) (sym at_it.behind_is) ∙ g.to_be));
    first_is = nil_end g.before id;
    shared_is =
        ap (λ b. b && not (is_exclusive (request_at nodes id).mode)) g.shared_is
        ∙ sym (ap all_shared before_now ∙ (list_all-append (λ (r : Request). not (is_exclusive r.mode)) (requests nodes g.before) (record (request_at nodes id) { granted = true } ∷ [])
        ∙ ap (λ b. all_shared (requests nodes g.before) && b) (and_true (not (is_exclusive (request_at nodes id).mode)))));
    once = g.once;
    held = g.held;
    places = λ x. place_now x ∙ g.places x;
    others = λ x f. stay x (λ z. let y : false ≡ true = sym f ∙ (ap (is_listed ids) z ∙ listed_it) in cc) ∙ g.others x f;
  }

pub grant_step : (was nodes new_nodes : Nodes) (ids : List ℕ) (is_first are_shared shared : Bool) (at new_at : Option ℕ) (count id : ℕ) (r : Request) → Granting was nodes ids is_first are_shared at count → at ≡ Some id →
    r ≡ request_at nodes id → shared ≡ (are_shared && not (is_exclusive r.mode)) → (is_first || shared) ≡ true →
    node_at new_nodes id ≡ option_map (λ (n : Placed). record n { request = record r { granted = true } }) (node_at nodes id) →
    ((other : ℕ) → other ≢ id → node_at new_nodes other ≡ node_at nodes other) → ((before rest : List ℕ) → ids ≡ before ++ id ∷ rest → new_at ≡ first_in_list rest) → Granting was new_nodes ids false shared new_at (count + 1)
grant_step was nodes new_nodes ids is_first are_shared shared at new_at count id r g e same s f w o n =
    let all : shared ≡ (are_shared && not (is_exclusive (request_at nodes id).mode)) = s ∙ ap (λ (x : Request). are_shared && not (is_exclusive x.mode)) same in
    subst (λ b. Granting was new_nodes ids false b new_at (count + 1)) (sym all)
    (grant_on was nodes new_nodes ids is_first are_shared at new_at count id g e (sym (ap (λ b. is_first || b) all) ∙ f)
    (w ∙ ap (λ (x : Request). option_map (λ (m : Placed). record m { request = record x { granted = true } }) (node_at nodes id)) same) o n)

or_false : (a b : Bool) → (a || b) ≡ false → (a ≡ false) × (b ≡ false)
or_false true b e = absurd cc
or_false false b e = (refl, e)

pub grant_halt : (was nodes : Nodes) (ids : List ℕ) (is_first are_shared shared : Bool) (at : Option ℕ) (count id : ℕ) (r : Request) → Granting was nodes ids is_first are_shared at count → at ≡ Some id →
    r ≡ request_at nodes id → shared ≡ (are_shared && not (is_exclusive r.mode)) → (is_first || shared) ≡ false → requests nodes ids ≡ granted_behind [] (requests was ids)
grant_halt was nodes ids is_first are_shared shared at count id r g e same s f =
    let all : shared ≡ (are_shared && not (is_exclusive (request_at nodes id).mode)) = s ∙ ap (λ (x : Request). are_shared && not (is_exclusive x.mode)) same in
    let h = or_false is_first shared f in
    grant_stop was nodes ids is_first are_shared at count id g e h.0 (sym all ∙ h.1)
