-- Sessions and what they are seen as.
use Rattle.std.proofs.Common.{◌≡◌, ℕ, zero, suc, ◌-◌, ◌<◌, ◌≤◌, List, [], ◌∷◌, length, get_or, set, Option, Some, None, is_some, is_none, refl, sym, ap, subst, ◌∙◌, true, false}
use Rattle.pc_types.specs.declared.Write.{Write}
use Rattle.pc_types.specs.declared.Outcome.{Outcome}
use Rattle.pc_types.specs.declared.Outcome.TheVariants.{Granted, Queued, Died}
use Rattle.std.proofs.lemmas.List.{length-map, map-set, get_or_default}
use Rattle.std.proofs.Math.ListN.{get_or-map}
use Rattle.pc_transactions.specs.Sessions.{LaneView, actives_of, with_session, after_writing, writes_in, after_dying, if_died, if_granted, AreFew}
use Rattle.pc_transactions.specs.Actives.{Active, active_in}

-- one lane is set
pub set_one : (lanes : List LaneView) (i : ℕ) (lane : LaneView) → actives_of (set lanes i lane) ≡ set (actives_of lanes) i lane.own
set_one lanes i lane = map-set (λ (it : LaneView). it.own) lanes i lane

-- and the other way
pub inside_of : (lanes : List LaneView) {i : ℕ} → i < length (actives_of lanes) → i < length lanes
inside_of lanes {i} lt = subst (λ n. i < n) (length-map lanes (λ (it : LaneView). it.own)) lt

-- a session that has one has a transaction
pub is_there : (a : Option Active) → is_none a ≡ false → is_some a ≡ true
is_there None e = absurd (let no : true ≡ false = e in cc)
is_there (Some a) e = refl

-- what the lane at the place has
pub seen_at : (lanes : List LaneView) (s i : ℕ) (found : LaneView) → i ≡ s - 1 → i < length lanes → found ≡ get_or lanes i found → found.own ≡ active_in (actives_of lanes) s
seen_at lanes s i found at lt is = rw (← at) (ap (λ (it : LaneView). it.own) (is ∙ sym (get_or_default lanes i idle found lt)) ∙ sym (get_or-map (λ (it : LaneView). it.own) lanes i idle))
  where
    idle : LaneView
    idle = record { own = None; room = 0 }

-- the session's lane is set to one with this transaction, or none
pub set_lane : (lanes : List LaneView) (s i : ℕ) (lane : LaneView) (a : Option Active) → i ≡ s - 1 → lane.own ≡ a → actives_of (set lanes i lane) ≡ with_session (actives_of lanes) s a
set_lane lanes s i lane a at is = rw (← at) (set_one lanes i lane ∙ ap (set (actives_of lanes) i) is)

set_back : {X : Type 0} (xs : List X) (i : ℕ) (d : X) → set xs i (get_or xs i d) ≡ xs
set_back [] i d = refl
set_back (x ∷ xs) zero d = refl
set_back (x ∷ xs) (suc i) d = ap (λ ys. x ∷ ys) (set_back xs i d)

at_set : {X : Type 0} (P : X → Type 0) (xs : List X) (i j : ℕ) (x d : X) → P x → P (get_or xs j d) → P (get_or (set xs i x) j d)
at_set P [] i j x d p q = q
at_set P (y ∷ xs) zero zero x d p q = p
at_set P (y ∷ xs) zero (suc j) x d p q = q
at_set P (y ∷ xs) (suc i) zero x d p q = q
at_set P (y ∷ xs) (suc i) (suc j) x d p q = at_set P xs i j x d p q

-- no transaction has written too many keys once one is set that has not
pub few_set : (sessions : List (Option Active)) (i : ℕ) (t : Option Active) → AreFew sessions → length (writes_in t) ≤ 256 → AreFew (set sessions i t)
few_set sessions i t few le j = at_set (λ a. length (writes_in a) ≤ 256) sessions i j t None le (few j)

-- what becomes of the lane at the session's place
module _ (lanes : List LaneView) (s i : ℕ) (found : LaneView) (at : i ≡ s - 1) (lt : i < length lanes) (is : found ≡ get_or lanes i found) where
  abbrev before : List (Option Active)
  before = actives_of lanes

  own_before : found.own ≡ get_or before i None
  own_before = rw at (seen_at lanes s i found at lt is)

  -- its transaction, by which it is seen
  pub opened_before : (prepared : LaneView) (a : Active) → prepared.own ≡ found.own → Some a ≡ prepared.own → get_or before i None ≡ Some a
  opened_before prepared a same e = sym (e ∙ same ∙ own_before)

  -- if the lane is seen as before
  pub unchanged : (new : LaneView) → new.own ≡ found.own → actives_of (set lanes i new) ≡ before
  unchanged new same = set_one lanes i new ∙ ap (set before i) (same ∙ own_before) ∙ set_back before i None

  -- and if its transaction has written, or died, or waits, by the outcome
  pub answered_by : (prepared new : LaneView) (write : Write) (o : Outcome) → prepared.own ≡ found.own → new.own ≡ if_granted o (after_writing prepared.own write) (if_died o (after_dying prepared.own) prepared.own) →
      actives_of (set lanes i new) ≡ if_died o (set before i (after_dying (get_or before i None))) (if_granted o (set before i (after_writing (get_or before i None) write)) before)
  answered_by prepared new write Granted same e = set_one lanes i new ∙ ap (set before i) (e ∙ ap (λ a. after_writing a write) (same ∙ own_before))
  answered_by prepared new write Queued same e = set_one lanes i new ∙ ap (set before i) (e ∙ same ∙ own_before) ∙ set_back before i None
  answered_by prepared new write Died same e = set_one lanes i new ∙ ap (set before i) (e ∙ ap after_dying (same ∙ own_before))
