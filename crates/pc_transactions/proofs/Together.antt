-- What each event keeps of the sessions, the records and the cycle together, and what that gives to each.
use Rattle.pc_model.specs.Changes.{Applies, AppliesIfAny}
use Rattle.std.proofs.Common.{◌≡◌, ℕ, zero, suc, ◌+◌, ◌<◌, ◌≤◌, List, [], ◌∷◌, ◌++◌, length, map, set, replicate, Option, Some, None, is_some, is_none, refl, sym, ap, subst, ◌∙◌, arith, Bool, true, false, cond, eqb, ◌||◌, inl, inr}
use Rattle.std.specs.Prelude.{◌⊎◌, filter}
use Rattle.pc_types.specs.declared.Mode.TheVariants.{Shared, Exclusive}
use Rattle.pc_types.specs.declared.Class.{Class}
use Rattle.pc_types.specs.declared.Class.TheVariants.{Before, During, After}
use Rattle.pc_types.specs.declared.Phase.{Phase}
use Rattle.pc_types.specs.declared.Phase.TheVariants.{Rest, Prepare, Resolve, Capture, Complete}
use Rattle.pc_types.specs.declared.Reply.{Reply}
use Rattle.pc_types.specs.declared.Write.{Write}
use Rattle.std.proofs.lemmas.List.Folds.{list_any-append}
use Rattle.std.proofs.lemmas.Cmp.{eq_by_cmp_equiv}
use Rattle.pc_model.specs.Database.{KeysRise, key_order, same_bytes, written}
use Rattle.pc_model.specs.History.{class_in}
use Rattle.pc_types.specs.declared.Outcome.{Outcome}
use Rattle.pc_types.specs.declared.Outcome.TheVariants.{Granted, Queued, Died}
use Rattle.pc_model.specs.Points.{is_among}
use Rattle.pc_model.specs.Replies.{by_outcome, read_reply}
use Rattle.pc_types.specs.Phases.{same_phase, same_class}
use Rattle.pc_model.proofs.JoinLaws.{one_key}
use Rattle.pc_records.specs.Rows.{Row, Kept, record_of, stored, is_in_open_set, is_in_closed_set}
use Rattle.pc_records.specs.RowSteps.{rows_after, released_rows, written_row, closed_row, left_rows, committed_row}
use Rattle.pc_records.specs.NewKeys.{new_keys, with_new}
use Rattle.pc_slots.specs.Slots.{Pending}
use Rattle.pc_records.specs.Tables.{RecordsView, pending_at, pending_without, made_committed, kept_of, pending_after, read_of, IsClearFor}
use Rattle.pc_records.proofs.SetFlagLaws.{asked_sets, released_sets, written_value, written_open, written_closed, closed_value, closed_sets, left_value, left_open, left_closed}
use Rattle.pc_records.specs.RowSets.{HaveSameContents}
use Rattle.pc_records.proofs.ReleaseLaws.{rise_written}
use Rattle.pc_records.proofs.WrittenKeys.{written_first}
use Rattle.pc_transactions.specs.Sessions.{number_in, class_at, writes_in, left_by, seen_in, after_writing, after_dying, if_died, if_granted, is_of_class, class_count}
use Rattle.pc_transactions.specs.Actives.{Active}
use Rattle.pc_transactions.specs.InPlace.{at_place, write_in, may_be_active, fits_phase, AreSetsListed, is_open_point, HoldTogether, AreOpen}
use Rattle.pc_transactions.proofs.PlacedWrites.{by_place, number_of, own_write, same_writes, same_places, wrote_in_place, ended_in_place, begun_numbers, same_numbers, is_left, writes_stand, made_left, none_by, reads_right}

-- whatever number was given last, and whatever phase, point and sets these held together with, the others hold together with
-- the same
abbrev pub StayTogether : RecordsView → List (Option Active) → RecordsView → List (Option Active) → Type 0
StayTogether table sessions after then = (begun : ℕ) (phase : Phase) (point : ℕ) (open_keys closed : List (List ℕ)) → HoldTogether table sessions begun phase point open_keys closed → HoldTogether after then begun phase point open_keys closed

all_idle : (n i : ℕ) → at_place (replicate n None) i ≡ None
all_idle zero i = refl
all_idle (suc n) zero = refl
all_idle (suc n) (suc i) = all_idle n i

-- at the start nothing is open, and no key is in a set
pub hold_first : (capacity n : ℕ) (pairs : List (List ℕ × List ℕ)) → HoldTogether (record { capacity = capacity; rows = map committed_row pairs; pending = []; point = 0; opened = []; shut = [] }) (replicate n None) 0 Rest 0 [] []
hold_first capacity n pairs = record {
  writes = record { placed = λ i q some. absurd (let no : false ≡ true = sym (ap (λ a. is_some (write_in (map committed_row pairs) a q)) (all_idle n i)) ∙ some in cc); owned = λ q. inl refl; apply = λ i q. subst (λ a. AppliesIfAny (written (writes_in a) q) (stored (record_of (map committed_row pairs) q))) (sym (all_idle n i)) tt };
  numbers = record {
    apart = λ i j some other same. absurd (let no : false ≡ true = sym (ap (is_some {T = Active}) (all_idle n i)) ∙ some in cc);
    given = λ i. omega (arith, ap number_in (all_idle n i));
  };
  classes = λ i. ap (fits_phase Rest) (all_idle n i);
  sets = record { open_set = λ q open_keys. absurd (let no : false ≡ true = sym (none_open pairs q) ∙ open_keys in cc); closed_set = λ q closed. absurd (let no : false ≡ true = sym (none_closed pairs q) ∙ closed in cc) };
  idle = λ at_rest. refl;
  within = omega arith;
  fresh = λ prepare. absurd (let no : false ≡ true = prepare in cc);
}
  where
    none_open : (pairs : List (List ℕ × List ℕ)) (q : List ℕ) → is_in_open_set (record_of (map committed_row pairs) q) ≡ false
    none_open [] q = refl
    none_open (p ∷ ps) q = elim (same_bytes q p.0) as (λ b. is_in_open_set (cond b (Some (committed_row p).1) (record_of (map committed_row ps) q)) ≡ false) [ true ↦ refl | false ↦ none_open ps q ]

    none_closed : (pairs : List (List ℕ × List ℕ)) (q : List ℕ) → is_in_closed_set (record_of (map committed_row pairs) q) ≡ false
    none_closed [] q = refl
    none_closed (p ∷ ps) q = elim (same_bytes q p.0) as (λ b. is_in_closed_set (cond b (Some (committed_row p).1) (record_of (map committed_row ps) q)) ≡ false) [ true ↦ refl | false ↦ none_closed ps q ]

-- a transaction of the phase's class may be active in the phase
begun_fits : (phase : Phase) → may_be_active phase (class_in phase) ≡ true
begun_fits Rest = refl
begun_fits Prepare = refl
begun_fits Resolve = refl
begun_fits Capture = refl
begun_fits Complete = refl

-- a key of the writes is new, or was in the open set
new_or_open : (rows : List Row) (ws : List Write) (q : List ℕ) → is_some (written ws q) ≡ true → (is_in_open_set (record_of rows q) ≡ true) ⊎ (is_among (new_keys rows ws) q ≡ true)
new_or_open rows [] q some = absurd (let no : false ≡ true = some in cc)
new_or_open rows (w ∷ ws) q some = by_match (same_bytes w.key q) refl (sym (written_first w ws q) ∙ some) (new_or_open rows ws q)
  where
    same : same_bytes w.key q ≡ true → same_bytes q w.key ≡ true
    same e = ap (λ k. same_bytes q k) (one_key w.key q e) ∙ (eq_by_cmp_equiv key_order.total).refl q

    later : (b : Bool) → is_among (new_keys rows ws) q ≡ true → is_among (with_new b w.key (new_keys rows ws)) q ≡ true
    later true among = among
    later false among = ap (λ b. same_bytes q w.key || b) among ∙ elim (same_bytes q w.key) as (λ b. (b || true) ≡ true) [ true ↦ refl | false ↦ refl ]

    by_new : (b : Bool) → is_in_open_set (record_of rows w.key) ≡ b → same_bytes w.key q ≡ true → (is_in_open_set (record_of rows q) ≡ true) ⊎ (is_among (with_new b w.key (new_keys rows ws)) q ≡ true)
    by_new true e m = inl (ap (λ k. is_in_open_set (record_of rows k)) (sym (one_key w.key q m)) ∙ e)
    by_new false e m = inr (ap (λ b. b || is_among (new_keys rows ws) q) (same m))

    by_match : (b : Bool) → same_bytes w.key q ≡ b → (b || is_some (written ws q)) ≡ true →
        (is_some (written ws q) ≡ true → (is_in_open_set (record_of rows q) ≡ true) ⊎ (is_among (new_keys rows ws) q ≡ true)) →
        (is_in_open_set (record_of rows q) ≡ true) ⊎ (is_among (with_new (is_in_open_set (record_of rows w.key)) w.key (new_keys rows ws)) q ≡ true)
    by_match true e s rest = by_new (is_in_open_set (record_of rows w.key)) refl e
    by_match false e s rest = by_rest (rest s)
      where
        by_rest : (is_in_open_set (record_of rows q) ≡ true) ⊎ (is_among (new_keys rows ws) q ≡ true) → (is_in_open_set (record_of rows q) ≡ true) ⊎ (is_among (with_new (is_in_open_set (record_of rows w.key)) w.key (new_keys rows ws)) q ≡ true)
        by_rest (inl open_keys) = inl open_keys
        by_rest (inr among) = inr (later (is_in_open_set (record_of rows w.key)) among)

in_first : (keys more : List (List ℕ)) (q : List ℕ) → is_among keys q ≡ true → is_among (keys ++ more) q ≡ true
in_first keys more q among = list_any-append (same_bytes q) keys more ∙ ap (λ b. b || is_among more q) among

in_second : (keys more : List (List ℕ)) (q : List ℕ) → is_among more q ≡ true → is_among (keys ++ more) q ≡ true
in_second keys more q among = list_any-append (same_bytes q) keys more ∙ ap (λ b. is_among keys q || b) among ∙ elim (is_among keys q) as (λ b. (b || true) ≡ true) [ true ↦ refl | false ↦ refl ]

-- if none is counted, none is of the class
none_counted : (class : Class) (ss : List (Option Active)) → class_count class ss ≡ 0 → (i : ℕ) → is_of_class class (at_place ss i) ≡ false
none_counted class [] none i = refl
none_counted class (a ∷ rest) none i = by_head (is_of_class class a) refl none i (λ later. none_counted class rest later)
  where
    by_head : (b : Bool) → is_of_class class a ≡ b → length (cond b (a ∷ filter (is_of_class class) rest) (filter (is_of_class class) rest)) ≡ 0 → (i : ℕ) → (length (filter (is_of_class class) rest) ≡ 0 → (k : ℕ) → is_of_class class (at_place rest k) ≡ false) → is_of_class class (at_place (a ∷ rest) i) ≡ false
    by_head true e none i later = absurd (let no : suc (length (filter (is_of_class class) rest)) ≡ 0 = none in omega (arith, no))
    by_head false e none zero later = e
    by_head false e none (suc i) later = later none i

-- what is the same phase is equal
pub is_this : (a b : Phase) → same_phase a b ≡ true → a ≡ b
is_this Rest Rest e = refl
is_this Prepare Prepare e = refl
is_this Resolve Resolve e = refl
is_this Capture Capture e = refl
is_this Complete Complete e = refl
is_this Rest Prepare e = absurd (let no : false ≡ true = e in cc)
is_this Rest Resolve e = absurd (let no : false ≡ true = e in cc)
is_this Rest Capture e = absurd (let no : false ≡ true = e in cc)
is_this Rest Complete e = absurd (let no : false ≡ true = e in cc)
is_this Prepare Rest e = absurd (let no : false ≡ true = e in cc)
is_this Prepare Resolve e = absurd (let no : false ≡ true = e in cc)
is_this Prepare Capture e = absurd (let no : false ≡ true = e in cc)
is_this Prepare Complete e = absurd (let no : false ≡ true = e in cc)
is_this Resolve Rest e = absurd (let no : false ≡ true = e in cc)
is_this Resolve Prepare e = absurd (let no : false ≡ true = e in cc)
is_this Resolve Capture e = absurd (let no : false ≡ true = e in cc)
is_this Resolve Complete e = absurd (let no : false ≡ true = e in cc)
is_this Capture Rest e = absurd (let no : false ≡ true = e in cc)
is_this Capture Prepare e = absurd (let no : false ≡ true = e in cc)
is_this Capture Resolve e = absurd (let no : false ≡ true = e in cc)
is_this Capture Complete e = absurd (let no : false ≡ true = e in cc)
is_this Complete Rest e = absurd (let no : false ≡ true = e in cc)
is_this Complete Prepare e = absurd (let no : false ≡ true = e in cc)
is_this Complete Resolve e = absurd (let no : false ≡ true = e in cc)
is_this Complete Capture e = absurd (let no : false ≡ true = e in cc)

module _ (t : RecordsView) (ss : List (Option Active)) (begun : ℕ) (phase : Phase) (point : ℕ) (open_keys closed : List (List ℕ)) (hold : HoldTogether t ss begun phase point open_keys closed) where
  -- no key of a closed set is left if the point is over
  pub none_closed : is_open_point phase ≡ false → (q : List ℕ) → is_in_closed_set (record_of t.rows q) ≡ false
  none_closed over q = by_flag (is_in_closed_set (record_of t.rows q)) refl
    where
      by_flag : (b : Bool) → is_in_closed_set (record_of t.rows q) ≡ b → is_in_closed_set (record_of t.rows q) ≡ false
      by_flag false e = e
      by_flag true e = absurd (let no : false ≡ true = ap (λ keys. is_among keys q) (sym (hold.idle over)) ∙ hold.sets.closed_set q e in cc)

  -- a transaction of class Before writes no key of a closed set
  pub outside_closed : (j : ℕ) (q : List ℕ) → class_at (at_place ss j) ≡ Before → is_in_closed_set (record_of t.rows q) ≡ false
  outside_closed j q before = none_closed (by_active (at_place ss j) before (hold.classes j)) q
    where
      by_phase : (p : Phase) → may_be_active p Before ≡ true → is_open_point p ≡ false
      by_phase Rest e = refl
      by_phase Prepare e = refl
      by_phase Complete e = refl
      by_phase Resolve e = absurd (let no : false ≡ true = e in cc)
      by_phase Capture e = absurd (let no : false ≡ true = e in cc)

      by_active : (a : Option Active) → class_at a ≡ Before → fits_phase phase a ≡ true → is_open_point phase ≡ false
      by_active None e f = absurd (let no : After ≡ Before = e in cc)
      by_active (Some a) e f = by_phase phase (ap (may_be_active phase) (sym e) ∙ f)

  -- a transaction that writes a key again is of the class that it had
  pub same_again : (j : ℕ) (q : List ℕ) (p : Pending) → is_some (at_place ss j) ≡ true → pending_at t q ≡ Some p → p.by ≡ number_in (at_place ss j) → p.class ≡ class_at (at_place ss j)
  same_again j q p there stands own = (number_of t.rows (at_place ss j) q p (own_write t ss begun hold.writes hold.numbers j q p there stands own)).1

  -- what is in a place is of a class that may be active
  pub may_stand : (q : List ℕ) (p : Pending) → pending_at t q ≡ Some p → (i : ℕ) × (p.class ≡ class_at (at_place ss i)) × (is_some (at_place ss i) ≡ true) × (may_be_active phase p.class ≡ true)
  may_stand q p stands = by_owner (hold.writes.owned q)
    where
      by_active : (a : Option Active) → is_some a ≡ true → fits_phase phase a ≡ true → may_be_active phase (class_at a) ≡ true
      by_active None e f = absurd (let no : false ≡ true = e in cc)
      by_active (Some a) e f = f

      by_owner : (pending_at t q ≡ None) ⊎ ((i : ℕ) × (pending_at t q ≡ write_in t.rows (at_place ss i) q)) → (i : ℕ) × (p.class ≡ class_at (at_place ss i)) × (is_some (at_place ss i) ≡ true) × (may_be_active phase p.class ≡ true)
      by_owner (inl none) = absurd (let no : true ≡ false = ap is_some (sym stands ∙ none) in cc)
      by_owner (inr owner) =
          let found = number_of t.rows (at_place ss owner.0) q p (sym owner.1 ∙ stands) in
          (owner.0, found.1, found.2, ap (may_be_active phase) found.1 ∙ by_active (at_place ss owner.0) found.2 (hold.classes owner.0))

  -- at the seal each write in place is of a During transaction
  pub all_during : same_phase phase Prepare ≡ true → class_count Before ss ≡ 0 → (q : List ℕ) (p : Pending) → pending_at t q ≡ Some p → p.class ≡ During
  all_during prepare none q p stands =
      let found = may_stand q p stands in
      by_class p.class (subst (λ ph. may_be_active ph p.class ≡ true) (is_this phase Prepare prepare) found.3) (not_of (at_place ss found.0) found.2 (none_counted Before ss none found.0) found.1)
    where
      not_of : (a : Option Active) → is_some a ≡ true → is_of_class Before a ≡ false → p.class ≡ class_at a → same_class p.class Before ≡ false
      not_of None e f g = absurd (let no : false ≡ true = e in cc)
      not_of (Some a) e f g = ap (λ c. same_class c Before) g ∙ f

      by_class : (c : Class) → may_be_active Prepare c ≡ true → same_class c Before ≡ false → c ≡ During
      by_class During e f = refl
      by_class Before e f = absurd (let no : true ≡ false = f in cc)
      by_class After e f = absurd (let no : false ≡ true = e in cc)

  -- in capture none is
  pub none_during : same_phase phase Capture ≡ true → (q : List ℕ) (p : Pending) → pending_at t q ≡ Some p → same_class p.class During ≡ false
  none_during capture q p stands = by_class p.class (subst (λ ph. may_be_active ph p.class ≡ true) (is_this phase Capture capture) (may_stand q p stands).3)
    where
      by_class : (c : Class) → may_be_active Capture c ≡ true → same_class c During ≡ false
      by_class After e = refl
      by_class Before e = refl
      by_class During e = absurd (let no : false ≡ true = e in cc)

  -- a transaction begins
  pub hold_begun : (j : ℕ) (a : Active) → j < length ss → a.number ≡ begun + 1 → a.class ≡ class_in phase → a.writes ≡ [] → is_none (at_place ss j) ≡ true → HoldTogether t (set ss j (Some a)) (begun + 1) phase point open_keys closed
  hold_begun j a inside number class bare idle = record {
    writes = same_writes t ss begun hold.writes hold.numbers t j (Some a) inside (λ q. refl) (λ q. refl) (λ q. ap (λ ws. write_in t.rows (Some (record a { writes = ws })) q) bare ∙ sym (nothing (at_place ss j) q idle)) (λ q. ap (λ ws. written ws q) bare ∙ sym (unwritten (at_place ss j) q idle));
    numbers = begun_numbers t ss begun hold.writes hold.numbers j a inside number;
    classes = by_place ss j (Some a) (λ i x. fits_phase phase x ≡ true) inside (ap (may_be_active phase) class ∙ begun_fits phase) (λ i other. hold.classes i);
    sets = hold.sets;
    idle = hold.idle;
    within = hold.within;
    fresh = hold.fresh;
  }
    where
      unwritten : (x : Option Active) (q : List ℕ) → is_none x ≡ true → written (writes_in x) q ≡ None
      unwritten None q e = refl
      unwritten (Some x) q e = absurd (let no : false ≡ true = e in cc)

      nothing : (x : Option Active) (q : List ℕ) → is_none x ≡ true → write_in t.rows x q ≡ None
      nothing None q e = refl
      nothing (Some x) q e = absurd (let no : false ≡ true = e in cc)

  listed : (rows : List Row) → HaveSameContents t.rows rows → AreSetsListed rows open_keys closed
  listed rows same = record { open_set = λ q e. hold.sets.open_set q (sym (same.open_set q) ∙ e); closed_set = λ q e. hold.sets.closed_set q (sym (same.closed_set q) ∙ e) }

  -- a request was answered
  pub hold_asked : (after : RecordsView) → HaveSameContents t.rows after.rows → ((q : List ℕ) → pending_at after q ≡ pending_at t q) → after.point ≡ t.point → HoldTogether after ss begun phase point open_keys closed
  hold_asked after same stays still = record {
    writes = same_places t ss begun hold.writes hold.numbers after same.value stays;
    numbers = hold.numbers;
    classes = hold.classes;
    sets = listed after.rows same;
    idle = hold.idle;
    within = subst (λ n. n ≤ point) (sym still) hold.within;
    fresh = λ prepare. subst (λ n. n < point) (sym still) (hold.fresh prepare);
  }

  -- a request has died
  pub hold_died : (j : ℕ) → j < length ss → HoldTogether t (set ss j (after_dying (at_place ss j))) begun phase point open_keys closed
  hold_died j inside = record {
    writes = same_writes t ss begun hold.writes hold.numbers t j (after_dying (at_place ss j)) inside (λ q. refl) (λ q. refl) (λ q. same_write (at_place ss j) q) (λ q. same_change (at_place ss j) q);
    numbers = same_numbers t ss begun hold.writes hold.numbers j (after_dying (at_place ss j)) inside (λ e. there (at_place ss j) e) (λ e. number (at_place ss j)) (subst (λ n. n ≤ begun) (sym (number (at_place ss j))) (hold.numbers.given j));
    classes = by_place ss j (after_dying (at_place ss j)) (λ i x. fits_phase phase x ≡ true) inside (class (at_place ss j) (hold.classes j)) (λ i other. hold.classes i);
    sets = hold.sets;
    idle = hold.idle;
    within = hold.within;
    fresh = hold.fresh;
  }
    where
      same_write : (a : Option Active) (q : List ℕ) → write_in t.rows (after_dying a) q ≡ write_in t.rows a q
      same_write None q = refl
      same_write (Some a) q = refl

      same_change : (a : Option Active) (q : List ℕ) → written (writes_in (after_dying a)) q ≡ written (writes_in a) q
      same_change None q = refl
      same_change (Some a) q = refl

      there : (a : Option Active) → is_some (after_dying a) ≡ true → is_some a ≡ true
      there None e = e
      there (Some a) e = refl

      number : (a : Option Active) → number_in (after_dying a) ≡ number_in a
      number None = refl
      number (Some a) = refl

      class : (a : Option Active) → fits_phase phase a ≡ true → fits_phase phase (after_dying a) ≡ true
      class None e = e
      class (Some a) e = e

  -- a write was made
  pub hold_wrote : (after : RecordsView) (j : ℕ) (w : Write) (value : Option (List ℕ)) → j < length ss → is_some (at_place ss j) ≡ true → HaveSameContents t.rows after.rows → after.point ≡ t.point → IsClearFor t w.key (number_in (at_place ss j)) → Applies w.change (seen_in t.rows (at_place ss j) w.key) → value ≡ seen_in t.rows (after_writing (at_place ss j) w) w.key →
      ((q : List ℕ) → pending_at after q ≡ cond (same_bytes w.key q) (Some (let p : Pending = record { by = number_in (at_place ss j); class = class_at (at_place ss j); value = value } in p)) (pending_at t q)) →
      HoldTogether after (set ss j (after_writing (at_place ss j) w)) begun phase point open_keys closed
  hold_wrote after j w value inside there same still clear applies leaves is = record {
    writes = wrote_in_place t ss begun hold.writes hold.numbers after j w value inside there clear applies leaves same.value is;
    numbers = same_numbers t ss begun hold.writes hold.numbers j (after_writing (at_place ss j) w) inside (λ e. there) (λ e. number (at_place ss j)) (subst (λ n. n ≤ begun) (sym (number (at_place ss j))) (hold.numbers.given j));
    classes = by_place ss j (after_writing (at_place ss j) w) (λ i x. fits_phase phase x ≡ true) inside (class (at_place ss j) (hold.classes j)) (λ i other. hold.classes i);
    sets = listed after.rows same;
    idle = hold.idle;
    within = subst (λ n. n ≤ point) (sym still) hold.within;
    fresh = λ prepare. subst (λ n. n < point) (sym still) (hold.fresh prepare);
  }
    where
      number : (a : Option Active) → number_in (after_writing a w) ≡ number_in a
      number None = refl
      number (Some a) = refl

      class : (a : Option Active) → fits_phase phase a ≡ true → fits_phase phase (after_writing a w) ≡ true
      class None e = e
      class (Some a) e = e

  over : (after : RecordsView) (keys : List (List ℕ)) (j : ℕ) → j < length ss → ((q : List ℕ) → is_some (written (writes_in (at_place ss j)) q) ≡ false → stored (record_of after.rows q) ≡ stored (record_of t.rows q)) → ((q : List ℕ) → pending_at after q ≡ pending_without (writes_in (at_place ss j)) t q) → after.point ≡ t.point → AreSetsListed after.rows keys closed → HoldTogether after (set ss j None) begun phase point keys closed
  over after keys j inside values is still sets = record {
    writes = ended_in_place t ss begun hold.writes hold.numbers after j inside values is;
    numbers = same_numbers t ss begun hold.writes hold.numbers j None inside (λ e. absurd (let no : false ≡ true = e in cc)) (λ e. absurd (let no : false ≡ true = e in cc)) (omega arith);
    classes = by_place ss j None (λ i x. fits_phase phase x ≡ true) inside refl (λ i other. hold.classes i);
    sets = sets;
    idle = hold.idle;
    within = subst (λ n. n ≤ point) (sym still) hold.within;
    fresh = λ prepare. subst (λ n. n < point) (sym still) (hold.fresh prepare);
  }

  -- a transaction is committed
  pub hold_committed : (after : RecordsView) (j n : ℕ) → j < length ss → KeysRise t.rows → after.rows ≡ released_rows n (map (written_row (left_by (writes_in (at_place ss j)) t.rows)) t.rows) → ((q : List ℕ) → pending_at after q ≡ pending_without (writes_in (at_place ss j)) t q) → after.point ≡ t.point →
      HoldTogether after (set ss j None) begun phase point (open_keys ++ new_keys t.rows (writes_in (at_place ss j))) closed
  hold_committed after j n inside rise rows is still =
      over after (open_keys ++ new_keys t.rows ws) j inside values is still
      (subst (λ rs. AreSetsListed rs (open_keys ++ new_keys t.rows ws) closed) (sym rows) (record { open_set = λ q e. by_open q (written_open left t.rows q (sym (same.open_set q) ∙ e)); closed_set = λ q e. hold.sets.closed_set q (sym (written_closed left t.rows q) ∙ sym (same.closed_set q) ∙ e) }))
    where
      ws : List Write
      ws = writes_in (at_place ss j)

      left : List ℕ → Option (Option (List ℕ))
      left = left_by ws t.rows

      same : HaveSameContents (map (written_row left) t.rows) (released_rows n (map (written_row left) t.rows))
      same = released_sets n (map (written_row left) t.rows) (rise_written left t.rows rise)

      values : (q : List ℕ) → is_some (written ws q) ≡ false → stored (record_of after.rows q) ≡ stored (record_of t.rows q)
      values q none = ap (λ rs. stored (record_of rs q)) rows ∙ same.value q ∙ written_value left t.rows q (is_left ws t.rows q ∙ none)

      by_new : (q : List ℕ) → (is_in_open_set (record_of t.rows q) ≡ true) ⊎ (is_among (new_keys t.rows ws) q ≡ true) → is_among (open_keys ++ new_keys t.rows ws) q ≡ true
      by_new q (inl e) = in_first open_keys (new_keys t.rows ws) q (hold.sets.open_set q e)
      by_new q (inr e) = in_second open_keys (new_keys t.rows ws) q e

      by_open : (q : List ℕ) → (is_in_open_set (record_of t.rows q) ≡ true) ⊎ (is_some (left q) ≡ true) → is_among (open_keys ++ new_keys t.rows ws) q ≡ true
      by_open q (inl e) = by_new q (inl e)
      by_open q (inr e) = by_new q (new_or_open t.rows ws q (sym (is_left ws t.rows q) ∙ e))

  -- a transaction is undone
  pub hold_aborted : (after : RecordsView) (j n : ℕ) → j < length ss → KeysRise t.rows → after.rows ≡ released_rows n t.rows → ((q : List ℕ) → pending_at after q ≡ pending_without (writes_in (at_place ss j)) t q) → after.point ≡ t.point → HoldTogether after (set ss j None) begun phase point open_keys closed
  hold_aborted after j n inside rise rows is still =
      over after open_keys j inside (λ q none. ap (λ rs. stored (record_of rs q)) rows ∙ (released_sets n t.rows rise).value q) is still (subst (λ rs. AreSetsListed rs open_keys closed) (sym rows) (listed (released_rows n t.rows) (released_sets n t.rows rise)))

  -- the phase has changed to one in which the same transactions may be active
  after_moving : (to : Phase) (next : ℕ) → ((i : ℕ) → fits_phase to (at_place ss i) ≡ true) → (is_open_point to ≡ false → closed ≡ []) → t.point ≤ next → (same_phase to Prepare ≡ true → t.point < next) → HoldTogether t ss begun to next open_keys closed
  after_moving to next classes idle within fresh = record { writes = hold.writes; numbers = hold.numbers; classes = classes; sets = hold.sets; idle = idle; within = within; fresh = fresh }

  fits_then : (to : Phase) → ((c : Class) → may_be_active phase c ≡ true → may_be_active to c ≡ true) → (i : ℕ) → fits_phase to (at_place ss i) ≡ true
  fits_then to may i = by_active (at_place ss i) (hold.classes i)
    where
      by_active : (a : Option Active) → fits_phase phase a ≡ true → fits_phase to a ≡ true
      by_active None e = refl
      by_active (Some a) e = may a.class e

  fits_without : (to : Phase) (class : Class) → class_count class ss ≡ 0 → ((c : Class) → may_be_active phase c ≡ true → same_class c class ≡ false → may_be_active to c ≡ true) → (i : ℕ) → fits_phase to (at_place ss i) ≡ true
  fits_without to class none may i = by_active (at_place ss i) (hold.classes i) (none_counted class ss none i)
    where
      by_active : (a : Option Active) → fits_phase phase a ≡ true → is_of_class class a ≡ false → fits_phase to a ≡ true
      by_active None e f = refl
      by_active (Some a) e f = may a.class e f

  pub hold_started : same_phase phase Rest ≡ true → HoldTogether t ss begun Prepare (point + 1) open_keys closed
  hold_started rest = after_moving Prepare (point + 1) (fits_then Prepare (λ c e. may c (subst (λ p. may_be_active p c ≡ true) (is_this phase Rest rest) e))) (λ e. hold.idle (ap is_open_point (is_this phase Rest rest))) (omega (arith, hold.within)) (λ e. omega (arith, hold.within))
    where
      may : (c : Class) → may_be_active Rest c ≡ true → may_be_active Prepare c ≡ true
      may Before e = refl
      may During e = refl
      may After e = e

  -- the phase changes, once no transaction of the class is active
  pub hold_moved : (from to : Phase) (class : Class) → same_phase phase from ≡ true → class_count class ss ≡ 0 → ((c : Class) → may_be_active from c ≡ true → same_class c class ≡ false → may_be_active to c ≡ true) → (is_open_point to ≡ false → is_open_point from ≡ false) → same_phase to Prepare ≡ false →
      HoldTogether t ss begun to point open_keys closed
  hold_moved from to class is none may over later =
      let one = is_this phase from is in
      after_moving to point (fits_without to class none (λ c e. may c (subst (λ p. may_be_active p c ≡ true) one e))) (λ e. hold.idle (ap is_open_point one ∙ over e)) hold.within (λ e. absurd (let no : true ≡ false = sym e ∙ later in cc))

  -- the part of the point is shelved
  pub hold_shelved : same_phase phase Capture ≡ true → closed ≡ [] → HoldTogether t ss begun Complete point open_keys closed
  hold_shelved capture none = after_moving Complete point (fits_then Complete (λ c e. may c (subst (λ p. may_be_active p c ≡ true) (is_this phase Capture capture) e))) (λ e. none) hold.within (λ e. absurd (let no : false ≡ true = e in cc))
    where
      may : (c : Class) → may_be_active Capture c ≡ true → may_be_active Complete c ≡ true
      may After e = refl
      may Before e = refl
      may During e = e

  -- the open set is closed
  pub hold_sealed : same_phase phase Prepare ≡ true → class_count Before ss ≡ 0 → HoldTogether (record t { rows = map closed_row t.rows; point = point; opened = []; shut = t.opened }) ss begun Resolve point [] open_keys
  hold_sealed prepare none = record {
    writes = same_places t ss begun hold.writes hold.numbers (record t { rows = map closed_row t.rows; point = point; opened = []; shut = t.opened }) (λ q. closed_value t.rows q) (λ q. refl);
    numbers = hold.numbers;
    classes = fits_without Resolve Before none (λ c e. may c (subst (λ p. may_be_active p c ≡ true) (is_this phase Prepare prepare) e));
    sets = record { open_set = λ q e. absurd (let no : false ≡ true = sym (closed_sets t.rows q).1 ∙ e in cc); closed_set = λ q e. hold.sets.open_set q (sym (closed_sets t.rows q).0 ∙ e) };
    idle = λ e. absurd (let no : true ≡ false = e in cc);
    within = omega arith;
    fresh = λ e. absurd (let no : false ≡ true = e in cc);
  }
    where
      may : (c : Class) → may_be_active Prepare c ≡ true → same_class c Before ≡ false → may_be_active Resolve c ≡ true
      may Before e f = absurd (let no : true ≡ false = f in cc)
      may During e f = refl
      may After e f = refl

  -- the first key of the closed set is taken
  pub hold_taken : (k : List ℕ) (ks : List (List ℕ)) → closed ≡ k ∷ ks → HoldTogether (record t { rows = left_rows t.rows k; shut = ks }) ss begun phase point open_keys ks
  hold_taken k ks is = record {
    writes = same_places t ss begun hold.writes hold.numbers (record t { rows = left_rows t.rows k; shut = ks }) (λ q. left_value t.rows k q) (λ q. refl);
    numbers = hold.numbers;
    classes = hold.classes;
    sets = record { open_set = λ q e. hold.sets.open_set q (sym (left_open t.rows k q) ∙ e); closed_set = λ q e. by_rest q (left_closed t.rows k q e) };
    idle = λ e. absurd (let no : k ∷ ks ≡ [] = sym is ∙ hold.idle e in cc);
    within = hold.within;
    fresh = hold.fresh;
  }
    where
      by_rest : (q : List ℕ) → (is_in_closed_set (record_of t.rows q) ≡ true) × (same_bytes q k ≡ false) → is_among ks q ≡ true
      by_rest q was = sym (ap (λ b. b || is_among ks q) was.1) ∙ ap (λ keys. is_among keys q) (sym is) ∙ hold.sets.closed_set q was.0

-- a request to read was answered
pub shared_together : (t after : RecordsView) (ss : List (Option Active)) (key : List ℕ) (n : ℕ) (o : Outcome) → after ≡ record t { rows = rows_after t.rows key n Shared o } → StayTogether t ss after ss
shared_together t after ss key n o is begun phase point open_keys closed hold =
    hold_asked t ss begun phase point open_keys closed hold after (subst (λ rows. HaveSameContents t.rows rows) (sym (ap (λ (a : RecordsView). a.rows) is)) (asked_sets t.rows key n Shared o)) (λ q. ap (λ (a : RecordsView). pending_at a q) is) (ap (λ (a : RecordsView). a.point) is)

-- a request to read has died
pub shared_dead : (t after : RecordsView) (ss : List (Option Active)) (j : ℕ) (key : List ℕ) (n : ℕ) (o : Outcome) → j < length ss → after ≡ record t { rows = rows_after t.rows key n Shared o } → StayTogether t ss after (set ss j (after_dying (at_place ss j)))
shared_dead t after ss j key n o inside is begun phase point open_keys closed hold =
    hold_died after ss begun phase point open_keys closed (shared_together t after ss key n o is begun phase point open_keys closed hold) j inside

-- a request to write was answered
pub written_together : (t after : RecordsView) (ss : List (Option Active)) (j : ℕ) (w : Write) (value : Option (List ℕ)) (o : Outcome) → j < length ss → is_some (at_place ss j) ≡ true → (o ≡ Granted → Applies w.change (seen_in t.rows (at_place ss j) w.key)) → (o ≡ Granted → value ≡ seen_in t.rows (after_writing (at_place ss j) w) w.key) →
    kept_of after ≡ record (kept_of t) { rows = rows_after t.rows w.key (number_in (at_place ss j)) Exclusive o } →
    ((q : List ℕ) → pending_at after q ≡ pending_after o t w.key (let p : Pending = record { by = number_in (at_place ss j); class = class_at (at_place ss j); value = value } in p) q) → (o ≡ Granted → IsClearFor t w.key (number_in (at_place ss j))) → after.point ≡ t.point →
    StayTogether t ss after (if_died o (set ss j (after_dying (at_place ss j))) (if_granted o (set ss j (after_writing (at_place ss j) w)) ss))
written_together t after ss j w value o inside there applies leaves rows pending clear still begun phase point open_keys closed hold = by_outcome o pending (λ e. clear e) (λ e. applies e) (λ e. leaves e)
  where
    same : HaveSameContents t.rows after.rows
    same = subst (λ rs. HaveSameContents t.rows rs) (sym (ap (λ (k : Kept). k.rows) rows)) (asked_sets t.rows w.key (number_in (at_place ss j)) Exclusive o)

    by_outcome : (o : Outcome) → ((q : List ℕ) → pending_at after q ≡ pending_after o t w.key (let p : Pending = record { by = number_in (at_place ss j); class = class_at (at_place ss j); value = value } in p) q) → (o ≡ Granted → IsClearFor t w.key (number_in (at_place ss j))) → (o ≡ Granted → Applies w.change (seen_in t.rows (at_place ss j) w.key)) → (o ≡ Granted → value ≡ seen_in t.rows (after_writing (at_place ss j) w) w.key) →
        HoldTogether after (if_died o (set ss j (after_dying (at_place ss j))) (if_granted o (set ss j (after_writing (at_place ss j) w)) ss)) begun phase point open_keys closed
    by_outcome Granted pending clear applies leaves = hold_wrote t ss begun phase point open_keys closed hold after j w value inside there same still (clear refl) (applies refl) (leaves refl) pending
    by_outcome Queued pending clear applies leaves = hold_asked t ss begun phase point open_keys closed hold after same pending still
    by_outcome Died pending clear applies leaves = hold_died after ss begun phase point open_keys closed (hold_asked t ss begun phase point open_keys closed hold after same pending still) j inside

-- the classes that may be active once the phase has changed
pub opens_capture : (c : Class) → may_be_active Resolve c ≡ true → same_class c During ≡ false → may_be_active Capture c ≡ true
opens_capture After e f = refl
opens_capture Before e f = e
opens_capture During e f = absurd (let no : true ≡ false = f in cc)

pub goes_to_rest : (c : Class) → may_be_active Complete c ≡ true → same_class c After ≡ false → may_be_active Rest c ≡ true
goes_to_rest Before e f = refl
goes_to_rest During e f = e
goes_to_rest After e f = absurd (let no : true ≡ false = f in cc)

-- a transaction's writes are committed where they are, and its requests released
pub committed_together : (t middle after : RecordsView) (ss : List (Option Active)) (j n : ℕ) (ws : List Write) → j < length ss → KeysRise t.rows → ws ≡ writes_in (at_place ss j) → kept_of middle ≡ record (kept_of t) { rows = map (written_row (left_by ws t.rows)) t.rows } → ((q : List ℕ) → pending_at middle q ≡ pending_without ws t q) →
    middle.point ≡ t.point → after ≡ record middle { rows = released_rows n middle.rows } → (begun : ℕ) (phase : Phase) (point : ℕ) (open_keys closed : List (List ℕ)) → HoldTogether t ss begun phase point open_keys closed →
    HoldTogether after (set ss j None) begun phase point (open_keys ++ new_keys t.rows (writes_in (at_place ss j))) closed
committed_together t middle after ss j n ws inside rise mine rows pending still left begun phase point open_keys closed hold =
    hold_committed t ss begun phase point open_keys closed hold after j n inside rise
    (ap (λ (a : RecordsView). a.rows) left ∙ ap (released_rows n) (ap (λ (k : Kept). k.rows) rows ∙ ap (λ w. map (written_row (left_by w t.rows)) t.rows) mine))
    (λ q. ap (λ (a : RecordsView). pending_at a q) left ∙ pending q ∙ ap (λ w. pending_without w t q) mine) (ap (λ (a : RecordsView). a.point) left ∙ still)

-- a transaction's writes are undone, and its requests released
pub aborted_together : (t middle after : RecordsView) (ss : List (Option Active)) (j n : ℕ) (ws : List Write) → j < length ss → KeysRise t.rows → ws ≡ writes_in (at_place ss j) → kept_of middle ≡ kept_of t → ((q : List ℕ) → pending_at middle q ≡ pending_without ws t q) →
    middle.point ≡ t.point → after ≡ record middle { rows = released_rows n middle.rows } → StayTogether t ss after (set ss j None)
aborted_together t middle after ss j n ws inside rise mine rows pending still left begun phase point open_keys closed hold =
    hold_aborted t ss begun phase point open_keys closed hold after j n inside rise
    (ap (λ (a : RecordsView). a.rows) left ∙ ap (released_rows n) (ap (λ (k : Kept). k.rows) rows))
    (λ q. ap (λ (a : RecordsView). pending_at a q) left ∙ pending q ∙ ap (λ w. pending_without w t q) mine) (ap (λ (a : RecordsView). a.point) left ∙ still)

-- each of its keys has a write in its place until then
pub writes_placed : (t : RecordsView) (ss : List (Option Active)) (begun j : ℕ) (ws : List Write) → AreOpen t ss begun → ws ≡ writes_in (at_place ss j) → (q : List ℕ) → is_some (written ws q) ≡ true → is_some (pending_at t q) ≡ true
writes_placed t ss begun j ws placed mine = subst (λ w. (q : List ℕ) → is_some (written w q) ≡ true → is_some (pending_at t q) ≡ true) (sym mine) (writes_stand t ss begun placed.writes placed.numbers j)

-- what a commit makes the keys' values is what its writes leave
pub rows_left : (t : RecordsView) (kept : Kept) (ss : List (Option Active)) (begun j : ℕ) (ws : List Write) → AreOpen t ss begun → is_some (at_place ss j) ≡ true → ws ≡ writes_in (at_place ss j) → kept ≡ record (kept_of t) { rows = map (written_row (made_committed ws t)) t.rows } →
    kept ≡ record (kept_of t) { rows = map (written_row (left_by ws t.rows)) t.rows }
rows_left t kept ss begun j ws placed there mine rows = rows ∙ ap (λ (left : List ℕ → Option (Option (List ℕ))). record (kept_of t) { rows = map (written_row left) t.rows }) (λ i q. made q i)
  where
    made : (q : List ℕ) → made_committed ws t q ≡ left_by ws t.rows q
    made q = subst (λ w. made_committed w t q ≡ left_by w t.rows q) (sym mine) (made_left t ss begun placed.writes placed.numbers j q there)

-- and then there is none
pub none_placed : (t middle : RecordsView) (ss : List (Option Active)) (begun j n : ℕ) (ws : List Write) → AreOpen t ss begun → is_some (at_place ss j) ≡ true → ws ≡ writes_in (at_place ss j) → n ≡ number_in (at_place ss j) → ((q : List ℕ) → pending_at middle q ≡ pending_without ws t q) →
    (q : List ℕ) (p : Pending) → pending_at middle q ≡ Some p → eqb p.by n ≡ false
none_placed t middle ss begun j n ws placed there mine number pending q p stands =
    ap (eqb p.by) number ∙ none_by t ss begun placed.writes placed.numbers middle j there (λ k. pending k ∙ ap (λ w. pending_without w t k) mine) q p stands

-- what is read if the request was granted is what the transaction sees
pub read_granted : (t : RecordsView) (ss : List (Option Active)) (begun j n : ℕ) (key : List ℕ) (o : Outcome) (found : Reply) → AreOpen t ss begun → is_some (at_place ss j) ≡ true → Granted ≡ o → n ≡ number_in (at_place ss j) → IsClearFor t key n →
    found ≡ read_reply (read_of (pending_at t key) (stored (record_of t.rows key))) → found ≡ by_outcome o (read_reply (seen_in t.rows (at_place ss j) key))
read_granted t ss begun j n key o found placed there granted number clear is =
    is ∙ ap read_reply (reads_right t ss begun placed.writes placed.numbers j key there (subst (λ k. IsClearFor t key k) number clear)) ∙ ap (λ x. by_outcome x (read_reply (seen_in t.rows (at_place ss j) key))) granted

-- and so it sees what is in the place of a key that it may write
pub seen_granted : (t : RecordsView) (ss : List (Option Active)) (begun j n : ℕ) (key : List ℕ) (found : Option (List ℕ)) → AreOpen t ss begun → is_some (at_place ss j) ≡ true → n ≡ number_in (at_place ss j) → IsClearFor t key n → found ≡ read_of (pending_at t key) (stored (record_of t.rows key)) →
    found ≡ seen_in t.rows (at_place ss j) key
seen_granted t ss begun j n key found placed there number clear is = is ∙ reads_right t ss begun placed.writes placed.numbers j key there (subst (λ k. IsClearFor t key k) number clear)

-- the same lists of both sets
pub same_sets : (t : RecordsView) (ss : List (Option Active)) (begun : ℕ) (phase : Phase) (point : ℕ) (open_keys now closed left : List (List ℕ)) → now ≡ open_keys → left ≡ closed → HoldTogether t ss begun phase point open_keys closed → HoldTogether t ss begun phase point now left
same_sets t ss begun phase point open_keys now closed left opened shut hold = rw (opened, shut) hold
