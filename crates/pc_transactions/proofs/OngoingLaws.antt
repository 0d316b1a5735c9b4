-- Sessions, records and phases stay consistent whatever a call does to them.
use Rattle.pc_model.specs.Changes.{Applies}
use Rattle.std.proofs.Common.{◌≡◌, ℕ, zero, suc, ◌+◌, ◌-◌, ◌<◌, ◌≤◌, List, [], ◌∷◌, ◌++◌, length, map, set, replicate, Option, Some, None, is_some, is_none, refl, sym, ap, subst, ◌∙◌, arith, true, false, inl, inr}
use Rattle.std.specs.Prelude.{◌⊎◌, Ok}
use Rattle.std.proofs.lemmas.List.{length-replicate, length-set}
use Rattle.pc_types.specs.declared.Class.{Class}
use Rattle.pc_types.specs.declared.Class.TheVariants.{Before, During, After}
use Rattle.pc_types.specs.declared.Mode.TheVariants.{Shared, Exclusive}
use Rattle.pc_types.specs.declared.Outcome.{Outcome}
use Rattle.pc_types.specs.declared.Outcome.TheVariants.{Granted, Queued, Died}
use Rattle.pc_types.specs.declared.Phase.{Phase}
use Rattle.pc_types.specs.declared.Phase.TheVariants as phase
use Rattle.pc_types.specs.declared.Write.{Write}
use Rattle.pc_types.specs.Phases.{same_phase}
use Rattle.pc_model.specs.Database.{KeysRise}
use Rattle.pc_model.specs.History.{class_in}
use Rattle.pc_phase.specs.declared.change.Change.{Change}
use Rattle.pc_phase.specs.declared.change.Change.TheVariants as change
use Rattle.pc_phase.specs.Phases.{Phases, entered, left, advanced, held_back, to_of, point_after}
use Rattle.pc_records.specs.Rows.{Row, Kept}
use Rattle.pc_records.specs.RowSteps.{committed_row, rows_after, released_rows, written_row, closed_row, left_rows}
use Rattle.pc_records.specs.NewKeys.{new_keys, is_one_too_many}
use Rattle.pc_records.proofs.NewKeyLaws.{few_enough}
use Rattle.pc_slots.specs.Slots.{Pending}
use Rattle.pc_records.specs.Tables.{RecordsView, pending_at, pending_without, pending_after, kept_of, IsClearFor}
use Rattle.pc_transactions.specs.Sessions.{number_in, class_at, writes_in, left_by, seen_in, after_writing, after_dying, if_died, if_granted, with_session, AreFew}
use Rattle.pc_transactions.specs.Actives.{Active, active_in}
use Rattle.pc_transactions.specs.Counts.{AreCounted}
use Rattle.pc_transactions.specs.Ongoing.{Ongoing, after_answer, after_ending, with_rows}
use Rattle.pc_transactions.specs.InPlace.{at_place, HoldTogether, StandTogether}
use Rattle.pc_transactions.proofs.SessionLemmas.{few_set}
use Rattle.pc_transactions.proofs.Counted.{entered_phase, entered_point, entered_counted, left_phase, left_point, left_counted, read_counted, request_counted, first_counted, advanced_counted}
use Rattle.pc_transactions.proofs.HeldBack.{is_free, none_left}
use Rattle.pc_transactions.proofs.Together.{hold_begun, hold_first, hold_started, hold_moved, hold_shelved, hold_sealed, hold_taken, shared_together, shared_dead, written_together, committed_together, aborted_together, opens_capture, goes_to_rest, is_this, same_sets, same_again, all_during}

-- what these sessions are seen as over the records and the phases
abbrev pub seen_with : RecordsView → Phases → ℕ → List (Option Active) → Ongoing
seen_with t phases begun ss = record { sessions = ss; kept = kept_of t; open_set = t.opened; closed_set = t.shut; phases = phases; begun = begun }

-- what these sessions are seen as once a request to write was answered
pub answered_view : (t after : RecordsView) (phases : Phases) (begun : ℕ) (ss then : List (Option Active)) (s j : ℕ) (a : Active) (write : Write) (o : Outcome) → j ≡ s - 1 → at_place ss j ≡ Some a →
    then ≡ if_died o (set ss j (after_dying (at_place ss j))) (if_granted o (set ss j (after_writing (at_place ss j) write)) ss) →
    kept_of after ≡ record (kept_of t) { rows = rows_after t.rows write.key a.number Exclusive o } → after.opened ≡ t.opened → after.shut ≡ t.shut →
    seen_with after phases begun then ≡ after_answer (seen_with t phases begun ss) s write.key Exclusive o (if_granted o (with_session ss s (after_writing (active_in ss s) write)) ss)
answered_view t after phases begun ss then s j a write o at own gone rows opened shut =
    rw (gone, opened, shut, at) (ap (λ (kept : Kept). seen_kept kept t phases begun (if_died o (set ss (s - 1) (after_dying (at_place ss (s - 1)))) (if_granted o (set ss (s - 1) (after_writing (at_place ss (s - 1)) write)) ss)))
    (rows ∙ ap (λ n. with_rows (rows_after t.rows write.key n Exclusive o) (kept_of t)) (sym (ap number_in (rw at at own)))))
  where
    seen_kept : Kept → RecordsView → Phases → ℕ → List (Option Active) → Ongoing
    seen_kept kept t phases begun ss = record { sessions = ss; kept = kept; open_set = t.opened; closed_set = t.shut; phases = phases; begun = begun }

-- what the sessions are seen as once the transaction of one is over: with these rows, of which its requests were released, and these
-- keys in the open set
pub ended_view : (t middle after : RecordsView) (phases now : Phases) (begun : ℕ) (ss then : List (Option Active)) (s n : ℕ) (class : Class) (rows : List Row) (keys : List (List ℕ)) → then ≡ with_session ss s None → n ≡ number_in (active_in ss s) → class ≡ class_at (active_in ss s) →
    kept_of middle ≡ with_rows rows (kept_of t) → middle.opened ≡ keys → middle.shut ≡ t.shut → after ≡ record middle { rows = released_rows n middle.rows } → now ≡ left phases class →
    seen_with after now begun then ≡ record (after_ending (seen_with t phases begun ss) s rows) { open_set = keys }
ended_view t middle after phases now begun ss then s n class rows keys gone number of kept opened shut released is =
    rw (gone, released, is, number, of, opened, shut) (ap (λ (k : Kept). seen_kept k) kept)
  where
    seen_kept : Kept → Ongoing
    seen_kept k = record { sessions = with_session ss s None; kept = with_rows (released_rows (number_in (active_in ss s)) k.rows) k; open_set = keys; closed_set = t.shut; phases = left phases (class_at (active_in ss s)); begun = begun }

few_idle : (n : ℕ) → AreFew (replicate n None)
few_idle zero i = omega arith
few_idle (suc n) zero = omega arith
few_idle (suc n) (suc i) = few_idle n i

abbrev no_transaction : Option Active
no_transaction = None

-- at the start
pub first_stands : (t : RecordsView) (ss : List (Option Active)) (phases : Phases) (capacity n : ℕ) (pairs : List (List ℕ × List ℕ)) → t ≡ (let first : RecordsView = record { capacity = capacity; rows = map committed_row pairs; pending = []; point = 0; opened = []; shut = [] } in first) → ss ≡ replicate n None →
    phases ≡ (let first : Phases = record { phase = phase.Rest; point = 0; before = 0; during = 0; after = 0 } in first) → n ≤ 64 → StandTogether t ss phases 0
first_stands t ss phases capacity n pairs is idle new few = rw (is, idle, new) (record {
  hold = hold_first capacity n pairs;
  counted = first_counted _ (replicate n None) n refl refl;
  few = few_idle n;
  most_sessions = subst (λ k. k ≤ 64) (sym (length-replicate n no_transaction)) few;
  most_begun = omega arith;
  has_point = inl refl;
})

died_few : (a : Option Active) → length (writes_in a) ≤ 256 → length (writes_in (after_dying a)) ≤ 256
died_few None le = le
died_few (Some a) le = le

wrote_few : (a : Option Active) (write : Write) → length (writes_in a) ≤ 256 → is_one_too_many (writes_in a) write.key ≡ false → length (writes_in (after_writing a write)) ≤ 256
wrote_few None write le one = le
wrote_few (Some a) write le one = few_enough a.writes write le one

length_died : (o : Outcome) (ss : List (Option Active)) (j : ℕ) (x y : Option Active) → length (if_died o (set ss j x) (if_granted o (set ss j y) ss)) ≡ length ss
length_died Granted ss j x y = length-set ss j y
length_died Queued ss j x y = refl
length_died Died ss j x y = length-set ss j x

module _ (t : RecordsView) (ss : List (Option Active)) (phases : Phases) (begun : ℕ) (all : StandTogether t ss phases begun) where
  -- other records and as many sessions, which hold together as these do
  stands_with : (after : RecordsView) (then : List (Option Active)) → after.opened ≡ t.opened → after.shut ≡ t.shut → HoldTogether after then begun phases.phase phases.point t.opened t.shut → AreCounted phases then → AreFew then → length then ≡ length ss → StandTogether after then phases begun
  stands_with after then opened shut hold counted few many = record {
    hold = same_sets after then begun phases.phase phases.point t.opened after.opened t.shut after.shut opened shut hold;
    counted = counted;
    few = few;
    most_sessions = subst (λ n. n ≤ 64) (sym many) all.most_sessions;
    most_begun = all.most_begun;
    has_point = all.has_point;
  }

  -- a transaction has begun
  pub begun_stands : (j : ℕ) (a : Active) (now : Phases) → j < length ss → is_none (at_place ss j) ≡ true → begun < 1099511627776 → a.number ≡ begun + 1 → a.class ≡ class_in phases.phase → a.writes ≡ [] → now ≡ entered phases (class_in phases.phase) → StandTogether t (set ss j (Some a)) now (begun + 1)
  begun_stands j a now inside idle more number class bare is = record {
    hold = rw (at_phase, at_point) (hold_begun t ss begun phases.phase phases.point t.opened t.shut all.hold j a inside number class bare idle);
    counted = entered_counted phases ss all.counted now j a (class_in phases.phase) inside idle class is;
    few = few_set ss j (Some a) all.few (omega (arith, ap (λ (ws : List Write). length ws) bare));
    most_sessions = subst (λ n. n ≤ 64) (sym (length-set ss j (Some a))) all.most_sessions;
    most_begun = omega (arith, more);
    has_point = rw (at_phase, at_point) all.has_point;
  }
    where
      at_phase : now.phase ≡ phases.phase
      at_phase = entered_phase phases now (class_in phases.phase) is

      at_point : now.point ≡ phases.point
      at_point = entered_point phases now (class_in phases.phase) is

  -- a request to read was answered, and has not died
  pub read_stands : (after : RecordsView) (key : List ℕ) (n : ℕ) (o : Outcome) → after ≡ record t { rows = rows_after t.rows key n Shared o } → StandTogether after ss phases begun
  read_stands after key n o is = stands_with after ss (ap (λ (a : RecordsView). a.opened) is) (ap (λ (a : RecordsView). a.shut) is) (shared_together t after ss key n o is begun phases.phase phases.point t.opened t.shut all.hold) all.counted all.few refl

  -- it has died
  pub dead_stands : (after : RecordsView) (then : List (Option Active)) (j : ℕ) (key : List ℕ) (n : ℕ) (o : Outcome) → j < length ss → then ≡ set ss j (after_dying (at_place ss j)) → after ≡ record t { rows = rows_after t.rows key n Shared o } → StandTogether after then phases begun
  dead_stands after then j key n o inside gone is = rw gone (stands_with after (set ss j (after_dying (at_place ss j))) (ap (λ (a : RecordsView). a.opened) is) (ap (λ (a : RecordsView). a.shut) is) (shared_dead t after ss j key n o inside is begun phases.phase phases.point t.opened t.shut all.hold)
      (read_counted phases ss all.counted {A = Unit {0}} {E = Unit {0}} (Ok tt) Died (set ss j (after_dying (at_place ss j))) j refl tt)
      (few_set ss j (after_dying (at_place ss j)) all.few (died_few (at_place ss j) (all.few j))) (length-set ss j (after_dying (at_place ss j))))

  -- a request to write was answered
  pub request_stands : (after : RecordsView) (then : List (Option Active)) (j : ℕ) (a : Active) (write : Write) (value : Option (List ℕ)) (o : Outcome) → j < length ss → at_place ss j ≡ Some a → is_one_too_many a.writes write.key ≡ false → (o ≡ Granted → Applies write.change (seen_in t.rows (at_place ss j) write.key)) → (o ≡ Granted → value ≡ seen_in t.rows (after_writing (at_place ss j) write) write.key) →
      then ≡ if_died o (set ss j (after_dying (at_place ss j))) (if_granted o (set ss j (after_writing (at_place ss j) write)) ss) →
      kept_of after ≡ record (kept_of t) { rows = rows_after t.rows write.key a.number Exclusive o } →
      ((q : List ℕ) → pending_at after q ≡ pending_after o t write.key (let p : Pending = record { by = a.number; class = a.class; value = value } in p) q) → (o ≡ Granted → IsClearFor t write.key a.number) →
      after.point ≡ t.point → after.opened ≡ t.opened → after.shut ≡ t.shut → StandTogether after then phases begun
  request_stands after then j a write value o inside own one applies leaves gone rows pending clear still opened shut =
      rw gone (stands_with after _ opened shut
      (written_together t after ss j write value o inside (ap is_some own) applies leaves (rw own rows) (rw own pending) (rw own clear) still begun phases.phase phases.point t.opened t.shut all.hold)
      (request_counted phases ss all.counted {A = Unit {0}} {E = Unit {0}} (Ok tt) (λ r. o) write _ j refl tt)
      (few o) (length_died o ss j (after_dying (at_place ss j)) (after_writing (at_place ss j) write)))
    where
      few : (o : Outcome) → AreFew (if_died o (set ss j (after_dying (at_place ss j))) (if_granted o (set ss j (after_writing (at_place ss j) write)) ss))
      few Granted = few_set ss j (after_writing (at_place ss j) write) all.few (wrote_few (at_place ss j) write (all.few j) (ap (λ x. is_one_too_many (writes_in x) write.key) own ∙ one))
      few Queued = all.few
      few Died = few_set ss j (after_dying (at_place ss j)) all.few (died_few (at_place ss j) (all.few j))

  -- a transaction is over, with the keys of its commit, if it has committed, in the open set
  over_stands : (after : RecordsView) (j : ℕ) (now : Phases) → j < length ss → is_some (at_place ss j) ≡ true → now ≡ left phases (class_at (at_place ss j)) → HoldTogether after (set ss j None) begun phases.phase phases.point after.opened after.shut → StandTogether after (set ss j None) now begun
  over_stands after j now inside there is hold = record {
    hold = rw (at_phase, at_point) hold;
    counted = left_counted phases ss all.counted now j (class_at (at_place ss j)) inside there refl is;
    few = few_set ss j None all.few (omega arith);
    most_sessions = subst (λ n. n ≤ 64) (sym (length-set ss j None)) all.most_sessions;
    most_begun = all.most_begun;
    has_point = rw (at_phase, at_point) all.has_point;
  }
    where
      at_phase : now.phase ≡ phases.phase
      at_phase = left_phase phases now (class_at (at_place ss j)) is

      at_point : now.point ≡ phases.point
      at_point = left_point phases now (class_at (at_place ss j)) is

  pub committed_stands : (middle after : RecordsView) (then : List (Option Active)) (j n : ℕ) (ws : List Write) (now : Phases) → j < length ss → is_some (at_place ss j) ≡ true → KeysRise t.rows → ws ≡ writes_in (at_place ss j) → then ≡ set ss j None → now ≡ left phases (class_at (at_place ss j)) →
      kept_of middle ≡ record (kept_of t) { rows = map (written_row (left_by ws t.rows)) t.rows } → ((q : List ℕ) → pending_at middle q ≡ pending_without ws t q) → middle.point ≡ t.point → middle.opened ≡ t.opened ++ new_keys t.rows ws → middle.shut ≡ t.shut →
      after ≡ record middle { rows = released_rows n middle.rows } → StandTogether after then now begun
  committed_stands middle after then j n ws now inside there rise mine gone is rows pending still opened shut released =
      rw gone (over_stands after j now inside there is
      (same_sets after (set ss j None) begun phases.phase phases.point _ after.opened t.shut after.shut (ap (λ (a : RecordsView). a.opened) released ∙ opened ∙ ap (λ w. t.opened ++ new_keys t.rows w) mine) (ap (λ (a : RecordsView). a.shut) released ∙ shut) (committed_together t middle after ss j n ws inside rise mine rows pending still released begun phases.phase phases.point t.opened t.shut all.hold)))

  pub aborted_stands : (middle after : RecordsView) (then : List (Option Active)) (j n : ℕ) (ws : List Write) (now : Phases) → j < length ss → is_some (at_place ss j) ≡ true → KeysRise t.rows → ws ≡ writes_in (at_place ss j) → then ≡ set ss j None → now ≡ left phases (class_at (at_place ss j)) →
      kept_of middle ≡ kept_of t → ((q : List ℕ) → pending_at middle q ≡ pending_without ws t q) → middle.point ≡ t.point → middle.opened ≡ t.opened → middle.shut ≡ t.shut →
      after ≡ record middle { rows = released_rows n middle.rows } → StandTogether after then now begun
  aborted_stands middle after then j n ws now inside there rise mine gone is rows pending still opened shut released =
      rw gone (over_stands after j now inside there is
      (same_sets after (set ss j None) begun phases.phase phases.point t.opened after.opened t.shut after.shut (ap (λ (a : RecordsView). a.opened) released ∙ opened) (ap (λ (a : RecordsView). a.shut) released ∙ shut) (aborted_together t middle after ss j n ws inside rise mine rows pending still released begun phases.phase phases.point t.opened t.shut all.hold)))

  -- the phase has changed, and this holds together then
  moved_stands : (after : RecordsView) (c : Change) (now : Phases) → now ≡ advanced phases c → ((same_phase (to_of c) phase.Rest ≡ true) ⊎ (1 ≤ point_after c phases.point)) → HoldTogether after ss begun (to_of c) (point_after c phases.point) after.opened after.shut → StandTogether after ss now begun
  moved_stands after c now is has hold = record {
    hold = rw is hold;
    counted = advanced_counted phases now c ss is all.counted;
    few = all.few;
    most_sessions = all.most_sessions;
    most_begun = all.most_begun;
    has_point = rw is has;
  }

  -- outside rest there is a point
  point_in : (here : Phase) → same_phase phases.phase here ≡ true → same_phase here phase.Rest ≡ false → 1 ≤ phases.point
  point_in here at other = by_point all.has_point
    where
      by_point : (same_phase phases.phase phase.Rest ≡ true) ⊎ (1 ≤ phases.point) → 1 ≤ phases.point
      by_point (inr has) = has
      by_point (inl rest) = absurd (let no : true ≡ false = sym rest ∙ ap (λ p. same_phase p phase.Rest) (is_this phases.phase here at) ∙ other in cc)

  -- nothing held the change back, at which no set is closed
  pub changed_stands : (c : Change) (now : Phases) → (c ≡ change.Seal → ⊥) → held_back phases c (length t.shut) ≡ None → now ≡ advanced phases c → StandTogether t ss now begun
  changed_stands change.StartPoint now other none is = let free = is_free phases change.StartPoint (length t.shut) none in moved_stands t change.StartPoint now is (inr (omega arith)) (hold_started t ss begun phases.phase phases.point t.opened t.shut all.hold free.in_phase)
  changed_stands change.Seal now other none is = absurd (other refl)
  changed_stands change.OpenCapture now other none is =
      let free = is_free phases change.OpenCapture (length t.shut) none in
      moved_stands t change.OpenCapture now is (inr (point_in phase.Resolve free.in_phase refl)) (hold_moved t ss begun phases.phase phases.point t.opened t.shut all.hold phase.Resolve phase.Capture During free.in_phase (sym (all.counted During) ∙ free.none) opens_capture (λ over. over) refl)
  changed_stands change.Done now other none is =
      let free = is_free phases change.Done (length t.shut) none in
      moved_stands t change.Done now is (inr (point_in phase.Capture free.in_phase refl)) (hold_shelved t ss begun phases.phase phases.point t.opened t.shut all.hold free.in_phase (none_left t.shut free.none))
  changed_stands change.Rest now other none is =
      let free = is_free phases change.Rest (length t.shut) none in
      moved_stands t change.Rest now is (inl refl) (hold_moved t ss begun phases.phase phases.point t.opened t.shut all.hold phase.Complete phase.Rest After free.in_phase (sym (all.counted After) ∙ free.none) goes_to_rest (λ over. refl) refl)

  -- the open set was closed
  pub sealed_stands : (after : RecordsView) (now : Phases) → held_back phases change.Seal (length t.shut) ≡ None → now ≡ advanced phases change.Seal → after ≡ record t { rows = map closed_row t.rows; point = phases.point; opened = []; shut = t.opened } → StandTogether after ss now begun
  sealed_stands after now none is closed =
      let free = is_free phases change.Seal (length t.shut) none in
      rw closed (moved_stands (record t { rows = map closed_row t.rows; point = phases.point; opened = []; shut = t.opened }) change.Seal now is (inr (point_in phase.Prepare free.in_phase refl)) (hold_sealed t ss begun phases.phase phases.point t.opened t.shut all.hold free.in_phase (sym (all.counted Before) ∙ free.none)))

  -- the first key of the closed set was taken
  pub taken_stands : (after : RecordsView) (k : List ℕ) (ks : List (List ℕ)) → t.shut ≡ k ∷ ks → after ≡ record t { rows = left_rows t.rows k; shut = ks } → StandTogether after ss phases begun
  taken_stands after k ks first is = rw is (record { hold = hold_taken t ss begun phases.phase phases.point t.opened t.shut all.hold k ks first; counted = all.counted; few = all.few; most_sessions = all.most_sessions; most_begun = all.most_begun; has_point = all.has_point })

  -- what a transaction writes again is of the class that it had
  pub own_again : (j : ℕ) (a : Active) → at_place ss j ≡ Some a → (q : List ℕ) (p : Pending) → pending_at t q ≡ Some p → p.by ≡ a.number → p.class ≡ a.class
  own_again j a own q p stands by = same_again t ss begun phases.phase phases.point t.opened t.shut all.hold j q p (ap is_some own) stands (by ∙ sym (ap number_in own)) ∙ ap class_at own

  -- at the seal each write in place is of a During transaction
  pub sealed_during : held_back phases change.Seal (length t.shut) ≡ None → (q : List ℕ) (p : Pending) → pending_at t q ≡ Some p → p.class ≡ During
  sealed_during none = let free = is_free phases change.Seal (length t.shut) none in all_during t ss begun phases.phase phases.point t.opened t.shut all.hold free.in_phase (sym (all.counted Before) ∙ free.none)
