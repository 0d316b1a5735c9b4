-- A request of a key was answered, and the key is written where it was granted.
use Rattle.std.proofs.Common.{◌≡◌, ◌≢◌, ℕ, List, [], ◌∷◌, map, length, Option, Some, None, is_none, option_map, Result, Ok, Err, refl, sym, ap, ◌∙◌, subst, cond, Bool, true, false, eqb, ◌||◌, ◌&&◌, not}
use Rattle.std.proofs.lemmas.List.{length-map}
use Rattle.std.specs.Prelude.{MatchOption, IfOk, OnErr, IfErr, IsErr, IsErrAnd}
use Rattle.std.proofs.lemmas.Bool.{eq-eqb}
use Rattle.std.specs.FinMap.{find, put, is_sorted}
use Rattle.std.specs.FinMap.Entries.{by_order}
use Rattle.std.specs.Ordering.{is_lt, is_eq}
use Rattle.std.specs.declared.cmp.Ordering.{Ordering}
use Rattle.std.specs.declared.cmp.Ordering.TheVariants.{Less, Equal, Greater}
use Rattle.pc_types.specs.declared.Class.{Class}
use Rattle.pc_types.specs.declared.Class.TheVariants.{Before}
use Rattle.pc_types.specs.declared.Mode.{Mode}
use Rattle.pc_types.specs.declared.Mode.TheVariants.{Exclusive}
use Rattle.pc_types.specs.declared.Outcome.{Outcome}
use Rattle.pc_types.specs.declared.Outcome.TheVariants.{Granted, Queued, Died}
use Rattle.pc_types.specs.declared.Refusal.{Refusal}
use Rattle.pc_types.specs.declared.Refusal.TheVariants.{Full, OutOfMemory}
use Rattle.pc_model.specs.Database.{key_cmp, same_bytes}
use Rattle.pc_model.specs.Locks.{Queue, is_ungranted, outcome, queue_after, request_in}
use Rattle.pc_model.specs.Queues.{IsLegalQueue}
use Rattle.pc_model.proofs.JoinLaws.{one_key}
use Rattle.pc_model.proofs.RisingLaws.{Rise}
use Rattle.pc_slots.specs.declared.versions.Writer.{Writer}
use Rattle.pc_slots.specs.Slots.{Slot, Pending, pending_in, pending_of_writer, committed_by, is_locked, IsSlotSound, new_slot, put_slot, granted_slot, keeps_copy}
use Rattle.pc_records.specs.Rows.{Row, Record, record_of, stored, requests_on, is_in_closed_set}
use Rattle.pc_records.specs.RowSteps.{is_full_for, is_waiting_in_rows, with_requests, rows_after}
use Rattle.pc_records.specs.Tables.{read_of, pending_after, IsClearFor}
use Rattle.pc_records.specs.Floor.{Spot, Floor, IsFloorWhole, Each, AreSpotsSound, row_in, rows_in, pending_writes, table_on, with_slot_changed, asked, at_spot, at_key, with_spot, with_new_spot, has_spot, queue_at_slot, of_spot, slot_number_of, spots_with, new_spot, tidied, is_needed, waits_anywhere, copy_kept}
use Rattle.pc_records.proofs.Copies.{granted_alike}
use Rattle.pc_records.proofs.Exclusive.{alone, kept_answered, has_granted}
use Rattle.pc_records.proofs.Moments.{sound_new, sound_queue, put_sound, put_row, put_pending, put_key}
use Rattle.pc_records.proofs.SpotTidying.{or_parts, apart_tidied}
use Rattle.pc_records.proofs.SpotLaws.{no, no_some, one_some, same_self, spot_of_key, record_in, write_in, found_record, found_write, key_found, each_found, each_map, each_changed, each_entered, key_map, key_entered, none_found, number_found, rows_changed, rows_entered, writes_entered, number_twice, map_same, writes_same, IsFound, found, number_entered}

tied : (k : List ℕ) → key_cmp k k ≡ Equal
tied k = by_test (key_cmp k k) (same_self k)
  where
    by_test : (o : Ordering) → is_eq o ≡ true → o ≡ Equal
    by_test Less e = no e
    by_test Equal e = refl
    by_test Greater e = no e

-- a value put in the place of one that was put there
put_twice : (k : List ℕ) (v w : Record) (rows : List Row) → put key_cmp k v (put key_cmp k w rows) ≡ put key_cmp k v rows
put_twice k v w [] = ap (λ o. by_order o ((k, v) ∷ (k, w) ∷ []) ((k, v) ∷ []) ((k, w) ∷ (k, v) ∷ [])) (tied k)
put_twice k v w (r ∷ rows) = by_test (key_cmp k r.0) refl (put_twice k v w rows)
  where
    by_test : (o : Ordering) → key_cmp k r.0 ≡ o → put key_cmp k v (put key_cmp k w rows) ≡ put key_cmp k v rows → put key_cmp k v (by_order o ((k, w) ∷ r ∷ rows) ((r.0, w) ∷ rows) (r ∷ put key_cmp k w rows)) ≡ by_order o ((k, v) ∷ r ∷ rows) ((r.0, v) ∷ rows) (r ∷ put key_cmp k v rows)
    by_test Less is rest = ap (λ o. by_order o ((k, v) ∷ (k, w) ∷ r ∷ rows) ((k, v) ∷ r ∷ rows) ((k, w) ∷ put key_cmp k v (r ∷ rows))) (tied k)
    by_test Equal is rest = ap (λ o. by_order o ((k, v) ∷ (r.0, w) ∷ rows) ((r.0, v) ∷ rows) ((r.0, w) ∷ put key_cmp k v rows)) is
    by_test Greater is rest = ap (λ o. by_order o ((k, v) ∷ r ∷ put key_cmp k w rows) ((r.0, v) ∷ put key_cmp k w rows) (r ∷ put key_cmp k v (put key_cmp k w rows))) is ∙ ap (λ (rs : List Row). r ∷ rs) rest

-- who waits in the rows waits at the spots
pub waits_same : (t : ℕ) (ss : List Spot) → waits_anywhere ss t ≡ is_waiting_in_rows (rows_in ss) t
waits_same t [] = refl
waits_same t (s ∷ ss) = ap (λ b. is_ungranted (request_in s.queue t) || b) (waits_same t ss)

abbrev pub IsReady : ℕ → Spot → Type 0
IsReady t s = is_ungranted (request_in s.queue t) ≡ false

pub all_ready : (t : ℕ) (ss : List Spot) → waits_anywhere ss t ≡ false → Each (IsReady t) ss
all_ready t [] none = tt
all_ready t (s ∷ ss) none = let parts = or_parts (is_ungranted (request_in s.queue t)) (waits_anywhere ss t) none in (parts.0, all_ready t ss parts.1)

-- a request of a key of which the spot is known
module _ (t : ℕ) (mode : Mode) (o : Outcome) where
  still_locked : (queue : Queue) (w : Option Writer) → is_locked queue w ≡ true → is_locked (queue_after queue t mode o) w ≡ true
  still_locked queue None locked = refl
  still_locked queue (Some w) locked = kept_answered queue t w.transaction mode o locked

  pub sound_asked : (point id : ℕ) (ss : List Spot) → AreSpotsSound point ss → AreSpotsSound point (map (at_spot (asked t mode o) id) ss)
  sound_asked point id = each_map (λ s. IsSlotSound point s.queue s.slot) (λ s. IsSlotSound point s.queue s.slot) (at_spot (asked t mode o) id) one
    where
      one : (s : Spot) → IsSlotSound point s.queue s.slot → IsSlotSound point (at_spot (asked t mode o) id s).queue (at_spot (asked t mode o) id s).slot
      one s sound = elim (eqb s.slot.number id) as (λ b. IsSlotSound point (cond b (asked t mode o s) s).queue (cond b (asked t mode o s) s).slot) [
        | true ↦ sound_queue point s.queue (queue_after s.queue t mode o) s.slot (still_locked s.queue s.slot.writer) sound
        | false ↦ sound
      ]

  pub writes_asked : (id : ℕ) (ss : List Spot) → pending_writes (map (at_spot (asked t mode o) id) ss) ≡ pending_writes ss
  writes_asked id ss =
      writes_same (at_spot (asked t mode o) id) (λ s. elim (eqb s.slot.number id) as (λ b. (cond b (asked t mode o s) s).slot.key ≡ s.slot.key) [ true ↦ refl | false ↦ refl ])
      (λ s. elim (eqb s.slot.number id) as (λ b. pending_in (cond b (asked t mode o s) s).slot ≡ pending_in s.slot) [ true ↦ refl | false ↦ refl ]) ss

module _ (floor : Floor) (whole : IsFloorWhole floor) (key : List ℕ) (id : ℕ) (spot : Spot) (f : IsFound floor.spots key id spot) where
  pub record_here : record_of (rows_in floor.spots) key ≡ Some (row_in spot).1
  record_here = found_record floor.spots key ∙ ap record_in f.at

  pub write_here : find key_cmp key (pending_writes floor.spots) ≡ pending_in spot.slot
  write_here = found_write floor.spots key whole.rise ∙ ap write_in f.at

  pub told_there : (t : ℕ) (mode : Mode) (o : Outcome) → o ≡ outcome (queue_at_slot floor.spots id) t mode → o ≡ outcome (requests_on (record_of (rows_in floor.spots) key)) t mode
  told_there t mode o told = told ∙ ap (λ q. outcome q t mode) (f.queue ∙ sym (ap requests_on record_here))

  rows_with : (t : ℕ) (mode : Mode) (o : Outcome) → rows_in (map (at_key (asked t mode o) key) floor.spots) ≡ rows_after (rows_in floor.spots) key t mode o
  rows_with t mode Granted = rows_changed (asked t mode Granted) key spot refl floor.spots whole.rise f.at ∙ sym (ap (λ r. put key_cmp key (with_requests r (queue_after (requests_on r) t mode Granted)) (rows_in floor.spots)) record_here)
  rows_with t mode Queued = rows_changed (asked t mode Queued) key spot refl floor.spots whole.rise f.at ∙ sym (ap (λ r. put key_cmp key (with_requests r (queue_after (requests_on r) t mode Queued)) (rows_in floor.spots)) record_here)
  rows_with t mode Died = ap rows_in (map_same (at_key (asked t mode Died) key) (λ s. elim (same_bytes key s.slot.key) as (λ b. cond b (asked t mode Died s) s ≡ s) [ true ↦ refl | false ↦ refl ]) floor.spots)

  pub rows_asked : (t : ℕ) (mode : Mode) (o : Outcome) → rows_in (map (at_spot (asked t mode o) id) floor.spots) ≡ rows_after (rows_in floor.spots) key t mode o
  rows_asked t mode o = ap rows_in (f.swaps (asked t mode o)) ∙ rows_with t mode o

  pub latest_there : of_spot (λ slot. slot.live) floor.spots id ≡ read_of (find key_cmp key (pending_writes floor.spots)) (stored (record_of (rows_in floor.spots) key))
  latest_there = f.has (λ slot. slot.live) ∙ by_writer spot.slot.writer ∙ sym (ap (λ o. read_of o (stored (record_of (rows_in floor.spots) key))) write_here ∙ ap (λ o. read_of (pending_in spot.slot) (stored o)) record_here)
    where
      by_writer : (o : Option Writer) → spot.slot.live ≡ read_of (pending_of_writer o spot.slot.live) (committed_by o spot.slot.live)
      by_writer None = refl
      by_writer (Some w) = refl

  module _ (point t : ℕ) (sound : AreSpotsSound point floor.spots) (ready : waits_anywhere floor.spots t ≡ false) where
    sound_here : IsSlotSound point spot.queue spot.slot
    sound_here = each_found (λ s. IsSlotSound point s.queue s.slot) floor.spots key spot sound f.at

    ready_here : is_ungranted (request_in spot.queue t) ≡ false
    ready_here = each_found (IsReady t) floor.spots key spot (all_ready t floor.spots ready) f.at

    -- a writer of the key, if the request is granted, is the transaction itself
    own : (mode : Mode) (o : Outcome) → o ≡ outcome (queue_at_slot floor.spots id) t mode → o ≡ Granted → (w : Writer) → spot.slot.writer ≡ Some w → w.transaction ≡ t
    own mode o told granted w is =
        sym (alone spot.queue t w.transaction mode (each_found (λ s. IsLegalQueue s.queue) floor.spots key spot whole.legal f.at) ready_here
        (ap (λ q. outcome q t mode) (sym f.queue) ∙ sym told ∙ granted) (ap (is_locked spot.queue) (sym is) ∙ sound_here.locked))

    pub clear_there : (mode : Mode) (o : Outcome) → o ≡ outcome (queue_at_slot floor.spots id) t mode → o ≡ Granted → IsClearFor (table_on point floor) key t
    clear_there mode o told granted = subst (λ (p : Option Pending). MatchOption p (Unit {0}) (λ (p : Pending). p.by ≡ t)) (sym write_here) (by_writer spot.slot.writer refl)
      where
        by_writer : (w : Option Writer) → spot.slot.writer ≡ w → MatchOption (pending_of_writer w spot.slot.live) (Unit {0}) (λ (p : Pending). p.by ≡ t)
        by_writer None is = tt
        by_writer (Some w) is = own mode o told granted w is

    -- the write, if the request was granted
    module _ (class : Class) (copy value : Option (List ℕ)) (o : Outcome) (told : o ≡ outcome (queue_at_slot floor.spots id) t Exclusive) (copied : copy ≡ of_spot (copy_kept point class) floor.spots id) (outside : class ≡ Before → is_in_closed_set (record_of (rows_in floor.spots) key) ≡ false)
        (again : (p : Pending) → find key_cmp key (pending_writes floor.spots) ≡ Some p → p.by ≡ t → p.class ≡ class) where
      -- what becomes of a spot
      abbrev pub written : Spot → Spot
      written s = with_slot_changed (granted_slot o point t class copy value) (asked t Exclusive o s)

      key_stays : (o : Outcome) (s : Slot) → (granted_slot o point t class copy value s).key ≡ s.key
      key_stays Granted s = put_key point t class copy value s
      key_stays Queued s = refl
      key_stays Died s = refl

      pub spots_written : map (at_spot (with_slot_changed (granted_slot o point t class copy value)) id) (map (at_spot (asked t Exclusive o) id) floor.spots) ≡ map (at_key written key) floor.spots
      spots_written = number_twice (with_slot_changed (granted_slot o point t class copy value)) (asked t Exclusive o) (λ s. refl) id floor.spots ∙ f.swaps written

      closed_here : class ≡ Before → spot.slot.is_in_closed_set ≡ false
      closed_here before = ap is_in_closed_set (sym record_here) ∙ outside before

      -- the write is as one with a copy of the content there
      copy_is : put_slot point t class copy value spot.slot ≡ put_slot point t class spot.slot.live value spot.slot
      copy_is = granted_alike Granted point t class copy spot.slot.live value spot.slot (λ keeps. copied ∙ f.has (copy_kept point class) ∙ ap (λ b. cond b spot.slot.live None) keeps)

      row_written : o ≡ Granted → row_in (written spot) ≡ row_in (asked t Exclusive o spot)
      row_written granted =
          ap (λ p. row_in (with_slot_changed (granted_slot p point t class copy value) (asked t Exclusive o spot))) granted
          ∙ ap (λ (x : Slot). row_in (record { slot = x; queue = queue_after spot.queue t Exclusive o })) copy_is
          ∙ put_row point t class value spot.queue (queue_after spot.queue t Exclusive o) spot.slot closed_here sound_here (λ n. queue_after spot.queue t Exclusive o)

      pub rows_written : rows_in (map (at_key written key) floor.spots) ≡ rows_after (rows_in floor.spots) key t Exclusive o
      rows_written =
          rows_changed written key spot (key_stays o spot.slot) floor.spots whole.rise f.at ∙ ap (λ (r : Row). put key_cmp key r.1 (rows_in floor.spots)) (by_outcome o refl)
          ∙ sym (rows_changed (asked t Exclusive o) key spot refl floor.spots whole.rise f.at) ∙ rows_with t Exclusive o
        where
          by_outcome : (p : Outcome) → o ≡ p → row_in (written spot) ≡ row_in (asked t Exclusive o spot)
          by_outcome Granted is = row_written is
          by_outcome Queued is = ap (λ p. row_in (with_slot_changed (granted_slot p point t class copy value) (asked t Exclusive o spot))) is
          by_outcome Died is = ap (λ p. row_in (with_slot_changed (granted_slot p point t class copy value) (asked t Exclusive o spot))) is

      pub sound_written : AreSpotsSound point (map (at_key written key) floor.spots)
      sound_written = each_changed written key spot (λ s. IsSlotSound point s.queue s.slot) floor.spots whole.rise f.at (by_outcome o refl) sound
        where
          queue_sound : IsSlotSound point (queue_after spot.queue t Exclusive o) spot.slot
          queue_sound = sound_queue point spot.queue (queue_after spot.queue t Exclusive o) spot.slot (still_locked t Exclusive o spot.queue spot.slot.writer) sound_here

          by_outcome : (p : Outcome) → o ≡ p → IsSlotSound point (queue_after spot.queue t Exclusive o) (granted_slot o point t class copy value spot.slot)
          by_outcome Granted is =
              subst (λ p. IsSlotSound point (queue_after spot.queue t Exclusive p) (granted_slot p point t class copy value spot.slot)) (sym is) (subst (IsSlotSound point (queue_after spot.queue t Exclusive Granted)) (sym copy_is)
              (put_sound point t class value spot.queue (queue_after spot.queue t Exclusive Granted) spot.slot closed_here sound_here (has_granted spot.queue t ready_here) (still_locked t Exclusive Granted spot.queue spot.slot.writer sound_here.locked)))
          by_outcome Queued is = subst (λ p. IsSlotSound point (queue_after spot.queue t Exclusive o) (granted_slot p point t class copy value spot.slot)) (sym is) queue_sound
          by_outcome Died is = subst (λ p. IsSlotSound point (queue_after spot.queue t Exclusive o) (granted_slot p point t class copy value spot.slot)) (sym is) queue_sound

      abbrev write : Pending
      write = record { by = t; class = class; value = value }

      pub pending_written : Rise (rows_in (map (at_key written key) floor.spots)) → (q : List ℕ) → find key_cmp q (pending_writes (map (at_key written key) floor.spots)) ≡ pending_after o (table_on point floor) key write q
      pending_written rise q =
          found_write (map (at_key written key) floor.spots) q rise
          ∙ ap write_in (key_map (at_key written key) (λ s. elim (same_bytes key s.slot.key) as (λ b. (cond b (written s) s).slot.key ≡ s.slot.key) [ true ↦ key_stays o s.slot | false ↦ refl ]) floor.spots q)
          ∙ by_outcome o refl
        where
          stays : (p : Outcome) → ((s : Slot) → granted_slot p point t class copy value s ≡ s) → o ≡ p → (r : Option Spot) → write_in (option_map (at_key written key) r) ≡ write_in r
          stays p same is None = refl
          stays p same is (Some s) = elim (same_bytes key s.slot.key) as (λ b. pending_in (cond b (written s) s).slot ≡ pending_in s.slot) [
            | true ↦ ap (λ p. pending_in (granted_slot p point t class copy value s.slot)) is ∙ ap pending_in (same s.slot)
            | false ↦ refl
          ]

          own_both : o ≡ Granted → (w : Writer) → spot.slot.writer ≡ Some w → (w.transaction ≡ t) × (w.class ≡ class)
          own_both granted w is = (
            own Exclusive o told granted w is,
            again (record { by = w.transaction; class = w.class; value = spot.slot.live }) (write_here ∙ ap (λ w. pending_of_writer w spot.slot.live) is) (own Exclusive o told granted w is),
          )

          granted_at : o ≡ Granted → (b : Bool) → same_bytes key q ≡ b → (r : Option Spot) → spot_of_key floor.spots q ≡ r → write_in (option_map (at_key written key) r) ≡ cond b (Some write) (write_in r)
          granted_at granted true same r is =
              ap (λ r. write_in (option_map (at_key written key) r)) (sym is ∙ ap (spot_of_key floor.spots) (sym (one_key key q same)) ∙ f.at)
              ∙ ap (λ b. pending_in (cond b (written spot) spot).slot) (ap (λ k. same_bytes k spot.slot.key) (key_found floor.spots key spot f.at) ∙ same_self spot.slot.key)
              ∙ ap (λ p. pending_in (granted_slot p point t class copy value spot.slot)) granted ∙ put_pending point t class copy value spot.slot (own_both granted)
          granted_at granted false same None is = refl
          granted_at granted false same (Some s) is = ap (λ b. pending_in (cond b (written s) s).slot) (ap (same_bytes key) (sym (key_found floor.spots q s is)) ∙ same)

          by_outcome : (p : Outcome) → o ≡ p → write_in (option_map (at_key written key) (spot_of_key floor.spots q)) ≡ pending_after o (table_on point floor) key write q
          by_outcome Granted is = granted_at is (same_bytes key q) refl (spot_of_key floor.spots q) refl ∙ sym (ap (λ p. pending_after p (table_on point floor) key write q) is ∙ ap (cond (same_bytes key q) (Some write)) (found_write floor.spots q whole.rise))
          by_outcome Queued is = stays Queued (λ s. refl) is (spot_of_key floor.spots q) ∙ sym (ap (λ p. pending_after p (table_on point floor) key write q) is ∙ found_write floor.spots q whole.rise)
          by_outcome Died is = stays Died (λ s. refl) is (spot_of_key floor.spots q) ∙ sym (ap (λ p. pending_after p (table_on point floor) key write q) is ∙ found_write floor.spots q whole.rise)

-- a key that has no spot
module _ (floor : Floor) (key : List ℕ) (none : slot_number_of floor.spots key ≡ None) where
  pub no_record : record_of (rows_in floor.spots) key ≡ None
  no_record = found_record floor.spots key ∙ ap record_in (none_found floor.spots key none)

  pub no_write : Rise (rows_in floor.spots) → find key_cmp key (pending_writes floor.spots) ≡ None
  no_write rise = found_write floor.spots key rise ∙ ap write_in (none_found floor.spots key none)

  pub told_new : (t : ℕ) (mode : Mode) → Granted ≡ outcome (requests_on (record_of (rows_in floor.spots) key)) t mode
  told_new t mode = sym (ap (λ r. outcome (requests_on r) t mode) no_record)

  pub latest_new : Rise (rows_in floor.spots) → None ≡ read_of (find key_cmp key (pending_writes floor.spots)) (stored (record_of (rows_in floor.spots) key))
  latest_new rise = sym (ap (λ o. read_of o (stored (record_of (rows_in floor.spots) key))) (no_write rise) ∙ ap stored no_record)

  pub clear_new : Rise (rows_in floor.spots) → (point t : ℕ) → IsClearFor (table_on point floor) key t
  clear_new rise point t = subst (λ (p : Option Pending). MatchOption p (Unit {0}) (λ (p : Pending). p.by ≡ t)) (sym (no_write rise)) tt

  -- and gets one
  module _ (id : ℕ) where
    abbrev pub made : Floor
    made = record floor { spots = spots_with (new_spot id key) floor.spots }

    at_made : spot_of_key made.spots key ≡ Some (new_spot id key)
    at_made = key_entered (new_spot id key) floor.spots key (none_found floor.spots key none) ∙ ap (λ b. cond b (Some (new_spot id key)) (spot_of_key floor.spots key)) (same_self key)

    pub spot_made : (spot : Spot) → IsFound made.spots key id spot → spot ≡ new_spot id key
    spot_made spot f = one_some (sym f.at ∙ at_made)

    pub granted_made : (spot : Spot) → IsFound made.spots key id spot → (t : ℕ) (mode : Mode) (o : Outcome) → o ≡ outcome (queue_at_slot made.spots id) t mode → o ≡ Granted
    granted_made spot f t mode o told = told ∙ ap (λ q. outcome q t mode) (f.queue ∙ ap (λ (s : Spot). s.queue) (spot_made spot f))

    pub copy_made : (point : ℕ) (class : Class) (spot : Spot) → IsFound made.spots key id spot → None ≡ of_spot (copy_kept point class) made.spots id
    copy_made point class spot f = sym (f.has (copy_kept point class) ∙ ap (λ (s : Spot). copy_kept point class s.slot) (spot_made spot f) ∙ elim (keeps_copy point class (new_slot id key)) as (λ b. cond {A = Option (List ℕ)} b None None ≡ None) [ true ↦ refl | false ↦ refl ])

    pub outside_made : (class : Class) → class ≡ Before → is_in_closed_set (record_of (rows_in made.spots) key) ≡ false
    outside_made class before = ap is_in_closed_set (found_record made.spots key ∙ ap record_in at_made)

    pub again_made : Rise (rows_in made.spots) → (t : ℕ) (class : Class) (p : Pending) → find key_cmp key (pending_writes made.spots) ≡ Some p → p.by ≡ t → p.class ≡ class
    again_made rise t class p found by = no_some (sym (found_write made.spots key rise ∙ ap write_in at_made) ∙ found)

    pub sound_made : (point : ℕ) → AreSpotsSound point floor.spots → AreSpotsSound point made.spots
    sound_made point sound = each_entered (new_spot id key) (λ s. IsSlotSound point s.queue s.slot) (sound_new point id key []) floor.spots sound

    pub ready_made : (t : ℕ) → waits_anywhere floor.spots t ≡ false → waits_anywhere made.spots t ≡ false
    ready_made t ready = all floor.spots ready
      where
        all : (ss : List Spot) → waits_anywhere ss t ≡ false → waits_anywhere (spots_with (new_spot id key) ss) t ≡ false
        all [] h = refl
        all (s ∷ ss) h =
            let parts = or_parts (is_ungranted (request_in s.queue t)) (waits_anywhere ss t) h in
            elim (is_lt (key_cmp key s.slot.key)) as (λ b. waits_anywhere (cond b (new_spot id key ∷ s ∷ ss) (s ∷ spots_with (new_spot id key) ss)) t ≡ false) [
              | true ↦ h
              | false ↦ ap (λ b. b || waits_anywhere (spots_with (new_spot id key) ss) t) parts.0 ∙ all ss parts.1
            ]

    pub pending_made : (o : Outcome) (point : ℕ) (p : Pending) (q : List ℕ) → pending_after o (table_on point made) key p q ≡ pending_after o (table_on point floor) key p q
    pending_made Granted point p q = ap (λ ws. cond (same_bytes key q) (Some p) (find key_cmp q ws)) (writes_entered (new_spot id key) refl floor.spots)
    pending_made Queued point p q = ap (find key_cmp q) (writes_entered (new_spot id key) refl floor.spots)
    pending_made Died point p q = ap (find key_cmp q) (writes_entered (new_spot id key) refl floor.spots)

    -- the rows once a request of it was granted
    pub rows_made : (t : ℕ) (mode : Mode) → rows_after (rows_in made.spots) key t mode Granted ≡ rows_after (rows_in floor.spots) key t mode Granted
    rows_made t mode =
        ap (λ r. put key_cmp key (with_requests r (queue_after (requests_on r) t mode Granted)) (rows_in made.spots)) (found_record made.spots key ∙ ap record_in at_made)
        ∙ ap (put key_cmp key (row_in (asked t mode Granted (new_spot id key))).1) (rows_entered (new_spot id key) floor.spots (none_found floor.spots key none))
        ∙ put_twice key (row_in (asked t mode Granted (new_spot id key))).1 (row_in (new_spot id key)).1 (rows_in floor.spots)
        ∙ sym (ap (λ r. put key_cmp key (with_requests r (queue_after (requests_on r) t mode Granted)) (rows_in floor.spots)) no_record)

    -- it is as before if nothing keeps the new one
    pub back_again : has_spot floor.spots id ≡ false → tidied id made.spots ≡ floor.spots
    back_again fresh = all floor.spots fresh
      where
        gone : (ss : List Spot) → has_spot ss id ≡ false → tidied id (new_spot id key ∷ ss) ≡ ss
        gone ss h = ap (λ b. cond (not b || is_needed (new_spot id key)) (new_spot id key ∷ tidied id ss) (tidied id ss)) (eq-eqb id id refl) ∙ apart_tidied id ss h

        all : (ss : List Spot) → has_spot ss id ≡ false → tidied id (spots_with (new_spot id key) ss) ≡ ss
        all [] h = gone [] h
        all (s ∷ ss) h =
            let parts = or_parts (eqb s.slot.number id) (has_spot ss id) h in
            elim (is_lt (key_cmp key s.slot.key)) as (λ b. tidied id (cond b (new_spot id key ∷ s ∷ ss) (s ∷ spots_with (new_spot id key) ss)) ≡ s ∷ ss) [
              | true ↦ gone (s ∷ ss) h
              | false ↦ ap (λ b. cond (not b || is_needed s) (s ∷ tidied id (spots_with (new_spot id key) ss)) (tidied id (spots_with (new_spot id key) ss))) parts.0 ∙ ap (λ (xs : List Spot). s ∷ xs) (all ss parts.1)
            ]

-- a refusal that is passed on
pub refused_same : {T : Type 0} (r : Result T Refusal) (e due : Refusal) → IsErr r × IsErrAnd r (λ why. why ≡ e) → e ≡ due → IfErr r (λ why. why ≡ due)
refused_same (Ok x) e due given is = tt
refused_same (Err why) e due given is = given.1 ∙ is

-- whether there is room for a key
module _ (floor : Floor) (key : List ℕ) where
  abbrev pub full : Bool
  full = is_full_for (record { capacity = floor.capacity; rows = rows_in floor.spots }) key

  pub full_is : full ≡ (is_none (slot_number_of floor.spots key) && eqb (length floor.spots) floor.capacity)
  full_is = λ i. by_spot i && eqb (length-map floor.spots row_in i) floor.capacity
    where
      by_spot : is_none (record_of (rows_in floor.spots) key) ≡ is_none (slot_number_of floor.spots key)
      by_spot = ap is_none (found_record floor.spots key) ∙ one (spot_of_key floor.spots key) ∙ ap is_none (sym (number_found floor.spots key))
        where
          one : (o : Option Spot) → is_none (record_in o) ≡ is_none (option_map (λ (s : Spot). s.slot.number) o)
          one None = refl
          one (Some s) = refl

  pub full_there : (id : ℕ) → slot_number_of floor.spots key ≡ Some id → full ≡ false
  full_there id there = full_is ∙ ap (λ (o : Option ℕ). is_none o && eqb (length floor.spots) floor.capacity) there

  pub full_new : slot_number_of floor.spots key ≡ None → full ≡ eqb (length floor.spots) floor.capacity
  full_new none = full_is ∙ ap (λ (o : Option ℕ). is_none o && eqb (length floor.spots) floor.capacity) none

  -- if an allocation failed
  pub ran_out : full ≡ false → OutOfMemory ≡ cond full Full OutOfMemory
  ran_out room = ap (λ (b : Bool). cond b Full OutOfMemory) (sym room)

pub on_err : {T E P : Type 0} (r : Result T E) → P → OnErr r P
on_err (Ok x) p = tt
on_err (Err e) p = p

-- the records once a request was answered
module _ (point t : ℕ) (mode : Mode) (floor new : Floor) (key : List ℕ) (id : ℕ) where
  pub table_asked : (o : Outcome) → IsFloorWhole floor → slot_number_of floor.spots key ≡ Some id → new ≡ with_spot (asked t mode o) id floor → table_on point new ≡ record (table_on point floor) { rows = rows_after (rows_in floor.spots) key t mode o }
  table_asked o whole there is =
      let f = found floor key id whole there in
      λ i. record {
        capacity = (is i).capacity;
        rows = (ap (λ (f : Floor). rows_in f.spots) is ∙ rows_asked floor whole key id f.0 f.1 t mode o) i;
        pending = (ap (λ (f : Floor). pending_writes f.spots) is ∙ writes_asked t mode o id floor.spots) i;
        point = point;
        opened = (is i).opened;
        shut = (is i).closed;
      }

  pub sound_answered : {E : Type 0} (r : Result Outcome E) → IfOk r (λ o. new ≡ with_spot (asked t mode o) id floor) → OnErr r (new ≡ floor) → AreSpotsSound point floor.spots → AreSpotsSound point new.spots
  sound_answered (Ok o) is same sound = subst (λ (f : Floor). AreSpotsSound point f.spots) (sym is) (sound_asked t mode o point id floor.spots sound)
  sound_answered (Err e) is same sound = subst (λ (f : Floor). AreSpotsSound point f.spots) (sym same) sound

  -- of a key that had no spot
  module _ (none : slot_number_of floor.spots key ≡ None) (whole : IsFloorWhole (with_new_spot id key floor)) where
    pub there_made : slot_number_of (spots_with (new_spot id key) floor.spots) key ≡ Some id
    there_made = number_entered (new_spot id key) floor.spots none

    pub sound_first : AreSpotsSound point floor.spots → new ≡ with_spot (asked t mode Granted) id (with_new_spot id key floor) → AreSpotsSound point new.spots
    sound_first sound is = subst (λ (f : Floor). AreSpotsSound point f.spots) (sym is) (sound_asked t mode Granted point id (spots_with (new_spot id key) floor.spots) (sound_made floor key none id point sound))

    pub table_first : new ≡ with_spot (asked t mode Granted) id (with_new_spot id key floor) → table_on point new ≡ record (table_on point floor) { rows = rows_after (rows_in floor.spots) key t mode Granted }
    table_first is =
        let f = found (with_new_spot id key floor) key id whole there_made in
        λ i. record {
          capacity = (is i).capacity;
          rows = (ap (λ (f : Floor). rows_in f.spots) is ∙ rows_asked (with_new_spot id key floor) whole key id f.0 f.1 t mode Granted ∙ rows_made floor key none id t mode) i;
          pending = (ap (λ (f : Floor). pending_writes f.spots) is ∙ writes_asked t mode Granted id (spots_with (new_spot id key) floor.spots) ∙ writes_entered (new_spot id key) refl floor.spots) i;
          point = point;
          opened = (is i).opened;
          shut = (is i).closed;
        }

    -- and of which the first request is granted
    pub first_granted : (mid : Floor) (o : Outcome) → mid ≡ with_new_spot id key floor → o ≡ outcome (queue_at_slot mid.spots id) t mode → new ≡ with_spot (asked t mode o) id mid → new ≡ with_spot (asked t mode Granted) id (with_new_spot id key floor)
    first_granted mid o mid_is told is =
        let f = found (with_new_spot id key floor) key id whole there_made in
        is ∙ ap (λ o. with_spot (asked t mode o) id mid) (granted_made floor key none id f.0 f.1 t mode o (told ∙ ap (λ (f : Floor). outcome (queue_at_slot f.spots id) t mode) mid_is)) ∙ ap (with_spot (asked t mode Granted) id) mid_is

    pub made_back : (mid asked : Floor) → mid ≡ with_new_spot id key floor → asked ≡ mid → has_spot floor.spots id ≡ false → new ≡ record asked { spots = tidied id asked.spots } → new ≡ floor
    made_back mid asked mid_is same fresh is = is ∙ ap (λ (f : Floor). record f { spots = tidied id f.spots }) (same ∙ mid_is) ∙ (λ i. record floor { spots = back_again floor key none id fresh i })

-- what is known of the floor once a request to write the key was so answered, and the key written where it was granted
pub record IsWritten (point t : ℕ) (class : Class) (value : Option (List ℕ)) (floor new : Floor) (key : List ℕ) (o : Outcome) : Type 0 where
  pub same : new ≡ record floor { spots = new.spots }
  pub sound : AreSpotsSound point new.spots
  pub rows : rows_in new.spots ≡ rows_after (rows_in floor.spots) key t Exclusive o
  pub pending : (q : List ℕ) → find key_cmp q (pending_writes new.spots) ≡ pending_after o (table_on point floor) key (record { by = t; class = class; value = value }) q

module _ (point t : ℕ) (class : Class) (copy value : Option (List ℕ)) (floor mid new : Floor) (key : List ℕ) (id : ℕ) (o : Outcome) (whole : IsFloorWhole floor) (sound : AreSpotsSound point floor.spots) (ready : waits_anywhere floor.spots t ≡ false) (there : slot_number_of floor.spots key ≡ Some id)
    (told : o ≡ outcome (queue_at_slot floor.spots id) t Exclusive) (copied : copy ≡ of_spot (copy_kept point class) floor.spots id) (outside : class ≡ Before → is_in_closed_set (record_of (rows_in floor.spots) key) ≡ false)
    (again : (p : Pending) → find key_cmp key (pending_writes floor.spots) ≡ Some p → p.by ≡ t → p.class ≡ class) (mid_is : mid ≡ with_spot (asked t Exclusive o) id floor) (new_is : new ≡ with_spot (with_slot_changed (granted_slot o point t class copy value)) id mid) where
  spot : (s : Spot) × IsFound floor.spots key id s
  spot = found floor key id whole there

  abbrev now : List Spot
  now = map (at_key (written floor whole key id spot.0 spot.1 point t sound ready class copy value o told copied outside again) key) floor.spots

  spots_now : new.spots ≡ now
  spots_now = ap (λ (f : Floor). f.spots) new_is ∙ ap (λ (f : Floor). map (at_spot (with_slot_changed (granted_slot o point t class copy value)) id) f.spots) mid_is ∙ spots_written floor whole key id spot.0 spot.1 point t sound ready class copy value o told copied outside again

  pub written_there : IsFloorWhole new → IsWritten point t class value floor new key o
  written_there later = record {
    same = ap (λ (f : Floor). record f { spots = new.spots }) (new_is ∙ ap (with_spot (with_slot_changed (granted_slot o point t class copy value)) id) mid_is);
    sound = subst (AreSpotsSound point) (sym spots_now) (sound_written floor whole key id spot.0 spot.1 point t sound ready class copy value o told copied outside again);
    rows = ap rows_in spots_now ∙ rows_written floor whole key id spot.0 spot.1 point t sound ready class copy value o told copied outside again;
    pending = λ q. ap (λ (ss : List Spot). find key_cmp q (pending_writes ss)) spots_now
        ∙ pending_written floor whole key id spot.0 spot.1 point t sound ready class copy value o told copied outside again (ap (λ (ss : List Spot). is_sorted key_cmp (rows_in ss)) (sym spots_now) ∙ later.rise) q;
  }

-- the same of a key that had no spot
module _ (point t : ℕ) (class : Class) (value : Option (List ℕ)) (floor mid new : Floor) (key : List ℕ) (id : ℕ) (none : slot_number_of floor.spots key ≡ None) (whole : IsFloorWhole (with_new_spot id key floor)) (sound : AreSpotsSound point floor.spots) (ready : waits_anywhere floor.spots t ≡ false)
    (mid_is : mid ≡ with_spot (asked t Exclusive Granted) id (with_new_spot id key floor)) (new_is : new ≡ with_spot (with_slot_changed (put_slot point t class None value)) id mid) where
  made_spot : (s : Spot) × IsFound (spots_with (new_spot id key) floor.spots) key id s
  made_spot = found (with_new_spot id key floor) key id whole (number_entered (new_spot id key) floor.spots none)

  told_made : Granted ≡ outcome (queue_at_slot (spots_with (new_spot id key) floor.spots) id) t Exclusive
  told_made = sym (granted_made floor key none id made_spot.0 made_spot.1 t Exclusive (outcome (queue_at_slot (spots_with (new_spot id key) floor.spots) id) t Exclusive) refl)

  pub written_first : IsFloorWhole new → IsWritten point t class value floor new key Granted
  written_first later =
      let w = written_there point t class None value (with_new_spot id key floor) mid new key id Granted whole (sound_made floor key none id point sound) (ready_made floor key none id t ready) (number_entered (new_spot id key) floor.spots none)
      told_made (copy_made floor key none id point class made_spot.0 made_spot.1) (outside_made floor key none id class) (again_made floor key none id whole.rise t class) mid_is new_is later in
      record {
        same = w.same;
        sound = w.sound;
        rows = w.rows ∙ rows_made floor key none id t Exclusive;
        pending = λ q. w.pending q ∙ pending_made floor key none id Granted point (record { by = t; class = class; value = value }) q;
      }

-- a write that isn't granted changes nothing
pub put_none : (floor : Floor) (id point t : ℕ) (class : Class) (copy value : Option (List ℕ)) (o : Outcome) → o ≢ Granted → floor ≡ with_spot (with_slot_changed (granted_slot o point t class copy value)) id floor
put_none floor id point t class copy value o other = by_outcome o other
  where
    same : (g : Spot → Spot) → ((s : Spot) → g s ≡ s) → floor ≡ with_spot g id floor
    same g is = λ i. record floor { spots = sym (map_same (at_spot g id) (λ s. elim (eqb s.slot.number id) as (λ b. cond b (g s) s ≡ s) [ true ↦ is s | false ↦ refl ]) floor.spots) i }

    by_outcome : (o : Outcome) → o ≢ Granted → floor ≡ with_spot (with_slot_changed (granted_slot o point t class copy value)) id floor
    by_outcome Granted other = absurd (other refl)
    by_outcome Queued other = same (with_slot_changed (granted_slot Queued point t class copy value)) (λ s. refl)
    by_outcome Died other = same (with_slot_changed (granted_slot Died point t class copy value)) (λ s. refl)
