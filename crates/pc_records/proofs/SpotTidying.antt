-- Spots once a request is let go, or a key taken, and once the slot is free if nothing keeps it.
use Rattle.std.proofs.Common.{◌≡◌, ℕ, ◌+◌, ◌<◌, List, [], ◌∷◌, filter, map, Option, Some, None, refl, sym, ap, ◌∙◌, subst, cond, Bool, true, false, eqb, ◌||◌, ◌&&◌, not, arith}
use Rattle.std.proofs.lemmas.Bool.Decides.{nat_tests}
use Rattle.std.proofs.lemmas.Bool.{eqb-true, eq-eqb}
use Rattle.std.specs.FinMap.{find}
use Rattle.pc_types.specs.Phases.{same_class}
use Rattle.pc_types.specs.declared.Class.TheVariants.{During}
use Rattle.pc_model.specs.Database.{key_cmp, same_bytes}
use Rattle.pc_model.specs.Locks.{queue_without}
use Rattle.pc_model.specs.Queues.{stands_in}
use Rattle.pc_model.proofs.RisingLaws.{Rise}
use Rattle.pc_slots.specs.declared.versions.Writer.{Writer}
use Rattle.pc_slots.specs.Slots.{Pending, pending_in, pending_of_writer, is_locked, IsSlotSound, taken_slot}
use Rattle.pc_records.specs.Rows.{Row, is_kept, record_of}
use Rattle.pc_records.specs.RowSteps.{if_kept, with_row, released, released_rows, record_after_take, with_left, left_rows}
use Rattle.pc_records.specs.Floor.{Spot, Floor, IsFloorWhole, Each, AreSpotsApart, AreSpotsSound, row_in, rows_in, pending_writes, table_on, with_slot_changed, at_spot, with_spot, HasNoPendingWrite, IsFloorReleased, has_spot, let_go, stands_at, stands_anywhere, is_needed, tidied, standing, TakesFirstSpot, slot_number_of}
use Rattle.pc_records.proofs.Exclusive.{kept_released}
use Rattle.pc_records.proofs.Moments.{sound_queue, kept_row, taken_sound}
use Rattle.pc_records.proofs.FloorTidying.{no_request}
use Rattle.pc_records.proofs.SlotReleasing.{gone, without, released_one, released_again}
use Rattle.pc_records.proofs.SpotLaws.{no, one_some, same_self, spot_of_key, spot_of_number, record_in, write_in, found_record, found_write, key_found, head_lacks, tail_rises, each_by_key, each_found, each_changed, apart_stay, rows_changed, writes_same, has_same, has_number, found, IsFound}

-- the rows of other keys, if the key has none
others_all : (key : List ℕ) (rows : List Row) → record_of rows key ≡ None → filter (λ row. not (same_bytes key row.0)) rows ≡ rows
others_all key [] h = refl
others_all key (row ∷ rows) h = grind (arith, others_all key rows)

pub or_parts : (a b : Bool) → (a || b) ≡ false → (a ≡ false) × (b ≡ false)
or_parts true b e = absurd cc
or_parts false b e = (refl, e)

-- the test of the first spot
module _ (id : ℕ) (x : Spot) (xs : List Spot) where
  tidied_here : eqb x.slot.number id ≡ true → tidied id (x ∷ xs) ≡ cond (is_needed x) (x ∷ tidied id xs) (tidied id xs)
  tidied_here is = ap (λ b. cond (not b || is_needed x) (x ∷ tidied id xs) (tidied id xs)) is

  tidied_past : eqb x.slot.number id ≡ false → tidied id (x ∷ xs) ≡ x ∷ tidied id xs
  tidied_past is = ap (λ b. cond (not b || is_needed x) (x ∷ tidied id xs) (tidied id xs)) is

pub apart_tidied : (id : ℕ) (ss : List Spot) → has_spot ss id ≡ false → tidied id ss ≡ ss
apart_tidied id [] none = refl
apart_tidied id (s ∷ ss) none = grind (arith, nat_tests, apart_tidied id ss)

pub each_tidied : (P : Spot → Type 0) (id : ℕ) (ss : List Spot) → Each P ss → Each P (tidied id ss)
each_tidied P id [] each = tt
each_tidied P id (s ∷ ss) each = elim (not (eqb s.slot.number id) || is_needed s) as (λ b. Each P (cond b (s ∷ tidied id ss) (tidied id ss))) [ true ↦ (each.0, each_tidied P id ss each.1) | false ↦ each_tidied P id ss each.1 ]

-- a spot that nothing keeps has no write
bare_write : (point : ℕ) (s : Spot) → IsSlotSound point s.queue s.slot → is_needed s ≡ false → pending_in s.slot ≡ None
bare_write point s sound bare = by_writer s.slot.writer (ap (λ q. is_locked q s.slot.writer) (sym (no_request s.queue s.slot bare)) ∙ sound.locked)
  where
    by_writer : (o : Option Writer) → is_locked [] o ≡ true → pending_of_writer o s.slot.live ≡ None
    by_writer None locked = refl
    by_writer (Some w) locked = no locked

pub writes_tidied : (point id : ℕ) (ss : List Spot) → AreSpotsSound point ss → pending_writes (tidied id ss) ≡ pending_writes ss
writes_tidied point id [] sound = refl
writes_tidied point id (s ∷ ss) sound = grind (arith, nat_tests, writes_tidied point id ss sound.1, bare_write point s sound.0)

-- what keeps a spot keeps its row
needed_row : (point : ℕ) (s : Spot) → IsSlotSound point s.queue s.slot → is_needed s ≡ is_kept (row_in s).1
needed_row point s sound = kept_row point s.queue s.slot sound

-- a request that is let go
module _ (t id : ℕ) where
  abbrev pub left : List Spot → List Spot
  left ss = tidied id (map (at_spot (let_go t) id) ss)

  apart_left : (ss : List Spot) → has_spot ss id ≡ false → left ss ≡ ss
  apart_left ss none = ap (tidied id) (apart_stay (let_go t) id ss none) ∙ apart_tidied id ss none

  stands_apart : (ss : List Spot) → has_spot ss id ≡ false → stands_at ss id t ≡ false
  stands_apart [] none = refl
  stands_apart (s ∷ ss) none = grind (arith, nat_tests, stands_apart ss)

  -- the first spot, if it has the number
  module _ (s : Spot) (ss : List Spot) (is : eqb s.slot.number id ≡ true) (apart : has_spot ss s.slot.number ≡ false) where
    none_left : has_spot ss id ≡ false
    none_left = ap (has_spot ss) (sym (eqb-true s.slot.number id is)) ∙ apart

    left_here : left (s ∷ ss) ≡ cond (is_needed (let_go t s)) (let_go t s ∷ ss) ss
    left_here =
        ap (λ b. tidied id (cond b (let_go t s) s ∷ map (at_spot (let_go t) id) ss)) is ∙ tidied_here id (let_go t s) (map (at_spot (let_go t) id) ss) is
        ∙ ap (λ (xs : List Spot). cond (is_needed (let_go t s)) (let_go t s ∷ xs) xs) (apart_left ss none_left)

    stands_here : stands_at (s ∷ ss) id t ≡ true → stands_in s.queue t ≡ true
    stands_here stands = last (stands_in s.queue t) (ap (λ b. stands_in s.queue t || b) (sym (stands_apart ss none_left)) ∙ ap (λ b. (b && stands_in s.queue t) || stands_at ss id t) (sym is) ∙ stands)
      where
        last : (b : Bool) → (b || false) ≡ true → b ≡ true
        last true e = refl
        last false e = e

  left_past : (s : Spot) (ss : List Spot) → eqb s.slot.number id ≡ false → left (s ∷ ss) ≡ s ∷ left ss
  left_past s ss is = ap (λ b. tidied id (cond b (let_go t s) s ∷ map (at_spot (let_go t) id) ss)) is ∙ tidied_past id s (map (at_spot (let_go t) id) ss) is

  stands_past : (s : Spot) (ss : List Spot) → eqb s.slot.number id ≡ false → stands_at (s ∷ ss) id t ≡ true → stands_at ss id t ≡ true
  stands_past s ss is stands = ap (λ b. (b && stands_in s.queue t) || stands_at ss id t) (sym is) ∙ stands

  -- what is released in the end is what was to be released
  pub released_left : (point : ℕ) (ss : List Spot) → AreSpotsApart ss → AreSpotsSound point (map (at_spot (let_go t) id) ss) → stands_at ss id t ≡ true → released_rows t (rows_in (left ss)) ≡ released_rows t (rows_in ss)
  released_left point [] apart sound stands = no stands
  released_left point (s ∷ ss) apart sound stands = by_test (eqb s.slot.number id) refl (λ later. released_left point ss apart.1 sound.1 later)
    where
      by_test : (b : Bool) → eqb s.slot.number id ≡ b → (stands_at ss id t ≡ true → released_rows t (rows_in (left ss)) ≡ released_rows t (rows_in ss)) → released_rows t (rows_in (left (s ∷ ss))) ≡ released_rows t (rows_in (s ∷ ss))
      by_test false is rest = ap (λ (xs : List Spot). released_rows t (rows_in xs)) (left_past s ss is) ∙ ap (with_row (released t (row_in s).1) s.slot.key) (rest (stands_past s ss is stands))
      by_test true is rest = ap (λ (xs : List Spot). released_rows t (rows_in xs)) (left_here s ss is apart.0) ∙ by_kept (is_needed (let_go t s)) (sym (needed_row point (let_go t s) here))
        where
          here : IsSlotSound point (let_go t s).queue s.slot
          here = subst (λ b. IsSlotSound point (cond b (let_go t s) s).queue (cond b (let_go t s) s).slot) is sound.0

          now : (b : Bool) → is_kept (without t (row_in s).1) ≡ b → released t (row_in s).1 ≡ cond b (Some (without t (row_in s).1)) None
          now b kept = released_one t (row_in s).1 (stands_here s ss is apart.0 stands) ∙ ap (λ c. cond c (Some (without t (row_in s).1)) None) kept

          by_kept : (b : Bool) → is_kept (without t (row_in s).1) ≡ b → released_rows t (rows_in (cond b (let_go t s ∷ ss) ss)) ≡ with_row (released t (row_in s).1) s.slot.key (released_rows t (rows_in ss))
          by_kept true kept = ap (λ o. with_row o s.slot.key (released_rows t (rows_in ss))) (released_again t (row_in s).1 ∙ sym (now true kept))
          by_kept false kept = ap (λ o. with_row o s.slot.key (released_rows t (rows_in ss))) (sym (now false kept))

  -- the transaction has a request less
  pub fewer : (ss : List Spot) → AreSpotsApart ss → stands_at ss id t ≡ true → standing t (left ss) < standing t ss
  fewer [] apart stands = no stands
  fewer (s ∷ ss) apart stands = by_test (eqb s.slot.number id) refl (fewer ss apart.1)
    where
      by_test : (b : Bool) → eqb s.slot.number id ≡ b → (stands_at ss id t ≡ true → standing t (left ss) < standing t ss) → standing t (left (s ∷ ss)) < standing t (s ∷ ss)
      by_test false is rest =
          subst (λ (xs : List Spot). standing t xs < standing t (s ∷ ss)) (sym (left_past s ss is)) (by_stands (stands_in s.queue t) (rest (stands_past s ss is stands)))
        where
          by_stands : (b : Bool) → standing t (left ss) < standing t ss → cond b (standing t (left ss) + 1) (standing t (left ss)) < cond b (standing t ss + 1) (standing t ss)
          by_stands true less = omega (arith, less)
          by_stands false less = less
      by_test true is rest =
          subst (λ (xs : List Spot). standing t xs < standing t (s ∷ ss)) (sym (left_here s ss is apart.0)) (subst (λ b. standing t (cond (is_needed (let_go t s)) (let_go t s ∷ ss) ss) < cond b (standing t ss + 1) (standing t ss)) (sym (stands_here s ss is apart.0 stands)) (by_kept (is_needed (let_go t s))))
        where
          by_kept : (b : Bool) → standing t (cond b (let_go t s ∷ ss) ss) < standing t ss + 1
          by_kept true = subst (λ b. cond b (standing t ss + 1) (standing t ss) < standing t ss + 1) (sym (gone t s.queue)) (omega arith)
          by_kept false = omega arith

  pub none_released : (ss : List Spot) → stands_anywhere ss t ≡ false → rows_in ss ≡ released_rows t (rows_in ss)
  none_released [] none = refl
  none_released (s ∷ ss) none =
      let parts = or_parts (stands_in s.queue t) (stands_anywhere ss t) none in
      ap (λ (rows : List Row). row_in s ∷ rows) (none_released ss parts.1) ∙ ap (λ b. with_row (cond b (if_kept (without t (row_in s).1)) (Some (row_in s).1)) s.slot.key (released_rows t (rows_in ss))) (sym parts.0)

  abbrev IsOverAt : Spot → Type 0
  IsOverAt s = (w : Writer) → s.slot.writer ≡ Some w → eqb w.transaction t ≡ false

  over_all : (ss : List Spot) → Rise (rows_in ss) → ((q : List ℕ) (p : Pending) → find key_cmp q (pending_writes ss) ≡ Some p → eqb p.by t ≡ false) → Each IsOverAt ss
  over_all ss rise over = each_by_key IsOverAt ss rise (λ q s found w is. over q (record { by = w.transaction; class = w.class; value = s.slot.live }) (found_write ss q rise ∙ ap write_in found ∙ ap (λ o. pending_of_writer o s.slot.live) is))

  pub sound_let_go : (point : ℕ) (ss : List Spot) → Rise (rows_in ss) → ((q : List ℕ) (p : Pending) → find key_cmp q (pending_writes ss) ≡ Some p → eqb p.by t ≡ false) → AreSpotsSound point ss → AreSpotsSound point (map (at_spot (let_go t) id) ss)
  sound_let_go point ss rise over sound = all ss (over_all ss rise over) sound
    where
      one : (s : Spot) → IsOverAt s → IsSlotSound point s.queue s.slot → IsSlotSound point (queue_without s.queue t) s.slot
      one s is_over sound = sound_queue point s.queue (queue_without s.queue t) s.slot (still s.slot.writer refl) sound
        where
          still : (o : Option Writer) → s.slot.writer ≡ o → is_locked s.queue o ≡ true → is_locked (queue_without s.queue t) o ≡ true
          still None is locked = refl
          still (Some w) is locked = kept_released s.queue t w.transaction locked (is_over w is)

      all : (xs : List Spot) → Each IsOverAt xs → AreSpotsSound point xs → AreSpotsSound point (map (at_spot (let_go t) id) xs)
      all [] over sound = tt
      all (s ∷ xs) over sound = (elim (eqb s.slot.number id) as (λ b. IsSlotSound point (cond b (let_go t s) s).queue (cond b (let_go t s) s).slot) [ true ↦ one s over.0 sound.0 | false ↦ sound.0 ], all xs over.1 sound.1)

  pub writes_let_go : (ss : List Spot) → pending_writes (map (at_spot (let_go t) id) ss) ≡ pending_writes ss
  writes_let_go ss =
      writes_same (at_spot (let_go t) id) (λ s. elim (eqb s.slot.number id) as (λ b. (cond b (let_go t s) s).slot.key ≡ s.slot.key) [ true ↦ refl | false ↦ refl ])
      (λ s. elim (eqb s.slot.number id) as (λ b. pending_in (cond b (let_go t s) s).slot ≡ pending_in s.slot) [ true ↦ refl | false ↦ refl ]) ss

-- a spot that has changed, and is free if nothing keeps it then
module _ (g : Spot → Spot) (numbers : (s : Spot) → (g s).slot.number ≡ s.slot.number) (id : ℕ) (spot : Spot) where
  stays_tidied : is_needed (g spot) ≡ true → (ss : List Spot) → AreSpotsApart ss → spot_of_number ss id ≡ Some spot → tidied id (map (at_spot g id) ss) ≡ map (at_spot g id) ss
  stays_tidied needed [] apart found = refl
  stays_tidied needed (s ∷ ss) apart found = by_test (eqb s.slot.number id) refl found (stays_tidied needed ss apart.1)
    where
      by_test : (b : Bool) → eqb s.slot.number id ≡ b → cond b (Some s) (spot_of_number ss id) ≡ Some spot → (spot_of_number ss id ≡ Some spot → tidied id (map (at_spot g id) ss) ≡ map (at_spot g id) ss) → tidied id (cond b (g s) s ∷ map (at_spot g id) ss) ≡ cond b (g s) s ∷ map (at_spot g id) ss
      by_test true is found rest =
          let none : has_spot ss id ≡ false = ap (has_spot ss) (sym (eqb-true s.slot.number id is)) ∙ apart.0 in
          tidied_here id (g s) (map (at_spot g id) ss) (ap (λ n. eqb n id) (numbers s) ∙ is)
          ∙ ap (λ b. cond b (g s ∷ tidied id (map (at_spot g id) ss)) (tidied id (map (at_spot g id) ss))) (ap (λ (x : Spot). is_needed (g x)) (one_some found) ∙ needed)
          ∙ ap (λ (xs : List Spot). g s ∷ xs) (ap (tidied id) (apart_stay g id ss none) ∙ apart_tidied id ss none ∙ sym (apart_stay g id ss none))
      by_test false is found rest = tidied_past id s (map (at_spot g id) ss) is ∙ ap (λ (xs : List Spot). s ∷ xs) (rest found)

  module _ (key : List ℕ) (bare : is_needed (g spot) ≡ false) (here : same_bytes key spot.slot.key ≡ true) (number : eqb spot.slot.number id ≡ true) where
    goes_tidied : (ss : List Spot) → Rise (rows_in ss) → AreSpotsApart ss → spot_of_number ss id ≡ Some spot → spot_of_key ss key ≡ Some spot → rows_in (tidied id (map (at_spot g id) ss)) ≡ filter (λ row. not (same_bytes key row.0)) (rows_in ss)
    goes_tidied [] rise apart found at = refl
    goes_tidied (s ∷ ss) rise apart found at = by_test (eqb s.slot.number id) refl (same_bytes key s.slot.key) refl found at (goes_tidied ss (tail_rises s ss rise) apart.1)
      where
        by_test : (b : Bool) → eqb s.slot.number id ≡ b → (c : Bool) → same_bytes key s.slot.key ≡ c → cond b (Some s) (spot_of_number ss id) ≡ Some spot → cond c (Some s) (spot_of_key ss key) ≡ Some spot → (spot_of_number ss id ≡ Some spot → spot_of_key ss key ≡ Some spot → rows_in (tidied id (map (at_spot g id) ss)) ≡ filter (λ row. not (same_bytes key row.0)) (rows_in ss))
            → rows_in (tidied id (cond b (g s) s ∷ map (at_spot g id) ss)) ≡ cond (not c) (row_in s ∷ filter (λ row. not (same_bytes key row.0)) (rows_in ss)) (filter (λ row. not (same_bytes key row.0)) (rows_in ss))
        by_test true is true same found at rest =
            let none : has_spot ss id ≡ false = ap (has_spot ss) (sym (eqb-true s.slot.number id is)) ∙ apart.0 in
            ap rows_in (tidied_here id (g s) (map (at_spot g id) ss) (ap (λ n. eqb n id) (numbers s) ∙ is)
            ∙ ap (λ b. cond b (g s ∷ tidied id (map (at_spot g id) ss)) (tidied id (map (at_spot g id) ss))) (ap (λ (x : Spot). is_needed (g x)) (one_some found) ∙ bare)
            ∙ ap (tidied id) (apart_stay g id ss none) ∙ apart_tidied id ss none)
            ∙ sym (others_all key (rows_in ss) (found_record ss key ∙ ap record_in (head_lacks s ss key rise same)))
        by_test true is false same found at rest = no (sym same ∙ ap (λ (x : Spot). same_bytes key x.slot.key) (one_some found) ∙ here)
        by_test false is true same found at rest = no (sym is ∙ ap (λ (x : Spot). eqb x.slot.number id) (one_some at) ∙ number)
        by_test false is false same found at rest = ap rows_in (tidied_past id s (map (at_spot g id) ss) is) ∙ ap (λ (rows : List Row). row_in s ∷ rows) (rest found at)

-- a key is taken
module _ (point : ℕ) (floor : Floor) (whole : IsFloorWhole floor) (key : List ℕ) (id : ℕ) (spot : Spot) (f : IsFound floor.spots key id spot) (sound : AreSpotsSound point floor.spots) (over : (w : Writer) → spot.slot.writer ≡ Some w → same_class w.class During ≡ false) where
  abbrev taken : Spot → Spot
  taken = with_slot_changed taken_slot

  sound_one : IsSlotSound point spot.queue (taken_slot spot.slot)
  sound_one = taken_sound point spot.queue spot.slot over (each_found (λ s. IsSlotSound point s.queue s.slot) floor.spots key spot sound f.at)

  pub sound_taken : AreSpotsSound point (map (at_spot taken id) floor.spots)
  sound_taken = subst (AreSpotsSound point) (sym (f.swaps taken)) (each_changed taken key spot (λ s. IsSlotSound point s.queue s.slot) floor.spots whole.rise f.at sound_one sound)

  pub writes_taken : pending_writes (map (at_spot taken id) floor.spots) ≡ pending_writes floor.spots
  writes_taken =
      writes_same (at_spot taken id) (λ s. elim (eqb s.slot.number id) as (λ b. (cond b (taken s) s).slot.key ≡ s.slot.key) [ true ↦ refl | false ↦ refl ])
      (λ s. elim (eqb s.slot.number id) as (λ b. pending_in (cond b (taken s) s).slot ≡ pending_in s.slot) [ true ↦ refl | false ↦ refl ]) floor.spots

  here : same_bytes key spot.slot.key ≡ true
  here = ap (λ k. same_bytes k spot.slot.key) (key_found floor.spots key spot f.at) ∙ same_self spot.slot.key

  pub rows_taken : rows_in (tidied id (map (at_spot taken id) floor.spots)) ≡ left_rows (rows_in floor.spots) key
  rows_taken = by_kept (is_needed (taken spot)) refl ∙ sym (ap (λ o. with_left (record_after_take o) key (rows_in floor.spots)) (found_record floor.spots key ∙ ap record_in f.at))
    where
      by_kept : (b : Bool) → is_needed (taken spot) ≡ b → rows_in (tidied id (map (at_spot taken id) floor.spots)) ≡ with_left (if_kept (row_in (taken spot)).1) key (rows_in floor.spots)
      by_kept true needed =
          ap rows_in (stays_tidied taken (λ s. refl) id spot needed floor.spots whole.apart f.numbered ∙ f.swaps taken) ∙ rows_changed taken key spot refl floor.spots whole.rise f.at
          ∙ sym (ap (λ b. with_left (cond b (Some (row_in (taken spot)).1) None) key (rows_in floor.spots)) (sym (needed_row point (taken spot) sound_one) ∙ needed))
      by_kept false bare =
          goes_tidied taken (λ s. refl) id spot key bare here (eq-eqb spot.slot.number id f.number) floor.spots whole.rise whole.apart f.numbered f.at
          ∙ sym (ap (λ b. with_left (cond b (Some (row_in (taken spot)).1) None) key (rows_in floor.spots)) (sym (needed_row point (taken spot) sound_one) ∙ bare))

-- one floor after the other, once requests are let go
module _ (point t : ℕ) where
  pub left_then : (a b c : Floor) → IsFloorReleased point t a b → IsFloorReleased point t b c → IsFloorReleased point t a c
  left_then a b c p q = record { same = q.same ∙ ap (λ (f : Floor). record f { spots = c.spots }) p.same; writes = q.writes ∙ p.writes; sound = q.sound; rows = q.rows ∙ p.rows }

  pub over_then : (a b : Floor) → HasNoPendingWrite t a.spots → IsFloorReleased point t a b → HasNoPendingWrite t b.spots
  over_then a b over l q p found = over q p (ap (find key_cmp q) (sym l.writes) ∙ found)

  pub left_none : (old new : Floor) → new ≡ old → AreSpotsSound point old.spots → IsFloorReleased point t old new
  left_none old new same sound = subst (IsFloorReleased point t old) (sym same) (record { same = refl; writes = refl; sound = sound; rows = refl })

  pub left_one : (id : ℕ) (old mid new : Floor) → IsFloorWhole old → stands_at old.spots id t ≡ true → mid ≡ with_spot (let_go t) id old → new ≡ record mid { spots = tidied id mid.spots } → AreSpotsSound point old.spots → HasNoPendingWrite t old.spots → IsFloorReleased point t old new
  left_one id old mid new whole stands mid_is new_is sound over =
      let is : new ≡ record old { spots = left t id old.spots } = new_is ∙ ap (λ (f : Floor). record f { spots = tidied id f.spots }) mid_is in
      let spots : new.spots ≡ left t id old.spots = ap (λ (f : Floor). f.spots) is in
      let here : AreSpotsSound point (map (at_spot (let_go t) id) old.spots) = sound_let_go t id point old.spots whole.rise over sound in
      record {
        same = is ∙ ap (λ (ss : List Spot). record old { spots = ss }) (sym spots);
        writes = ap pending_writes spots ∙ writes_tidied point id (map (at_spot (let_go t) id) old.spots) here ∙ writes_let_go t id old.spots;
        sound = subst (AreSpotsSound point) (sym spots) (each_tidied (λ s. IsSlotSound point s.queue s.slot) id (map (at_spot (let_go t) id) old.spots) here);
        rows = ap (λ (ss : List Spot). released_rows t (rows_in ss)) spots ∙ released_left t id point old.spots whole.apart here stands;
      }

  pub fewer_one : (id : ℕ) (old mid new : Floor) → IsFloorWhole old → stands_at old.spots id t ≡ true → mid ≡ with_spot (let_go t) id old → new ≡ record mid { spots = tidied id mid.spots } → standing t new.spots < standing t old.spots
  fewer_one id old mid new whole stands mid_is new_is =
      let spots : new.spots ≡ left t id old.spots = ap (λ (f : Floor). f.spots) new_is ∙ ap (λ (f : Floor). tidied id f.spots) mid_is in
      subst (λ (ss : List Spot). standing t ss < standing t old.spots) (sym spots) (fewer t id old.spots whole.apart stands)

  -- the records then
  pub table_left : (old new : Floor) → IsFloorReleased point t old new → stands_anywhere new.spots t ≡ false → table_on point new ≡ record (table_on point old) { rows = released_rows t (rows_in old.spots) }
  table_left old new l done = λ i. record {
    capacity = (l.same i).capacity;
    rows = (none_released t 0 new.spots done ∙ l.rows) i;
    pending = l.writes i;
    point = point;
    opened = (l.same i).opened;
    shut = (l.same i).closed;
  }

  -- a slot of which a request is let go is there still
  pub there_still : (id : ℕ) (old mid : Floor) → stands_at old.spots id t ≡ true → mid ≡ with_spot (let_go t) id old → has_spot mid.spots id ≡ true
  there_still id old mid stands mid_is = ap (λ (f : Floor). has_spot f.spots id) mid_is ∙ has_same (let_go t) (λ s. refl) id id old.spots ∙ has old.spots stands
    where
      first : (a b c d : Bool) → (c ≡ true → d ≡ true) → ((a && b) || c) ≡ true → (a || d) ≡ true
      first true b c d f e = refl
      first false b c d f e = f e

      has : (ss : List Spot) → stands_at ss id t ≡ true → has_spot ss id ≡ true
      has [] e = no e
      has (s ∷ ss) e = first (eqb s.slot.number id) (stands_in s.queue t) (stands_at ss id t) (has_spot ss id) (has ss) e

-- the first key of the closed set is taken
module _ (point id : ℕ) (old mid new : Floor) (whole : IsFloorWhole old) (sound : AreSpotsSound point old.spots) (takes : TakesFirstSpot old mid id) (new_is : new ≡ record mid { spots = tidied id mid.spots }) (key : List ℕ) (keys : List (List ℕ)) (first : old.closed ≡ key ∷ keys)
    (over : (p : Pending) → find key_cmp key (pending_writes old.spots) ≡ Some p → same_class p.class During ≡ false) where
  one_list : {A : Type 0} {x y : A} {xs ys : List A} → x ∷ xs ≡ y ∷ ys → (x ≡ y) × (xs ≡ ys)
  one_list e = (cc, cc)

  there : slot_number_of old.spots key ≡ Some id
  there = ap (slot_number_of old.spots) (one_list (sym first ∙ takes.first)).0 ∙ takes.found

  spot : (s : Spot) × IsFound old.spots key id s
  spot = found old key id whole there

  ready : (w : Writer) → spot.0.slot.writer ≡ Some w → same_class w.class During ≡ false
  ready w is = over (record { by = w.transaction; class = w.class; value = spot.0.slot.live }) (found_write old.spots key whole.rise ∙ ap write_in spot.1.at ∙ ap (λ o. pending_of_writer o spot.0.slot.live) is)

  is : new ≡ record old { spots = tidied id (map (at_spot (with_slot_changed taken_slot) id) old.spots); closed = takes.keys }
  is = new_is ∙ ap (λ (f : Floor). record f { spots = tidied id f.spots }) takes.taken

  pub sound_take : AreSpotsSound point new.spots
  sound_take = subst (λ (f : Floor). AreSpotsSound point f.spots) (sym is) (each_tidied (λ s. IsSlotSound point s.queue s.slot) id (map (at_spot (with_slot_changed taken_slot) id) old.spots) (sound_taken point old whole key id spot.0 spot.1 sound ready))

  pub table_take : (key : List ℕ) (keys : List (List ℕ)) → old.closed ≡ key ∷ keys → table_on point new ≡ record (table_on point old) { rows = left_rows (rows_in old.spots) key; shut = keys }
  table_take other others again = λ i. record {
    capacity = (is i).capacity;
    rows = (ap (λ (f : Floor). rows_in f.spots) is ∙ rows_taken point old whole key id spot.0 spot.1 sound ready ∙ ap (left_rows (rows_in old.spots)) (one_list (sym first ∙ again)).0) i;
    pending = (ap (λ (f : Floor). pending_writes f.spots) is ∙ writes_tidied point id (map (at_spot (with_slot_changed taken_slot) id) old.spots) (sound_taken point old whole key id spot.0 spot.1 sound ready) ∙ writes_taken point old whole key id spot.0 spot.1 sound ready) i;
    point = point;
    opened = (is i).opened;
    shut = (ap (λ (f : Floor). f.closed) is ∙ (one_list (sym takes.first ∙ again)).1) i;
  }

-- and its slot is there still
pub taken_there : (id : ℕ) (old mid : Floor) → TakesFirstSpot old mid id → has_spot mid.spots id ≡ true
taken_there id old mid takes = ap (λ (f : Floor). has_spot f.spots id) takes.taken ∙ has_same (with_slot_changed taken_slot) (λ s. refl) id id old.spots ∙ has_number old.spots takes.key id takes.found
