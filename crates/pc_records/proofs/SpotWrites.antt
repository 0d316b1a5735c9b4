-- Spots once writes are committed or undone, in order.
use Rattle.std.proofs.Common.{◌≡◌, ℕ, zero, suc, ◌+◌, ◌<◌, ◌≤◌, List, [], ◌∷◌, ◌++◌, append_assoc, append-nil, length, drop, get_or, map, Option, Some, None, is_some, option_map, refl, sym, ap, ◌∙◌, subst, cond, Bool, true, false, eqb, ◌&&◌, ◌||◌, not, arith}
use Rattle.std.proofs.lemmas.List.{drop_all}
use Rattle.std.specs.FinMap.{find}
use Rattle.pc_types.specs.declared.Write.{Write}
use Rattle.pc_model.specs.Database.{key_cmp, same_bytes, written}
use Rattle.pc_model.specs.DistinctWrites.{AreDistinct}
use Rattle.pc_model.specs.Locks.{Queue}
use Rattle.pc_model.proofs.JoinLaws.{one_key}
use Rattle.pc_model.proofs.PlaceLaws.{rest_at}
use Rattle.pc_model.proofs.RisingLaws.{Rise}
use Rattle.pc_slots.specs.declared.versions.Writer.{Writer}
use Rattle.pc_slots.specs.Slots.{Slot, pending_in, pending_of_writer, settled, undone, IsSlotSound}
use Rattle.pc_records.specs.Rows.{Row, record_of, is_in_open_set}
use Rattle.pc_records.specs.RowSteps.{written_row, committed_record}
use Rattle.pc_records.specs.NewKeys.{with_new, new_keys}
use Rattle.pc_records.specs.Tables.{pending_value}
use Rattle.pc_records.specs.Floor.{Spot, Floor, IsFloorWhole, Each, AreSpotsSound, row_in, rows_in, pending_writes, with_slot_changed, at_key, at_writes, with_spot, slot_number_of, newly_opened, newly_opened_key, newly_opened_keys, with_settled, with_undone}
use Rattle.pc_records.proofs.Moments.{settled_key, row_settled, row_undone}
use Rattle.pc_records.proofs.WrittenKeys.{written_first, written_own, written_later}
use Rattle.pc_records.proofs.SpotLaws.{no, spot_of_key, record_in, write_in, found_record, found_write, key_found, each_by_key, each_map, key_map, spot_of_number, none_found, lacking_stay, found}

-- a change of slots that keeps keys, leaves no writer, and does nothing twice
module _ (f : Slot → Slot) (keys : (s : Slot) → (f s).key ≡ s.key) (none : (s : Slot) → (f s).writer ≡ None) (again : (s : Slot) → f (f s) ≡ f s) where
  pub keeps_writes : (ws : List Write) (s : Spot) → (at_writes (with_slot_changed f) ws s).slot.key ≡ s.slot.key
  keeps_writes ws s = elim (is_some (written ws s.slot.key)) as (λ b. (cond b (with_slot_changed f s) s).slot.key ≡ s.slot.key) [ true ↦ keys s.slot | false ↦ refl ]

  at_next : (w : Write) (ws : List Write) (s : Spot) → at_writes (with_slot_changed f) ws (at_key (with_slot_changed f) w.key s) ≡ at_writes (with_slot_changed f) (w ∷ ws) s
  at_next w ws s = by_test (same_bytes w.key s.slot.key) (is_some (written ws s.slot.key)) refl ∙ ap (λ b. cond b (with_slot_changed f s) s) (sym (written_first w ws s.slot.key))
    where
      by_test : (b c : Bool) → is_some (written ws s.slot.key) ≡ c → at_writes (with_slot_changed f) ws (cond b (with_slot_changed f s) s) ≡ cond (b || is_some (written ws s.slot.key)) (with_slot_changed f s) s
      by_test true true e =
          ap (λ k. cond (is_some (written ws k)) (with_slot_changed f (with_slot_changed f s)) (with_slot_changed f s)) (keys s.slot) ∙ ap (λ b. cond b (with_slot_changed f (with_slot_changed f s)) (with_slot_changed f s)) e
          ∙ ap (λ (x : Slot). record { slot = x; queue = s.queue }) (again s.slot)
      by_test true false e = ap (λ k. cond (is_some (written ws k)) (with_slot_changed f (with_slot_changed f s)) (with_slot_changed f s)) (keys s.slot) ∙ ap (λ b. cond b (with_slot_changed f (with_slot_changed f s)) (with_slot_changed f s)) e
      by_test false c e = refl

  map_next : (w : Write) (ws : List Write) (ss : List Spot) → map (at_writes (with_slot_changed f) ws) (map (at_key (with_slot_changed f) w.key) ss) ≡ map (at_writes (with_slot_changed f) (w ∷ ws)) ss
  map_next w ws [] = refl
  map_next w ws (s ∷ ss) = ap (λ (x : Spot). x ∷ map (at_writes (with_slot_changed f) ws) (map (at_key (with_slot_changed f) w.key) ss)) (at_next w ws s) ∙ ap (λ (xs : List Spot). at_writes (with_slot_changed f) (w ∷ ws) s ∷ xs) (map_next w ws ss)

  -- what is left to do of the writes does the rest
  pub writes_next : (ws : List Write) (i : ℕ) (w : Write) (ss now new : List Spot) → i < length ws → w ≡ get_or ws i w → new ≡ map (at_key (with_slot_changed f) w.key) now → map (at_writes (with_slot_changed f) (drop i ws)) now ≡ map (at_writes (with_slot_changed f) ws) ss
      → map (at_writes (with_slot_changed f) (drop (i + 1) ws)) new ≡ map (at_writes (with_slot_changed f) ws) ss
  writes_next ws i w ss now new lt is new_is so_far =
      ap (map (at_writes (with_slot_changed f) (drop (i + 1) ws))) new_is ∙ map_next w (drop (i + 1) ws) now ∙ ap (λ (vs : List Write). map (at_writes (with_slot_changed f) vs) now) (sym (rest_at ws i w lt is)) ∙ so_far

  pub writes_done : (ws : List Write) (i : ℕ) (ss now : List Spot) → length ws ≤ i → map (at_writes (with_slot_changed f) (drop i ws)) now ≡ map (at_writes (with_slot_changed f) ws) ss → now ≡ map (at_writes (with_slot_changed f) ws) ss
  writes_done ws i ss now le so_far = sym (ap (λ (vs : List Write). map (at_writes (with_slot_changed f) vs) now) (drop_all i ws le) ∙ nothing now) ∙ so_far
    where
      nothing : (xs : List Spot) → map (at_writes (with_slot_changed f) []) xs ≡ xs
      nothing [] = refl
      nothing (x ∷ xs) = ap (λ (ys : List Spot). x ∷ ys) (nothing xs)

  -- the writes are gone then
  pub writes_gone : (ws : List Write) (ss : List Spot) → Rise (rows_in ss) → Rise (rows_in (map (at_writes (with_slot_changed f) ws) ss)) → (q : List ℕ) → find key_cmp q (pending_writes (map (at_writes (with_slot_changed f) ws) ss)) ≡ cond (is_some (written ws q)) None (find key_cmp q (pending_writes ss))
  writes_gone ws ss rise later q =
      found_write (map (at_writes (with_slot_changed f) ws) ss) q later ∙ ap write_in (key_map (at_writes (with_slot_changed f) ws) (keeps_writes ws) ss q) ∙ by_spot (spot_of_key ss q) refl
      ∙ sym (ap (cond (is_some (written ws q)) None) (found_write ss q rise))
    where
      by_none : (b : Bool) → None ≡ cond b None (write_in None)
      by_none true = refl
      by_none false = refl

      by_test : (s : Spot) (b : Bool) → pending_in (cond b (with_slot_changed f s) s).slot ≡ cond b None (pending_in s.slot)
      by_test s true = ap (λ o. pending_of_writer o (f s.slot).live) (none s.slot)
      by_test s false = refl

      by_spot : (o : Option Spot) → spot_of_key ss q ≡ o → write_in (option_map (at_writes (with_slot_changed f) ws) o) ≡ cond (is_some (written ws q)) None (write_in o)
      by_spot None is = by_none (is_some (written ws q))
      by_spot (Some s) is = by_test s (is_some (written ws s.slot.key)) ∙ ap (λ k. cond (is_some (written ws k)) None (pending_in s.slot)) (sym (key_found ss q s is))

  pub sound_writes : (point : ℕ) → ((queue : Queue) (s : Slot) → IsSlotSound point queue s → IsSlotSound point queue (f s)) → (ws : List Write) (ss : List Spot) → AreSpotsSound point ss → AreSpotsSound point (map (at_writes (with_slot_changed f) ws) ss)
  sound_writes point each ws = each_map (λ s. IsSlotSound point s.queue s.slot) (λ s. IsSlotSound point s.queue s.slot) (at_writes (with_slot_changed f) ws) (λ s sound. elim (is_some (written ws s.slot.key)) as (λ b. IsSlotSound point (cond b (with_slot_changed f s) s).queue (cond b (with_slot_changed f s) s).slot) [ true ↦ each s.queue s.slot sound | false ↦ sound ])

-- the keys that go into the open set
abbrev opened_in : List ℕ → Option Spot → List (List ℕ)
opened_in q None = []
opened_in q (Some s) = cond (is_some s.slot.writer && not s.slot.is_in_open_set) (q ∷ []) []

by_spots : (ss : List Spot) (q : List ℕ) → newly_opened_key ss q ≡ opened_in q (spot_of_key ss q)
by_spots [] q = refl
by_spots (s ∷ ss) q = grind (arith, one_key q s.slot.key, by_spots ss q)

module _ (point : ℕ) where
  abbrev settles : List ℕ → List Spot → List Spot
  settles key ss = map (at_key (with_slot_changed (settled point)) key) ss

  other_opens : (ss : List Spot) (key q : List ℕ) → same_bytes q key ≡ false → newly_opened_key (settles key ss) q ≡ newly_opened_key ss q
  other_opens [] key q other = refl
  other_opens (s ∷ ss) key q other = by_test (same_bytes key s.slot.key) refl (other_opens ss key q other)
    where
      by_test : (b : Bool) → same_bytes key s.slot.key ≡ b → newly_opened_key (settles key ss) q ≡ newly_opened_key ss q → newly_opened_key (cond b (with_slot_changed (settled point) s) s ∷ settles key ss) q ≡ newly_opened_key (s ∷ ss) q
      by_test false same rest = ap (cond (same_bytes q s.slot.key) (cond (is_some s.slot.writer && not s.slot.is_in_open_set) (s.slot.key ∷ []) [])) rest
      by_test true same rest =
          let past : same_bytes q s.slot.key ≡ false = ap (same_bytes q) (sym (one_key key s.slot.key same)) ∙ other in
          let past_now : same_bytes q (settled point s.slot).key ≡ false = ap (same_bytes q) (settled_key point s.slot) ∙ past in
          ap (λ b. cond b (cond (is_some (settled point s.slot).writer && not (settled point s.slot).is_in_open_set) ((settled point s.slot).key ∷ []) []) (newly_opened_key (settles key ss) q)) past_now
          ∙ rest ∙ sym (ap (λ b. cond b (cond (is_some s.slot.writer && not s.slot.is_in_open_set) (s.slot.key ∷ []) []) (newly_opened_key ss q)) past)

  others_open : (ss : List Spot) (key : List ℕ) (ws : List Write) → is_some (written ws key) ≡ false → newly_opened_keys (settles key ss) ws ≡ newly_opened_keys ss ws
  others_open ss key [] none = refl
  others_open ss key (w ∷ ws) none = grind (arith, others_open ss key ws, other_opens ss key w.key, written_first w ws key)

  distinct_drop : (i : ℕ) (ws : List Write) → AreDistinct ws → AreDistinct (drop i ws)
  distinct_drop zero ws d = d
  distinct_drop (suc i) [] d = tt
  distinct_drop (suc i) (w ∷ ws) d = distinct_drop i ws d.1

  -- one write more
  pub opened_next : (ws : List Write) (i : ℕ) (w : Write) (now new : List Spot) (keys more all : List (List ℕ)) → i < length ws → w ≡ get_or ws i w → AreDistinct ws → new ≡ settles w.key now → more ≡ keys ++ newly_opened_key now w.key →
      keys ++ newly_opened_keys now (drop i ws) ≡ all → more ++ newly_opened_keys new (drop (i + 1) ws) ≡ all
  opened_next ws i w now new keys more all lt is d new_is more_is so_far =
      let step : drop i ws ≡ w ∷ drop (i + 1) ws = rest_at ws i w lt is in
      ap (λ (ss : List Spot). more ++ newly_opened_keys ss (drop (i + 1) ws)) new_is ∙ ap (λ ks. ks ++ newly_opened_keys (settles w.key now) (drop (i + 1) ws)) more_is ∙ append_assoc keys (newly_opened_key now w.key) (newly_opened_keys (settles w.key now) (drop (i + 1) ws))
      ∙ ap (λ ks. keys ++ (newly_opened_key now w.key ++ ks)) (others_open now w.key (drop (i + 1) ws) (subst AreDistinct step (distinct_drop i ws d)).0) ∙ sym (ap (λ vs. keys ++ newly_opened_keys now vs) step) ∙ so_far

  pub opened_done : (ws : List Write) (i : ℕ) (now : List Spot) (keys all : List (List ℕ)) → length ws ≤ i → keys ++ newly_opened_keys now (drop i ws) ≡ all → keys ≡ all
  opened_done ws i now keys all le so_far = sym (ap (λ vs. keys ++ newly_opened_keys now vs) (drop_all i ws le) ∙ append-nil keys) ∙ so_far

-- if each of the keys has a write in place, the keys that go in are those that are new
module _ (ss : List Spot) (rise : Rise (rows_in ss)) where
  abbrev Stand : List Write → Type 0
  Stand ws = (q : List ℕ) → is_some (written ws q) ≡ true → is_some (find key_cmp q (pending_writes ss)) ≡ true

  stands : (ws : List Write) → Stand ws → (q : List ℕ) → is_some (written ws q) ≡ true → is_some (write_in (spot_of_key ss q)) ≡ true
  stands ws stand q some = ap is_some (sym (found_write ss q rise)) ∙ stand q some

  new_one : (q : List ℕ) (o : Option Spot) → is_some (write_in o) ≡ true → opened_in q o ≡ with_new (is_in_open_set (record_in o)) q []
  new_one q None some = no some
  new_one q (Some s) some = ap (λ b. cond (b && not s.slot.is_in_open_set) (q ∷ []) []) (by_writer s.slot.writer refl) ∙ elim s.slot.is_in_open_set as (λ b. cond (not b) (q ∷ []) [] ≡ with_new b q []) [ true ↦ refl | false ↦ refl ]
    where
      by_writer : (o : Option Writer) → s.slot.writer ≡ o → is_some o ≡ true
      by_writer None is = no (ap (λ o. is_some (pending_of_writer o s.slot.live)) (sym is) ∙ some)
      by_writer (Some w) is = refl

  with_front : (b : Bool) (q : List ℕ) (ks : List (List ℕ)) → with_new b q [] ++ ks ≡ with_new b q ks
  with_front true q ks = refl
  with_front false q ks = refl

  all_new : (vs ws : List Write) → Stand vs → ((q : List ℕ) → is_some (written ws q) ≡ true → is_some (written vs q) ≡ true) → newly_opened_keys ss ws ≡ new_keys (rows_in ss) ws
  all_new vs [] stand in_all = refl
  all_new vs (w ∷ ws) stand in_all =
      ap (λ ks. ks ++ newly_opened_keys ss ws) (by_spots ss w.key ∙ new_one w.key (spot_of_key ss w.key) (stands vs stand w.key (in_all w.key (written_own w ws))) ∙ ap (λ o. with_new (is_in_open_set o) w.key []) (sym (found_record ss w.key)))
      ∙ with_front (is_in_open_set (record_of (rows_in ss) w.key)) w.key (newly_opened_keys ss ws)
      ∙ ap (with_new (is_in_open_set (record_of (rows_in ss) w.key)) w.key) (all_new vs ws stand (λ q e. in_all q (written_later w ws q e)))

  pub keys_opened : (ws : List Write) → Stand ws → newly_opened_keys ss ws ≡ new_keys (rows_in ss) ws
  keys_opened ws stand = all_new ws ws stand (λ q e. e)

  -- the rows once the writes are committed
  module _ (point : ℕ) (ws : List Write) (stand : Stand ws) where
    -- the contents of the places of their keys
    abbrev standing : List ℕ → Option (Option (List ℕ))
    standing q = cond (is_some (written ws q)) (option_map pending_value (find key_cmp q (pending_writes ss))) None

    -- the spot's own write is the content of the place of its key, and it has one if the key is written
    abbrev Stands : Spot → Type 0
    Stands s = (find key_cmp s.slot.key (pending_writes ss) ≡ pending_in s.slot) × (is_some (written ws s.slot.key) ≡ true → is_some (pending_in s.slot) ≡ true)

    one : (q : List ℕ) (s : Spot) → spot_of_key ss q ≡ Some s → Stands s
    one q s found =
        let key : q ≡ s.slot.key = key_found ss q s found in (
          ap (λ k. find key_cmp k (pending_writes ss)) (sym key) ∙ found_write ss q rise ∙ ap write_in found,
          λ some. sym (ap (λ (o : Option Spot). is_some (write_in o)) found) ∙ stands ws stand q (ap (λ k. is_some (written ws k)) key ∙ some),
        )

    row_one : (s : Spot) → Stands s → row_in (at_writes (with_slot_changed (settled point)) ws s) ≡ written_row standing (row_in s)
    row_one s stands =
        by_written (is_some (written ws s.slot.key)) stands.1
        ∙ sym (ap (λ o. (s.slot.key, committed_record (cond (is_some (written ws s.slot.key)) (option_map pending_value o) None) (row_in s).1)) stands.0)
      where
        by_written : (b : Bool) → (b ≡ true → is_some (pending_in s.slot) ≡ true) → row_in (cond b (with_slot_changed (settled point) s) s) ≡ (s.slot.key, committed_record (cond b (option_map pending_value (pending_in s.slot)) None) (row_in s).1)
        by_written false stands = refl
        by_written true stands = by_writer s.slot.writer refl (stands refl)
          where
            by_writer : (o : Option Writer) → s.slot.writer ≡ o → is_some (pending_of_writer o s.slot.live) ≡ true → row_in (with_slot_changed (settled point) s) ≡ (s.slot.key, committed_record (option_map pending_value (pending_of_writer o s.slot.live)) (row_in s).1)
            by_writer None is e = no e
            by_writer (Some w) is e = row_settled (λ n. s.queue) point s.slot w is

    all : (xs : List Spot) → Each Stands xs → rows_in (map (at_writes (with_slot_changed (settled point)) ws) xs) ≡ map (written_row standing) (rows_in xs)
    all [] each = refl
    all (x ∷ xs) each = ap (λ (r : Row). r ∷ rows_in (map (at_writes (with_slot_changed (settled point)) ws) xs)) (row_one x each.0) ∙ ap (λ (rows : List Row). written_row standing (row_in x) ∷ rows) (all xs each.1)

    pub rows_settled : rows_in (map (at_writes (with_slot_changed (settled point)) ws) ss) ≡ map (written_row standing) (rows_in ss)
    rows_settled = all ss (each_by_key Stands ss rise one)

-- and once they are undone
pub rows_undone : (point : ℕ) (ws : List Write) (ss : List Spot) → AreSpotsSound point ss → rows_in (map (at_writes (with_slot_changed (undone point)) ws) ss) ≡ rows_in ss
rows_undone point ws [] sound = refl
rows_undone point ws (s ∷ ss) sound = ap (λ (r : Row). r ∷ rows_in (map (at_writes (with_slot_changed (undone point)) ws) ss)) (by_test (is_some (written ws s.slot.key))) ∙ ap (λ (rows : List Row). row_in s ∷ rows) (rows_undone point ws ss sound.1)
  where
    by_test : (b : Bool) → row_in (cond b (with_slot_changed (undone point) s) s) ≡ row_in s
    by_test true = row_undone (λ n. s.queue) point s.queue s.slot sound.0
    by_test false = refl

-- a key that has a spot, and one that has none
module _ (floor : Floor) (key : List ℕ) where
  abbrev opened_of : Option Spot → List (List ℕ)
  opened_of None = []
  opened_of (Some s) = cond (is_some s.slot.writer && not s.slot.is_in_open_set) (s.slot.key ∷ []) []

  opens_number : (id : ℕ) (ss : List Spot) → newly_opened ss id ≡ opened_of (spot_of_number ss id)
  opens_number id [] = refl
  opens_number id (s ∷ ss) = elim (eqb s.slot.number id) as (λ b. cond b (opened_of (Some s)) (newly_opened ss id) ≡ opened_of (cond b (Some s) (spot_of_number ss id))) [ true ↦ refl | false ↦ opens_number id ss ]

  opens_key : (ss : List Spot) → newly_opened_key ss key ≡ opened_of (spot_of_key ss key)
  opens_key [] = refl
  opens_key (s ∷ ss) = elim (same_bytes key s.slot.key) as (λ b. cond b (opened_of (Some s)) (newly_opened_key ss key) ≡ opened_of (cond b (Some s) (spot_of_key ss key))) [ true ↦ refl | false ↦ opens_key ss ]

  pub settled_there : (point id : ℕ) → IsFloorWhole floor → slot_number_of floor.spots key ≡ Some id → record (with_spot (with_slot_changed (settled point)) id floor) { opened = floor.opened ++ newly_opened floor.spots id } ≡ with_settled point key floor
  settled_there point id whole there =
      let f = found floor key id whole there in
      let opened : newly_opened floor.spots id ≡ newly_opened_key floor.spots key = opens_number id floor.spots ∙ ap opened_of (f.1.numbered ∙ sym f.1.at) ∙ sym (opens_key floor.spots) in
      λ i. record floor { spots = f.1.swaps (with_slot_changed (settled point)) i; opened = floor.opened ++ opened i }

  pub undone_there : (point id : ℕ) → IsFloorWhole floor → slot_number_of floor.spots key ≡ Some id → with_spot (with_slot_changed (undone point)) id floor ≡ with_undone point key floor
  undone_there point id whole there = λ i. record floor { spots = (found floor key id whole there).1.swaps (with_slot_changed (undone point)) i }

  module _ (none : slot_number_of floor.spots key ≡ None) where
    pub settled_none : (point : ℕ) → floor ≡ with_settled point key floor
    settled_none point =
        let opened : floor.opened ++ newly_opened_key floor.spots key ≡ floor.opened = ap (λ ks. floor.opened ++ ks) (opens_key floor.spots ∙ ap opened_of (none_found floor.spots key none)) ∙ append-nil floor.opened in
        λ i. record floor { spots = sym (lacking_stay (with_slot_changed (settled point)) key floor.spots (none_found floor.spots key none)) i; opened = sym opened i }

    pub undone_none : (point : ℕ) → floor ≡ with_undone point key floor
    undone_none point = λ i. record floor { spots = sym (lacking_stay (with_slot_changed (undone point)) key floor.spots (none_found floor.spots key none)) i }
