-- The spot of a key, and spots where that of a key has changed, or one has gone in.
use Rattle.std.proofs.Common.{◌≡◌, ℕ, List, [], ◌∷◌, map, Option, Some, None, option_map, refl, sym, ap, ◌∙◌, subst, cond, Bool, true, false, eqb, ◌||◌, arith}
use Rattle.std.proofs.lemmas.Bool.Decides.{nat_tests}
use Rattle.std.proofs.lemmas.Bool.{eqb-true, eq-eqb}
use Rattle.std.proofs.lemmas.Cmp.{eq_by_cmp_equiv}
use Rattle.std.specs.FinMap.{find, put, is_sorted}
use Rattle.std.specs.FinMap.Entries.{below_all, by_order}
use Rattle.std.specs.Ordering.{is_lt, is_eq}
use Rattle.std.specs.declared.cmp.Ordering.{Ordering}
use Rattle.std.specs.declared.cmp.Ordering.TheVariants.{Less, Equal, Greater}
use Rattle.pc_model.specs.Database.{key_cmp, key_order, same_bytes}
use Rattle.pc_model.proofs.JoinLaws.{one_key}
use Rattle.pc_model.proofs.RisingLaws.{both, and_of, Below, Rise, lesser_below, none_below}
use Rattle.pc_slots.specs.Slots.{Slot, Pending, pending_in}
use Rattle.pc_records.specs.Rows.{Row, Record, record_of}
use Rattle.pc_records.specs.Slots.{with_optional_entry}
use Rattle.pc_records.specs.Floor.{Spot, Floor, IsFloorWhole, Each, AreSpotsApart, row_in, rows_in, pending_writes, at_spot, at_key, has_spot, slot_number_of, queue_at_slot, of_spot, spots_with}

pub no : {A : Type 0} → false ≡ true → A
no e = absurd cc

pub no_some : {A B : Type 0} {x : A} → None ≡ Some x → B
no_some e = absurd cc

pub one_some : {A : Type 0} {x y : A} → Some x ≡ Some y → x ≡ y
one_some e = cc

pub same_self : (q : List ℕ) → same_bytes q q ≡ true
same_self q = (eq_by_cmp_equiv key_order.total).refl q

-- the spot of the key
abbrev pub spot_of_key : List Spot → List ℕ → Option Spot
spot_of_key [] q = None
spot_of_key (s ∷ ss) q = cond (same_bytes q s.slot.key) (Some s) (spot_of_key ss q)

-- the record of a spot, and the write in it, if there is one
abbrev pub record_in : Option Spot → Option Record
record_in None = None
record_in (Some s) = Some (row_in s).1

abbrev pub write_in : Option Spot → Option Pending
write_in None = None
write_in (Some s) = pending_in s.slot

pub found_record : (ss : List Spot) (q : List ℕ) → record_of (rows_in ss) q ≡ record_in (spot_of_key ss q)
found_record [] q = refl
found_record (s ∷ ss) q = elim (same_bytes q s.slot.key) as (λ b. cond b (Some (row_in s).1) (record_of (rows_in ss) q) ≡ record_in (cond b (Some s) (spot_of_key ss q))) [ true ↦ refl | false ↦ found_record ss q ]

-- a key below those of all spots has none
pub none_under : (key : List ℕ) (ss : List Spot) → Below key (rows_in ss) → spot_of_key ss key ≡ None
none_under key ss below = none_in (spot_of_key ss key) (sym (found_record ss key) ∙ none_below key (rows_in ss) below)
  where
    none_in : (o : Option Spot) → record_in o ≡ None → o ≡ None
    none_in None e = refl
    none_in (Some s) e = no_some (sym e)

-- a spot that is found has the key
pub key_found : (ss : List Spot) (q : List ℕ) (s : Spot) → spot_of_key ss q ≡ Some s → q ≡ s.slot.key
key_found [] q s found = no_some found
key_found (x ∷ xs) q s found = grind (arith, one_key q x.slot.key, key_found xs q s)

-- the head of ascending spots has another key than the rest
pub head_lacks : (s : Spot) (ss : List Spot) (q : List ℕ) → Rise (rows_in (s ∷ ss)) → same_bytes q s.slot.key ≡ true → spot_of_key ss q ≡ None
head_lacks s ss q rise same = ap (spot_of_key ss) (one_key q s.slot.key same) ∙ none_under s.slot.key ss (both (below_all key_cmp s.slot.key (rows_in ss)) (is_sorted key_cmp (rows_in ss)) rise).0

pub tail_rises : (s : Spot) (ss : List Spot) → Rise (rows_in (s ∷ ss)) → Rise (rows_in ss)
tail_rises s ss rise = (both (below_all key_cmp s.slot.key (rows_in ss)) (is_sorted key_cmp (rows_in ss)) rise).1

-- what each spot has, that which is found has; and back
pub each_found : (P : Spot → Type 0) (ss : List Spot) (q : List ℕ) (s : Spot) → Each P ss → spot_of_key ss q ≡ Some s → P s
each_found P [] q s each found = no_some found
each_found P (x ∷ xs) q s each found = elim (same_bytes q x.slot.key) as (λ b. cond b (Some x) (spot_of_key xs q) ≡ Some s → P s) [ true ↦ λ e. subst P (one_some e) each.0 | false ↦ each_found P xs q s each.1 ] found

pub each_by_key : (P : Spot → Type 0) (ss : List Spot) → Rise (rows_in ss) → ((q : List ℕ) (s : Spot) → spot_of_key ss q ≡ Some s → P s) → Each P ss
each_by_key P [] rise all = tt
each_by_key P (x ∷ xs) rise all = (all x.slot.key x (ap (λ b. cond b (Some x) (spot_of_key xs x.slot.key)) (same_self x.slot.key)), each_by_key P xs (tail_rises x xs rise) (λ q s found. all q s (later q s found (same_bytes q x.slot.key) refl)))
  where
    later : (q : List ℕ) (s : Spot) → spot_of_key xs q ≡ Some s → (b : Bool) → same_bytes q x.slot.key ≡ b → cond b (Some x) (spot_of_key xs q) ≡ Some s
    later q s found true same = no_some (sym (head_lacks x xs q rise same) ∙ found)
    later q s found false same = found

pub each_map : (P Q : Spot → Type 0) (g : Spot → Spot) → ((s : Spot) → P s → Q (g s)) → (ss : List Spot) → Each P ss → Each Q (map g ss)
each_map P Q g f [] each = tt
each_map P Q g f (s ∷ ss) each = (f s each.0, each_map P Q g f ss each.1)

-- the write that is found of a key is that of its spot
below_writes : (key : List ℕ) (ss : List Spot) → Below key (rows_in ss) → Below key (pending_writes ss)
below_writes key [] h = refl
below_writes key (s ∷ ss) h =
    let parts = both (is_lt (key_cmp key s.slot.key)) (below_all key_cmp key (rows_in ss)) h in
    by_value (pending_in s.slot) parts.0 (below_writes key ss parts.1)
  where
    by_value : (o : Option Pending) → is_lt (key_cmp key s.slot.key) ≡ true → Below key (pending_writes ss) → Below key (with_optional_entry s.slot.key o (pending_writes ss))
    by_value None less later = later
    by_value (Some p) less later = and_of (is_lt (key_cmp key s.slot.key)) (below_all key_cmp key (pending_writes ss)) less later

pub found_write : (ss : List Spot) (q : List ℕ) → Rise (rows_in ss) → find key_cmp q (pending_writes ss) ≡ write_in (spot_of_key ss q)
found_write [] q h = refl
found_write (s ∷ ss) q h =
    let parts = both (below_all key_cmp s.slot.key (rows_in ss)) (is_sorted key_cmp (rows_in ss)) h in
    by_value (pending_in s.slot) refl (same_bytes q s.slot.key) refl (none_below s.slot.key (pending_writes ss) (below_writes s.slot.key ss parts.0)) (found_write ss q parts.1)
  where
    by_value : (o : Option Pending) → pending_in s.slot ≡ o → (b : Bool) → same_bytes q s.slot.key ≡ b → find key_cmp s.slot.key (pending_writes ss) ≡ None → find key_cmp q (pending_writes ss) ≡ write_in (spot_of_key ss q) →
        find key_cmp q (with_optional_entry s.slot.key o (pending_writes ss)) ≡ write_in (cond b (Some s) (spot_of_key ss q))
    by_value None is true same none later = ap (λ k. find key_cmp k (pending_writes ss)) (one_key q s.slot.key same) ∙ none ∙ sym is
    by_value None is false same none later = later
    by_value (Some p) is true same none later = ap (λ b. cond b (Some p) (find key_cmp q (pending_writes ss))) same ∙ sym is
    by_value (Some p) is false same none later = ap (λ b. cond b (Some p) (find key_cmp q (pending_writes ss))) same ∙ later

-- spots that change under their keys
pub key_map : (g : Spot → Spot) → ((s : Spot) → (g s).slot.key ≡ s.slot.key) → (ss : List Spot) (q : List ℕ) → spot_of_key (map g ss) q ≡ option_map g (spot_of_key ss q)
key_map g keeps [] q = refl
key_map g keeps (s ∷ ss) q =
    ap (λ k. cond (same_bytes q k) (Some (g s)) (spot_of_key (map g ss) q)) (keeps s)
    ∙ elim (same_bytes q s.slot.key) as (λ b. cond b (Some (g s)) (spot_of_key (map g ss) q) ≡ option_map g (cond b (Some s) (spot_of_key ss q))) [ true ↦ refl | false ↦ key_map g keeps ss q ]

-- if no spot has the number, or the key, none changes
pub apart_stay : (g : Spot → Spot) (id : ℕ) (ss : List Spot) → has_spot ss id ≡ false → map (at_spot g id) ss ≡ ss
apart_stay g id [] none = refl
apart_stay g id (s ∷ ss) none = grind (arith, nat_tests, apart_stay g id ss)

pub lacking_stay : (g : Spot → Spot) (key : List ℕ) (ss : List Spot) → spot_of_key ss key ≡ None → map (at_key g key) ss ≡ ss
lacking_stay g key [] none = refl
lacking_stay g key (s ∷ ss) none = grind (arith, lacking_stay g key ss)

-- a key has a number if it has a spot
pub has_number : (ss : List Spot) (key : List ℕ) (id : ℕ) → slot_number_of ss key ≡ Some id → has_spot ss id ≡ true
has_number [] key id e = no_some e
has_number (s ∷ ss) key id e = grind (arith, nat_tests, has_number ss key id)

pub number_found : (ss : List Spot) (key : List ℕ) → slot_number_of ss key ≡ option_map (λ (s : Spot). s.slot.number) (spot_of_key ss key)
number_found [] key = refl
number_found (s ∷ ss) key = elim (same_bytes key s.slot.key) as (λ b. cond b (Some s.slot.number) (slot_number_of ss key) ≡ option_map (λ (x : Spot). x.slot.number) (cond b (Some s) (spot_of_key ss key))) [ true ↦ refl | false ↦ number_found ss key ]

pub none_found : (ss : List Spot) (key : List ℕ) → slot_number_of ss key ≡ None → spot_of_key ss key ≡ None
none_found ss key none = none_in (spot_of_key ss key) (sym (number_found ss key) ∙ none)
  where
    none_in : (o : Option Spot) → option_map (λ (s : Spot). s.slot.number) o ≡ None → o ≡ None
    none_in None e = refl
    none_in (Some s) e = no_some (sym e)

-- the spot of the number
abbrev pub spot_of_number : List Spot → ℕ → Option Spot
spot_of_number [] id = None
spot_of_number (s ∷ ss) id = cond (eqb s.slot.number id) (Some s) (spot_of_number ss id)

-- the spot of a key that has the number is that of the number, and changes as such
module _ (key : List ℕ) (id : ℕ) where
  by_number : (ss : List Spot) → AreSpotsApart ss → slot_number_of ss key ≡ Some id → spot_of_number ss id ≡ spot_of_key ss key
  by_number [] apart e = no_some e
  by_number (s ∷ ss) apart e = grind (arith, nat_tests, by_number ss, has_number ss key id)

  pub swapped : (g : Spot → Spot) (ss : List Spot) → Rise (rows_in ss) → AreSpotsApart ss → slot_number_of ss key ≡ Some id → map (at_spot g id) ss ≡ map (at_key g key) ss
  swapped g [] rise apart e = no_some e
  swapped g (s ∷ ss) rise apart e = by_test (same_bytes key s.slot.key) refl (eqb s.slot.number id) refl e (swapped g ss (tail_rises s ss rise) apart.1)
    where
      by_test : (b : Bool) → same_bytes key s.slot.key ≡ b → (c : Bool) → eqb s.slot.number id ≡ c → cond b (Some s.slot.number) (slot_number_of ss key) ≡ Some id → (slot_number_of ss key ≡ Some id → map (at_spot g id) ss ≡ map (at_key g key) ss) → cond c (g s) s ∷ map (at_spot g id) ss ≡ cond b (g s) s ∷ map (at_key g key) ss
      by_test true same true is e rest = ap (λ (xs : List Spot). g s ∷ xs) (apart_stay g id ss (ap (has_spot ss) (sym (eqb-true s.slot.number id is)) ∙ apart.0) ∙ sym (lacking_stay g key ss (head_lacks s ss key rise same)))
      by_test true same false is e rest = no (sym is ∙ eq-eqb s.slot.number id (one_some e))
      by_test false same true is e rest = no (sym apart.0 ∙ ap (has_spot ss) (eqb-true s.slot.number id is) ∙ has_number ss key id e)
      by_test false same false is e rest = ap (λ (xs : List Spot). s ∷ xs) (rest e)

queue_numbered : (ss : List Spot) (id : ℕ) (s : Spot) → spot_of_number ss id ≡ Some s → queue_at_slot ss id ≡ s.queue
queue_numbered [] id s e = no_some e
queue_numbered (x ∷ xs) id s e = grind (arith, nat_tests, queue_numbered xs id s)

has_numbered : (f : Slot → Option (List ℕ)) (ss : List Spot) (id : ℕ) (s : Spot) → spot_of_number ss id ≡ Some s → of_spot f ss id ≡ f s.slot
has_numbered f [] id s e = no_some e
has_numbered f (x ∷ xs) id s e = grind (arith, nat_tests, has_numbered f xs id s)

-- what is known of the spot of a key that has the number
pub record IsFound (ss : List Spot) (key : List ℕ) (id : ℕ) (spot : Spot) : Type 0 where
  pub at : spot_of_key ss key ≡ Some spot
  pub number : spot.slot.number ≡ id
  pub numbered : spot_of_number ss id ≡ Some spot
  pub queue : queue_at_slot ss id ≡ spot.queue
  pub has : (f : Slot → Option (List ℕ)) → of_spot f ss id ≡ f spot.slot
  pub swaps : (g : Spot → Spot) → map (at_spot g id) ss ≡ map (at_key g key) ss

pub found : (floor : Floor) (key : List ℕ) (id : ℕ) → IsFloorWhole floor → slot_number_of floor.spots key ≡ Some id → (spot : Spot) × IsFound floor.spots key id spot
found floor key id whole e = by_spot (spot_of_key floor.spots key) refl
  where
    by_spot : (o : Option Spot) → spot_of_key floor.spots key ≡ o → (spot : Spot) × IsFound floor.spots key id spot
    by_spot None is = no_some (sym (number_found floor.spots key ∙ ap (option_map (λ (s : Spot). s.slot.number)) is) ∙ e)
    by_spot (Some s) is =
        let there : spot_of_number floor.spots id ≡ Some s = by_number key id floor.spots whole.apart e ∙ is in (
          s,
          record {
            at = is;
            number = one_some (sym (number_found floor.spots key ∙ ap (option_map (λ (s : Spot). s.slot.number)) is) ∙ e);
            numbered = there;
            queue = queue_numbered floor.spots id s there;
            has = λ f. has_numbered f floor.spots id s there;
            swaps = λ g. swapped key id g floor.spots whole.rise whole.apart e;
          },
        )

-- the rows if the spot of a key has changed
module _ (g : Spot → Spot) (key : List ℕ) (spot : Spot) where
  pub rows_changed : (g spot).slot.key ≡ spot.slot.key → (ss : List Spot) → Rise (rows_in ss) → spot_of_key ss key ≡ Some spot → rows_in (map (at_key g key) ss) ≡ put key_cmp key (row_in (g spot)).1 (rows_in ss)
  rows_changed keeps [] rise found = no_some found
  rows_changed keeps (s ∷ ss) rise found = by_test (key_cmp key s.slot.key) refl found (rows_changed keeps ss (tail_rises s ss rise))
    where
      parts : Below s.slot.key (rows_in ss) × Rise (rows_in ss)
      parts = both (below_all key_cmp s.slot.key (rows_in ss)) (is_sorted key_cmp (rows_in ss)) rise

      by_test : (o : Ordering) → key_cmp key s.slot.key ≡ o → cond (is_eq o) (Some s) (spot_of_key ss key) ≡ Some spot → (spot_of_key ss key ≡ Some spot → rows_in (map (at_key g key) ss) ≡ put key_cmp key (row_in (g spot)).1 (rows_in ss)) → rows_in (cond (is_eq o) (g s) s ∷ map (at_key g key) ss)
          ≡ by_order o ((key, (row_in (g spot)).1) ∷ row_in s ∷ rows_in ss) ((s.slot.key, (row_in (g spot)).1) ∷ rows_in ss) (row_in s ∷ put key_cmp key (row_in (g spot)).1 (rows_in ss))
      by_test Less is found rest = no_some (sym (none_under key ss (lesser_below key s.slot.key (rows_in ss) is parts.0)) ∙ found)
      by_test Equal is found rest =
          let same : s ≡ spot = one_some found in
          ap (λ (x : Spot). row_in (g x) ∷ rows_in (map (at_key g key) ss)) same ∙ ap (λ k. (k, (row_in (g spot)).1) ∷ rows_in (map (at_key g key) ss)) (keeps ∙ ap (λ (x : Spot). x.slot.key) (sym same))
          ∙ ap (λ (xs : List Spot). (s.slot.key, (row_in (g spot)).1) ∷ rows_in xs) (lacking_stay g key ss (head_lacks s ss key rise (ap is_eq is)))
      by_test Greater is found rest = ap (λ (rows : List Row). row_in s ∷ rows) (rest found)

  -- and what each of them has
  pub each_changed : (P : Spot → Type 0) (ss : List Spot) → Rise (rows_in ss) → spot_of_key ss key ≡ Some spot → P (g spot) → Each P ss → Each P (map (at_key g key) ss)
  each_changed P [] rise found one each = tt
  each_changed P (s ∷ ss) rise found one each = by_test (same_bytes key s.slot.key) refl found (λ later. each_changed P ss (tail_rises s ss rise) later one each.1)
    where
      by_test : (b : Bool) → same_bytes key s.slot.key ≡ b → cond b (Some s) (spot_of_key ss key) ≡ Some spot → (spot_of_key ss key ≡ Some spot → Each P (map (at_key g key) ss)) → P (cond b (g s) s) × Each P (map (at_key g key) ss)
      by_test true same found rest = (subst (λ (x : Spot). P (g x)) (sym (one_some found)) one, subst (Each P) (sym (lacking_stay g key ss (head_lacks s ss key rise same))) each.1)
      by_test false same found rest = (each.0, rest found)

-- a spot that goes in
module _ (new : Spot) where
  pub rows_entered : (ss : List Spot) → spot_of_key ss new.slot.key ≡ None → rows_in (spots_with new ss) ≡ put key_cmp new.slot.key (row_in new).1 (rows_in ss)
  rows_entered [] none = refl
  rows_entered (s ∷ ss) none = by_test (key_cmp new.slot.key s.slot.key) none (rows_entered ss)
    where
      by_test : (o : Ordering) → cond (is_eq o) (Some s) (spot_of_key ss new.slot.key) ≡ None → (spot_of_key ss new.slot.key ≡ None → rows_in (spots_with new ss) ≡ put key_cmp new.slot.key (row_in new).1 (rows_in ss)) → rows_in (cond (is_lt o) (new ∷ s ∷ ss) (s ∷ spots_with new ss))
          ≡ by_order o (row_in new ∷ row_in s ∷ rows_in ss) ((s.slot.key, (row_in new).1) ∷ rows_in ss) (row_in s ∷ put key_cmp new.slot.key (row_in new).1 (rows_in ss))
      by_test Less none rest = refl
      by_test Equal none rest = no_some (sym none)
      by_test Greater none rest = ap (λ (rows : List Row). row_in s ∷ rows) (rest none)

  pub writes_entered : pending_in new.slot ≡ None → (ss : List Spot) → pending_writes (spots_with new ss) ≡ pending_writes ss
  writes_entered nothing [] = ap (λ o. with_optional_entry new.slot.key o []) nothing
  writes_entered nothing (s ∷ ss) = elim (is_lt (key_cmp new.slot.key s.slot.key)) as (λ b. pending_writes (cond b (new ∷ s ∷ ss) (s ∷ spots_with new ss)) ≡ pending_writes (s ∷ ss)) [
    | true ↦ ap (λ o. with_optional_entry new.slot.key o (pending_writes (s ∷ ss))) nothing
    | false ↦ ap (with_optional_entry s.slot.key (pending_in s.slot)) (writes_entered nothing ss)
  ]

  pub each_entered : (P : Spot → Type 0) → P new → (ss : List Spot) → Each P ss → Each P (spots_with new ss)
  each_entered P one [] each = (one, tt)
  each_entered P one (s ∷ ss) each = elim (is_lt (key_cmp new.slot.key s.slot.key)) as (λ b. Each P (cond b (new ∷ s ∷ ss) (s ∷ spots_with new ss))) [ true ↦ (one, each) | false ↦ (each.0, each_entered P one ss each.1) ]

  pub number_entered : (ss : List Spot) → slot_number_of ss new.slot.key ≡ None → slot_number_of (spots_with new ss) new.slot.key ≡ Some new.slot.number
  number_entered [] none = ap (λ b. cond b (Some new.slot.number) None) (same_self new.slot.key)
  number_entered (s ∷ ss) none = by_test (is_lt (key_cmp new.slot.key s.slot.key)) (same_bytes new.slot.key s.slot.key) refl none (number_entered ss)
    where
      by_test : (b c : Bool) → same_bytes new.slot.key s.slot.key ≡ c → cond c (Some s.slot.number) (slot_number_of ss new.slot.key) ≡ None → (slot_number_of ss new.slot.key ≡ None → slot_number_of (spots_with new ss) new.slot.key ≡ Some new.slot.number) → slot_number_of (cond b (new ∷ s ∷ ss) (s ∷ spots_with new ss)) new.slot.key ≡ Some new.slot.number
      by_test true c is none rest = ap (λ b. cond b (Some new.slot.number) (slot_number_of (s ∷ ss) new.slot.key)) (same_self new.slot.key)
      by_test false true is none rest = no_some (sym none)
      by_test false false is none rest = ap (λ b. cond b (Some s.slot.number) (slot_number_of (spots_with new ss) new.slot.key)) is ∙ rest none

-- what is found if a spot has gone in
pub key_entered : (new : Spot) (ss : List Spot) (q : List ℕ) → spot_of_key ss new.slot.key ≡ None → spot_of_key (spots_with new ss) q ≡ cond (same_bytes q new.slot.key) (Some new) (spot_of_key ss q)
key_entered new [] q none = refl
key_entered new (s ∷ ss) q none = by_test (is_lt (key_cmp new.slot.key s.slot.key)) (same_bytes new.slot.key s.slot.key) refl none (key_entered new ss q)
  where
    passed : (c d : Bool) → same_bytes q s.slot.key ≡ c → same_bytes q new.slot.key ≡ d → same_bytes new.slot.key s.slot.key ≡ false → cond c (Some s) (cond d (Some new) (spot_of_key ss q)) ≡ cond d (Some new) (cond c (Some s) (spot_of_key ss q))
    passed true true here there apart = no (sym apart ∙ ap (λ k. same_bytes k s.slot.key) (sym (one_key q new.slot.key there)) ∙ here)
    passed true false here there apart = refl
    passed false d here there apart = refl

    by_test : (b c : Bool) → same_bytes new.slot.key s.slot.key ≡ c → cond c (Some s) (spot_of_key ss new.slot.key) ≡ None → (spot_of_key ss new.slot.key ≡ None → spot_of_key (spots_with new ss) q ≡ cond (same_bytes q new.slot.key) (Some new) (spot_of_key ss q)) → spot_of_key (cond b (new ∷ s ∷ ss) (s ∷ spots_with new ss)) q ≡ cond (same_bytes q new.slot.key) (Some new) (spot_of_key (s ∷ ss) q)
    by_test b true is none rest = no_some (sym none)
    by_test true false is none rest = refl
    by_test false false is none rest = ap (cond (same_bytes q s.slot.key) (Some s)) (rest none) ∙ passed (same_bytes q s.slot.key) (same_bytes q new.slot.key) refl refl is

-- one change after the other
pub number_twice : (f g : Spot → Spot) → ((s : Spot) → (g s).slot.number ≡ s.slot.number) → (id : ℕ) (ss : List Spot) → map (at_spot f id) (map (at_spot g id) ss) ≡ map (at_spot (λ s. f (g s)) id) ss
number_twice f g keeps id [] = refl
number_twice f g keeps id (s ∷ ss) = grind (arith, nat_tests, number_twice f g keeps id ss, keeps s)

-- a change that is none
pub map_same : (g : Spot → Spot) → ((s : Spot) → g s ≡ s) → (ss : List Spot) → map g ss ≡ ss
map_same g same [] = refl
map_same g same (s ∷ ss) = ap (λ (x : Spot). x ∷ map g ss) (same s) ∙ ap (λ (xs : List Spot). s ∷ xs) (map_same g same ss)

-- writes that stay
pub writes_same : (g : Spot → Spot) → ((s : Spot) → (g s).slot.key ≡ s.slot.key) → ((s : Spot) → pending_in (g s).slot ≡ pending_in s.slot) → (ss : List Spot) → pending_writes (map g ss) ≡ pending_writes ss
writes_same g keys same [] = refl
writes_same g keys same (s ∷ ss) = ap (λ k. with_optional_entry k (pending_in (g s).slot) (pending_writes (map g ss))) (keys s) ∙ ap (λ o. with_optional_entry s.slot.key o (pending_writes (map g ss))) (same s) ∙ ap (with_optional_entry s.slot.key (pending_in s.slot)) (writes_same g keys same ss)

-- a spot that has changed has its number still
pub has_same : (g : Spot → Spot) → ((s : Spot) → (g s).slot.number ≡ s.slot.number) → (id n : ℕ) (ss : List Spot) → has_spot (map (at_spot g id) ss) n ≡ has_spot ss n
has_same g numbers id n [] = refl
has_same g numbers id n (s ∷ ss) =
    ap (λ m. eqb m n || has_spot (map (at_spot g id) ss) n) (elim (eqb s.slot.number id) as (λ b. (cond b (g s) s).slot.number ≡ s.slot.number) [ true ↦ numbers s | false ↦ refl ])
    ∙ ap (λ b. eqb s.slot.number n || b) (has_same g numbers id n ss)
