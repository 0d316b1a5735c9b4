-- A record that leaves its chain and then its slot.
use Rattle.std.proofs.Common.{◌≡◌, ◌≢◌, ℕ, ◌<◌, ◌≤◌, inl, inr, List, [], ◌∷◌, ◌++◌, length, set, Option, Some, None, option_map, is_some, sym, ◌∙◌, ap, subst, arith, length-set}
use Rattle.std.proofs.lemmas.Bool.{cases_eq}
use Rattle.std.proofs.lemmas.Option.{none-some}
use Rattle.pc_chain.specs.declared.stack.Stack.{Stack}
use Rattle.pc_chain.specs.Chains.{Avoids, AreDisjoint, AllHave, Leads}
use Rattle.pc_chain.specs.Stacks.{IsStack}
use Rattle.pc_chain.proofs.ChainLaws.{have_still, have_both, have_without, avoids_all, leads_still, once}
use Rattle.pc_chain.specs.Slots.{Slots, at, IsTaken}
use Rattle.pc_chain.proofs.SlotLaws.{at_here, at_other, taken_below}
use Rattle.pc_index.specs.Indexes.{IndexView, bucket_of, chain_at, IsIndex}
use Rattle.pc_index.specs.Keys.{key_at, IsAbsent, IsSlotOf}
use Rattle.pc_index.proofs.Places.{changed, with_chain, place_same, each_place, each_list, elsewhere, places_apart, one_key, IsPlaced}
use Rattle.pc_index.proofs.IndexLaws.{slot_kept}
use Rattle.pc_index.proofs.Finding.{chain_short}

-- an id that isn't avoided is there
pub stands : (id : ℕ) (xs : List ℕ) → (Avoids id xs → ⊥) → (before rest : List ℕ) × (xs ≡ before ++ id ∷ rest)
stands id [] f = absurd (f tt)
stands id (x ∷ xs) f = elim (cases_eq x id) [
  | inl e ↦ ([], xs, ap (λ (y : ℕ). y ∷ xs) e)
  | inr n ↦ let h = stands id xs (λ a. f (n, a)) in (x ∷ h.0, h.1, ap (λ (ys : List ℕ). x ∷ ys) h.2)
]

avoids_with : (y id : ℕ) (before rest : List ℕ) → y ≢ id → Avoids y (before ++ rest) → Avoids y (before ++ id ∷ rest)
avoids_with y id [] rest n a = ((λ e. n (sym e)), a)
avoids_with y id (x ∷ xs) rest n a = (a.0, avoids_with y id xs rest n a.1)

module _ {T : Type 0} (key_of : T → List ℕ) where
  -- the chain of the slot's key, and the place of the slot in it
  pub record Standing (old : Slots T) (table : IndexView) (i : IsIndex key_of old table) (id : ℕ) (item : T) (chain : Stack ℕ) : Type 0 where
    pub taken : at old.items id ≡ Some item
    pub place_in : bucket_of table (key_of item) < length table.chains
    pub before : List ℕ
    pub rest : List ℕ
    pub split : i.ids (bucket_of table (key_of item)) ≡ before ++ id ∷ rest
    pub line : IsStack (IsTaken old.items) (at old.links) chain (before ++ id ∷ rest)
    pub short : length (before ++ id ∷ rest) ≤ length old.items

  pub standing : (old : Slots T) (table : IndexView) (i : IsIndex key_of old table) (id : ℕ) (item : T) (chain : Stack ℕ) → at old.items id ≡ Some item → bucket_of table (key_of item) < length table.chains →
      chain ≡ chain_at table (bucket_of table (key_of item)) → Standing old table i id item chain
  standing old table i id item chain t w e =
      let p : ℕ = bucket_of table (key_of item) in
      let s = stands id (i.ids p) (i.all id (key_of item) (ap (option_map key_of) t)) in
      record {
        taken = t;
        place_in = w;
        before = s.0;
        rest = s.1;
        split = s.2;
        line = subst (λ (c : Stack ℕ). IsStack (IsTaken old.items) (at old.links) c (s.0 ++ id ∷ s.1)) (sym e) (subst (IsStack (IsTaken old.items) (at old.links) (chain_at table p)) s.2 (i.chains p w));
        short = subst (λ (ys : List ℕ). length ys ≤ length old.items) s.2 (chain_short key_of old table i p w);
      }

  -- chains of other places have nothing in common with it
  pub others_apart : (old : Slots T) (table : IndexView) (i : IsIndex key_of old table) (id : ℕ) (item : T) (chain : Stack ℕ) (s : Standing old table i id item chain) (b : ℕ) → b < length table.chains → b ≢ bucket_of table (key_of item) →
      AreDisjoint (s.before ++ id ∷ s.rest) (i.ids b)
  others_apart old table i id item chain s b w n = subst (λ (ys : List ℕ). AreDisjoint ys (i.ids b)) s.split (places_apart key_of old table i (bucket_of table (key_of item)) b s.place_in w n)

  -- what the slot leaves: its chain without it, and no record
  pub record Removed (old mid new : Slots T) (table : IndexView) (i : IsIndex key_of old table) (id : ℕ) (item : T) (chain left : Stack ℕ) (s : Standing old table i id item chain) : Type 0 where
    pub list : IsStack (IsTaken mid.items) (at mid.links) left (s.before ++ s.rest)
    pub others : (b : ℕ) → b < length table.chains → b ≢ bucket_of table (key_of item) → IsStack (IsTaken mid.items) (at mid.links) (chain_at table b) (i.ids b)
    pub same : mid.items ≡ old.items
    pub items : new.items ≡ set mid.items id None
    pub links : (y : ℕ) → y ≢ id → IsTaken mid.items y → at new.links y ≡ at mid.links y

  -- no record has the key of one that left its slot
  pub key_gone : (old : List (Option T)) (id : ℕ) (item : T) (new : List (Option T)) → at old id ≡ Some item → new ≡ set old id None → (y : ℕ) (k : List ℕ) → key_at key_of new y ≡ Some k → (y ≢ id) × (key_at key_of old y ≡ Some k)
  key_gone old id item new t n y k e =
      let e' : key_at key_of (set old id None) y ≡ Some k = sym (ap (λ (is : List (Option T)). key_at key_of is y) n) ∙ e in
      let d : y ≢ id = λ s. none-some _ (sym (ap (option_map key_of) (ap (at (set old id None)) s ∙ at_here old id None (taken_below old id (ap is_some t)))) ∙ e') in
      (d, sym (ap (option_map key_of) (at_other old id y None d)) ∙ e')

  pub absent_removed : (old new : Slots T) (table : IndexView) (id : ℕ) (item : T) → IsIndex key_of old table → at old.items id ≡ Some item → new.items ≡ set old.items id None → IsAbsent key_of new.items (key_of item)
  absent_removed old new table id item i t n = λ y e. let h = key_gone old.items id item new.items t n y (key_of item) e in h.0 (i.distinct y id (key_of item) h.1 (ap (option_map key_of) t))

  -- and every other key keeps its slot
  pub slot_removed : (items : List (Option T)) (id : ℕ) (item : T) (key : List ℕ) (found : Option ℕ) → at items id ≡ Some item → key_of item ≢ key → IsSlotOf key_of items key found → IsSlotOf key_of (set items id None) key found
  slot_removed items id item key found t n s =
      slot_kept key_of items id None key found (taken_below items id (ap is_some t)) (λ e. n (one_key (key_of item) key (key_at key_of items id) (ap (option_map key_of) t) e)) (none-some key) s

  module _ (old mid new : Slots T) (table : IndexView) (i : IsIndex key_of old table) (id : ℕ) (item : T) (chain left : Stack ℕ) (s : Standing old table i id item chain) (m : Removed old mid new table i id item chain left s) where
    abbrev place : ℕ
    place = bucket_of table (key_of item)

    abbrev list : List ℕ
    list = s.before ++ s.rest

    abbrev new_table : IndexView
    new_table = with_chain table place left

    gone : (y : ℕ) (k : List ℕ) → key_at key_of new.items y ≡ Some k → (y ≢ id) × (key_at key_of old.items y ≡ Some k)
    gone y k e = key_gone old.items id item new.items s.taken (m.items ∙ ap (λ (is : List (Option T)). set is id None) m.same) y k e

    -- a chain that the slot isn't in stays
    line_left : (c : Stack ℕ) (ys : List ℕ) → Avoids id ys → IsStack (IsTaken mid.items) (at mid.links) c ys → IsStack (IsTaken new.items) (at new.links) c ys
    line_left c ys a l =
        let apart : AllHave (λ y. y ≢ id) ys = avoids_all id ys a in
        record {
          first = l.first;
          leads = leads_still (at mid.links) (at new.links) ys (have_both (λ y. y ≢ id) (IsTaken mid.items) (λ y. at new.links y ≡ at mid.links y) ys m.links apart l.held) l.leads;
          held = have_both (λ y. y ≢ id) (IsTaken mid.items) (IsTaken new.items) ys (λ y n t. ap (λ (is : List (Option T)). is_some (at is y)) m.items ∙ (ap is_some (at_other mid.items id y None n) ∙ t)) apart l.held;
        }

    avoids_list : Avoids id list
    avoids_list = once (at old.links) id s.before s.rest (subst (Leads (at old.links)) s.split (i.chains place s.place_in).leads)

    chains : (b : ℕ) → b < length table.chains → IsStack (IsTaken new.items) (at new.links) (chain_at new_table b) (changed i.ids place list b)
    chains = each_place (IsStack (IsTaken new.items) (at new.links)) table i.ids place left list s.place_in (line_left left list avoids_list m.list)
        (λ b w n. line_left (chain_at table b) (i.ids b) (elsewhere key_of old table i b id (key_of item) w (ap (option_map key_of) s.taken) n) (m.others b w n))

    still_placed : (b : ℕ) (ys : List ℕ) → AllHave (IsPlaced key_of old.items table b) ys → AllHave (IsPlaced key_of new.items new_table b) ys
    still_placed b = have_still (IsPlaced key_of old.items table b) (IsPlaced key_of new.items new_table b) (λ y h k e. place_same table place left k ∙ h k (gone y k e).1)

    placed : (b : ℕ) → b < length table.chains → AllHave (IsPlaced key_of new.items new_table b) (changed i.ids place list b)
    placed = each_list (λ b ys. b < length table.chains → AllHave (IsPlaced key_of new.items new_table b) ys) i.ids place list
        (λ w. still_placed place list (have_without (IsPlaced key_of old.items table place) id s.before s.rest (subst (AllHave (IsPlaced key_of old.items table place)) s.split (i.placed place w))))
        (λ b w. still_placed b (i.ids b) (i.placed b w))

    all : (y : ℕ) (k : List ℕ) → key_at key_of new.items y ≡ Some k → Avoids y (changed i.ids place list (bucket_of new_table k)) → ⊥
    all y k e a = i.all y k (gone y k e).1 (more (bucket_of table k) (subst (λ (q : ℕ). Avoids y (changed i.ids place list q)) (place_same table place left k) a))
      where
        more : (q : ℕ) → Avoids y (changed i.ids place list q) → Avoids y (i.ids q)
        more = each_list (λ q ys. Avoids y ys → Avoids y (i.ids q)) i.ids place list (λ a. subst (Avoids y) (sym s.split) (avoids_with y id s.before s.rest (gone y k e).0 a)) (λ q a. a)

    pub index_removed : IsIndex key_of new (with_chain table (bucket_of table (key_of item)) left)
    index_removed =
        let n : length new_table.chains ≡ length table.chains = length-set table.chains place left in
        record {
          ids = changed i.ids place list;
          chains = λ b w. chains b (omega (arith, w, n));
          placed = λ b w. placed b (omega (arith, w, n));
          all = all;
          distinct = λ y z k e f. i.distinct y z k (gone y k e).1 (gone z k f).1;
        }
