-- Rows that ascend by key, looked up by key and by slot.
use Rattle.std.proofs.Common.{◌≡◌, ℕ, ◌==◌, List, [], ◌∷◌, map, filter, Option, Some, None, option_map, is_some, Bool, true, false, cond, not, refl, sym, ap, ◌∙◌}
use Rattle.std.specs.FinMap.{find, put, is_sorted}
use Rattle.std.specs.FinMap.Entries.{below_all, find-put, is_sorted-put, same_entries}
use Rattle.std.specs.Ordering.{is_lt}
use Rattle.std.proofs.lemmas.Bool.{eqb-true, eq-eqb}
use Rattle.std.proofs.lemmas.Cmp.{eq_by_cmp_equiv}
use Rattle.pc_model.specs.Database.{KeysRise, key_cmp, key_order, same_bytes}
use Rattle.pc_model.proofs.JoinLaws.{one_key}
use Rattle.pc_model.proofs.MapLaws.{find-without}
use Rattle.pc_model.proofs.PairMapLaws.{computes, tested}
use Rattle.pc_model.proofs.RisingLaws.{both, and_of, none_below, Below, Rise}
use Rattle.pc_table.specs.Rows.{TableRow, Contents, slot_of, in_slot, with_record_in, with_record, with_row, without_slot, HasRow, AreInSlots}

pub own_key : (key : List ℕ) → same_bytes key key ≡ true
own_key key = (eq_by_cmp_equiv key_order.total).refl key

-- ascending entries that are found alike are the same
pub same_rows : {X : Type 0} (es fs : List (List ℕ × X)) → Rise es → Rise fs → ((q : List ℕ) → find key_cmp q es ≡ find key_cmp q fs) → es ≡ fs
same_rows es fs r s e = same_entries key_cmp key_order.total key_order.exact es fs (computes r) (computes s) e

-- entries of which the values are mapped
module _ {X : Type 0} (f : List ℕ × X → List ℕ × X) (kept : (e : List ℕ × X) → (f e).0 ≡ e.0) where
  below_mapped : (key : List ℕ) (es : List (List ℕ × X)) → Below key es → Below key (map f es)
  below_mapped key [] b = refl
  below_mapped key (e ∷ es) b =
      let h = both (is_lt (key_cmp key e.0)) (below_all key_cmp key es) b in
      and_of (is_lt (key_cmp key (f e).0)) (below_all key_cmp key (map f es)) (ap (λ k. is_lt (key_cmp key k)) (kept e) ∙ h.0) (below_mapped key es h.1)

  pub rise_mapped : (es : List (List ℕ × X)) → Rise es → Rise (map f es)
  rise_mapped [] r = refl
  rise_mapped (e ∷ es) r =
      let h = both (below_all key_cmp e.0 es) (is_sorted key_cmp es) r in
      and_of (below_all key_cmp (f e).0 (map f es)) (is_sorted key_cmp (map f es)) (ap (λ k. below_all key_cmp k (map f es)) (kept e) ∙ below_mapped e.0 es h.0) (rise_mapped es h.1)

-- entries of which those that pass are left
module _ {X : Type 0} (test : List ℕ × X → Bool) where
  below_filtered : (key : List ℕ) (es : List (List ℕ × X)) → Below key es → Below key (filter test es)
  below_filtered key [] b = refl
  below_filtered key (e ∷ es) b = let h = both (is_lt (key_cmp key e.0)) (below_all key_cmp key es) b in by (test e) h.0 (below_filtered key es h.1)
    where
      by : (t : Bool) → is_lt (key_cmp key e.0) ≡ true → Below key (filter test es) → Below key (cond t (e ∷ filter test es) (filter test es))
      by true less rest = and_of (is_lt (key_cmp key e.0)) (below_all key_cmp key (filter test es)) less rest
      by false less rest = rest

  pub rise_filtered : (es : List (List ℕ × X)) → Rise es → Rise (filter test es)
  rise_filtered [] r = refl
  rise_filtered (e ∷ es) r = let h = both (below_all key_cmp e.0 es) (is_sorted key_cmp es) r in by (test e) (below_filtered e.0 es h.0) (rise_filtered es h.1)
    where
      by : (t : Bool) → Below e.0 (filter test es) → Rise (filter test es) → Rise (cond t (e ∷ filter test es) (filter test es))
      by true below rest = and_of (below_all key_cmp e.0 (filter test es)) (is_sorted key_cmp (filter test es)) below rest
      by false below rest = rest

  -- what is found and passes
  abbrev pub passing : List ℕ → Option X → Option X
  passing key None = None
  passing key (Some x) = cond (test (key, x)) (Some x) None

  pub find_filtered : (key : List ℕ) (es : List (List ℕ × X)) → Rise es → find key_cmp key (filter test es) ≡ passing key (find key_cmp key es)
  find_filtered key [] r = refl
  find_filtered key (e ∷ es) r =
      let h = both (below_all key_cmp e.0 es) (is_sorted key_cmp es) r in
      by (same_bytes key e.0) (test e) refl refl (none_below e.0 es h.0) (find_filtered key es h.1)
    where
      tested_key : (t : Bool) → same_bytes key e.0 ≡ true → test e ≡ t → passing key (Some e.1) ≡ cond t (Some e.1) None
      tested_key t s f = ap (λ k. cond (test (k, e.1)) (Some e.1) None) (one_key key e.0 s) ∙ ap (λ b. cond b (Some e.1) None) f

      by : (s t : Bool) → same_bytes key e.0 ≡ s → test e ≡ t → find key_cmp e.0 es ≡ None → find key_cmp key (filter test es) ≡ passing key (find key_cmp key es) →
          find key_cmp key (cond t (e ∷ filter test es) (filter test es)) ≡ passing key (cond s (Some e.1) (find key_cmp key es))
      by true true s t none rest = ap (λ b. cond b (Some e.1) (find key_cmp key (filter test es))) s ∙ sym (tested_key true s t)
      by true false s t none rest = rest ∙ (ap (passing key) (ap (λ k. find key_cmp k es) (one_key key e.0 s) ∙ none) ∙ sym (tested_key false s t))
      by false true s t none rest = ap (λ b. cond b (Some e.1) (find key_cmp key (filter test es))) s ∙ rest
      by false false s t none rest = rest

pub no_row : {A : Type 0} {x : A} → None ≡ Some x → ⊥
no_row e = cc

pub same_some : {A : Type 0} {x y : A} → Some x ≡ Some y → x ≡ y
same_some e = cc

abbrev slot_in : {T : Type 0} → ℕ → Option (ℕ × T) → ℕ
slot_in id None = id
slot_in id (Some p) = p.0

module _ {T : Type 0} where
  -- what is found in a slot is found by its key
  pub slot_found : (rows : List (TableRow T)) (id : ℕ) (key : List ℕ) (x : T) → Rise rows → in_slot rows id ≡ Some (key, x) → find key_cmp key rows ≡ Some (id, x)
  slot_found [] id key x r e = absurd (no_row e)
  slot_found (row ∷ rows) id key x r e =
      let h = both (below_all key_cmp row.0 rows) (is_sorted key_cmp rows) r in
      by (row.1.0 == id) refl (none_below row.0 rows h.0) (slot_found rows id key x h.1) e
    where
      here : row.1.0 ≡ id → row.0 ≡ key → row.1.1 ≡ x → find key_cmp key (row ∷ rows) ≡ Some (id, x)
      here a b c = ap (λ k. find key_cmp k (row ∷ rows)) (sym b) ∙ (ap (λ t. cond t (Some row.1) (find key_cmp row.0 rows)) (own_key row.0) ∙ (λ i. Some (a i, c i)))

      later : (s : Bool) → same_bytes key row.0 ≡ s → find key_cmp row.0 rows ≡ None → find key_cmp key rows ≡ Some (id, x) → cond s (Some row.1) (find key_cmp key rows) ≡ Some (id, x)
      later true s none f = absurd (no_row (sym (ap (λ k. find key_cmp k rows) (one_key key row.0 s) ∙ none) ∙ f))
      later false s none f = f

      by : (t : Bool) → (row.1.0 == id) ≡ t → find key_cmp row.0 rows ≡ None → (in_slot rows id ≡ Some (key, x) → find key_cmp key rows ≡ Some (id, x)) →
          cond t (Some (row.0, row.1.1)) (in_slot rows id) ≡ Some (key, x) → find key_cmp key (row ∷ rows) ≡ Some (id, x)
      by true t none rest e = let p = same_some e in here (eqb-true row.1.0 id t) (ap (λ (p : List ℕ × T). p.0) p) (ap (λ (p : List ℕ × T). p.1) p)
      by false t none rest e = later (same_bytes key row.0) refl none (rest e)

  -- a slot that is found by a key has a row
  pub found_has : (rows : List (TableRow T)) (id : ℕ) (key : List ℕ) (x : T) → find key_cmp key rows ≡ Some (id, x) → HasRow rows id
  found_has [] id key x e = absurd (no_row e)
  found_has (row ∷ rows) id key x e = by (row.1.0 == id) (same_bytes key row.0) refl (found_has rows id key x) e
    where
      by : (t s : Bool) → (row.1.0 == id) ≡ t → (find key_cmp key rows ≡ Some (id, x) → HasRow rows id) → cond s (Some row.1) (find key_cmp key rows) ≡ Some (id, x) →
          is_some (cond t (Some (row.0, row.1.1)) (in_slot rows id)) ≡ true
      by true s t rest e = refl
      by false true t rest e = absurd (let g : (row.1.0 == id) ≡ true = eq-eqb row.1.0 id (ap (slot_in id) e) in cc)
      by false false t rest e = rest e

  -- a slot that a key has, with its record
  pub placed : (rows : List (TableRow T)) (key : List ℕ) (id : ℕ) → slot_of rows key ≡ Some id → (x : T) × (find key_cmp key rows ≡ Some (id, x))
  placed rows key id s = by (find key_cmp key rows) refl s
    where
      by : (o : Option (ℕ × T)) → find key_cmp key rows ≡ o → option_map (λ place. place.0) o ≡ Some id → (x : T) × (find key_cmp key rows ≡ Some (id, x))
      by None e s = absurd (no_row s)
      by (Some p) e s = (p.1, e ∙ ap (λ i. Some (i, p.1)) (same_some s))

  -- a key's slot has a row
  pub slot_has : (rows : List (TableRow T)) (key : List ℕ) (id : ℕ) → slot_of rows key ≡ Some id → HasRow rows id
  slot_has rows key id s = let h = placed rows key id s in found_has rows id key h.0 h.1

  -- two keys have two slots
  pub one_place : (table : Contents T) (key other : List ℕ) (id : ℕ) (x y : T) → AreInSlots table → find key_cmp key table.rows ≡ Some (id, x) → find key_cmp other table.rows ≡ Some (id, y) → key ≡ other
  one_place table key other id x y a e f = ap (λ (p : List ℕ × T). p.0) (same_some (sym ((a.each id key x).1 e) ∙ (a.each id other y).1 f))

  -- a row that is put
  pub rise_put : (rows : List (TableRow T)) (key : List ℕ) (place : ℕ × T) → Rise rows → Rise (put key_cmp key place rows)
  rise_put rows key place r = tested (is_sorted-put key_cmp key_order.total key place rows (computes r))

  -- of two rows of one key that are put the second stays
  pub put_again : (table : Contents T) (key : List ℕ) (id other : ℕ) (x y : T) → KeysRise table.rows → with_row (with_row table key id x) key other y ≡ with_row table key other y
  put_again table key id other x y r =
      let once = put key_cmp key (id, x) table.rows in
      ap (λ (rows : List (TableRow T)). record table { rows = rows })
      (same_rows (put key_cmp key (other, y) once) (put key_cmp key (other, y) table.rows) (rise_put once key (other, y) (rise_put table.rows key (id, x) r)) (rise_put table.rows key (other, y) r)
      (λ q. find-put key_cmp key_order.total q key (other, y) once
      ∙ (ap (cond (same_bytes q key) (Some (other, y))) (find-put key_cmp key_order.total q key (id, x) table.rows)
      ∙ (hidden (same_bytes q key) (find key_cmp q table.rows) ∙ sym (find-put key_cmp key_order.total q key (other, y) table.rows)))))
    where
      hidden : (b : Bool) (o : Option (ℕ × T)) → cond b (Some (other, y)) (cond b (Some (id, x)) o) ≡ cond b (Some (other, y)) o
      hidden true o = refl
      hidden false o = refl

  -- the record in a slot, if the slot has another one
  abbrev in_place : ℕ → T → ℕ × T → ℕ × T
  in_place id x place = (place.0, cond (place.0 == id) x place.1)

  find_recorded : (id : ℕ) (x : T) (key : List ℕ) (rows : List (TableRow T)) → find key_cmp key (map (with_record_in id x) rows) ≡ option_map (in_place id x) (find key_cmp key rows)
  find_recorded id x key [] = refl
  find_recorded id x key (row ∷ rows) = by (same_bytes key row.0) (find_recorded id x key rows)
    where
      by : (t : Bool) → find key_cmp key (map (with_record_in id x) rows) ≡ option_map (in_place id x) (find key_cmp key rows) →
          cond t (Some (in_place id x row.1)) (find key_cmp key (map (with_record_in id x) rows)) ≡ option_map (in_place id x) (cond t (Some row.1) (find key_cmp key rows))
      by true rest = refl
      by false rest = rest

  module _ (table : Contents T) (key : List ℕ) (id : ℕ) (a : AreInSlots table) (s : slot_of table.rows key ≡ Some id) where
    -- a place that is found is the slot if and only if it is found of the key
    pub place_key : (q : List ℕ) (p : ℕ × T) → find key_cmp q table.rows ≡ Some p → (p.0 == id) ≡ same_bytes q key
    place_key q p e = by (p.0 == id) (same_bytes q key) refl refl
      where
        by : (t b : Bool) → (p.0 == id) ≡ t → same_bytes q key ≡ b → t ≡ b
        by true true t b = refl
        by false false t b = refl
        by true false t b =
            let h = placed table.rows key id s in
            let k : q ≡ key = one_place table q key id p.1 h.0 a (e ∙ ap (λ i. Some (i, p.1)) (eqb-true p.0 id t)) h.1 in
            let g : same_bytes q key ≡ true = ap (λ l. same_bytes l key) k ∙ own_key key in
            sym g ∙ b
        by false true t b =
            let h = placed table.rows key id s in
            let k : q ≡ key = one_key q key b in
            let i : p.0 ≡ id = ap (λ (p : ℕ × T). p.0) (same_some (sym e ∙ (ap (λ l. find key_cmp l table.rows) k ∙ h.1))) in
            sym t ∙ eq-eqb p.0 id i

    -- to change the record in the key's slot is to put the row of the key
    pub record_put : (x : T) → with_record table id x ≡ with_row table key id x
    record_put x =
        ap (λ (rows : List (TableRow T)). record table { rows = rows })
        (same_rows (map (with_record_in id x) table.rows) (put key_cmp key (id, x) table.rows) (rise_mapped (with_record_in id x) (λ row. refl) table.rows a.rise) (rise_put table.rows key (id, x) a.rise)
        (λ q. find_recorded id x q table.rows ∙ (alike q (same_bytes q key) (find key_cmp q table.rows) refl refl ∙ sym (find-put key_cmp key_order.total q key (id, x) table.rows))))
      where
        alike : (q : List ℕ) (b : Bool) (o : Option (ℕ × T)) → same_bytes q key ≡ b → find key_cmp q table.rows ≡ o → option_map (in_place id x) o ≡ cond b (Some (id, x)) o
        alike q true o b e =
            let h = placed table.rows key id s in
            ap (option_map (in_place id x)) (sym e ∙ (ap (λ l. find key_cmp l table.rows) (one_key q key b) ∙ h.1)) ∙ ap (λ t. Some (id, cond t x h.0)) (eq-eqb id id refl)
        alike q false None b e = refl
        alike q false (Some p) b e = ap (λ t. Some (p.0, cond t x p.1)) (place_key q p e ∙ b)

    find_left : (q : List ℕ) → find key_cmp q (without_slot table id).rows ≡ cond (same_bytes q key) None (find key_cmp q table.rows)
    find_left q = find_filtered (λ row. not (row.1.0 == id)) q table.rows a.rise ∙ by (find key_cmp q table.rows) refl
      where
        turned : (b : Bool) (p : ℕ × T) → cond (not b) (Some p) None ≡ cond b None (Some p)
        turned true p = refl
        turned false p = refl

        none : (b : Bool) → ◌≡◌ {A = Option (ℕ × T)} None (cond b None None)
        none true = refl
        none false = refl

        by : (o : Option (ℕ × T)) → find key_cmp q table.rows ≡ o → passing (λ row. not (row.1.0 == id)) q o ≡ cond (same_bytes q key) None o
        by None e = none (same_bytes q key)
        by (Some p) e = ap (λ t. cond (not t) (Some p) None) (place_key q p e) ∙ turned (same_bytes q key) p

    -- to take away the row in the key's slot is to leave the rows of the other keys
    pub removed_key : (without_slot table id).rows ≡ filter (λ row. not (same_bytes key row.0)) table.rows
    removed_key =
        same_rows (without_slot table id).rows (filter (λ row. not (same_bytes key row.0)) table.rows) (rise_filtered (λ row. not (row.1.0 == id)) table.rows a.rise) (rise_filtered (λ row. not (same_bytes key row.0)) table.rows a.rise)
        (λ q. find_left q ∙ sym (find-without key_order key q table.rows))

    -- the record in the key's slot is found of the key
    pub record_found : (x : T) → option_map (λ pair. pair.1) (in_slot table.rows id) ≡ Some x → find key_cmp key table.rows ≡ Some (id, x)
    record_found x e =
        let h = placed table.rows key id s in
        h.1 ∙ ap (λ y. Some (id, y)) (same_some (sym (ap (option_map (λ (pair : List ℕ × T). pair.1)) ((a.each id key h.0).1 h.1)) ∙ e))

    -- and the slot's key is that key
    pub key_found : (other : List ℕ) → option_map (λ pair. pair.0) (in_slot table.rows id) ≡ Some other → other ≡ key
    key_found other e =
        let h = placed table.rows key id s in
        same_some (sym e ∙ ap (option_map (λ (pair : List ℕ × T). pair.0)) ((a.each id key h.0).1 h.1))
