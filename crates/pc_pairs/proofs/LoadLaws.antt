-- The lines of a database's pairs give the database.
use denote.Bor.{Bor}
use Rattle.std.proofs.Common.{◌≡◌, Option, subst, ℕ, zero, suc, ◌+◌, ◌<◌, arith, get_or, drop, length, true, cond, List, [], ◌∷◌, ◌++◌, map, Some, None, Result, Ok, Err, is_some, refl, sym, ap, ◌∙◌, append_assoc, append-nil}
use Rattle.std.specs.Prelude.{IfOk, IfErr, if◌then◌else◌, IfSome}
use Rattle.std.specs.List.{All}
use Rattle.std.specs.FinMap.{find, is_sorted, put}
use Rattle.std.specs.FinMap.Entries.{below_all, by_order}
use Rattle.std.specs.Ordering.{is_eq, is_lt, ordering_reverse}
use Rattle.std.specs.Global.{Vec}
use Rattle.std.specs.declared.cmp.Ordering.TheVariants.{Greater}
use Rattle.pc_types.specs.declared.limits.TheConstants.{MOST_FILE_ENTRIES}
use Rattle.pc_model.specs.Files.{BaseFile}
use Rattle.pc_model.specs.Maps.{empty, get, insert}
use Rattle.pc_model.specs.Database.{Database, KeysRise, database_of, key_cmp, key_order}
use Rattle.pc_model.proofs.MapLaws.{get-entries}
use Rattle.pc_model.proofs.PlaceLaws.{rest_at}
use Rattle.pc_model.proofs.PairMapLaws.{len_of, same_database, tested}
use Rattle.pc_model.proofs.RisingLaws.{both, is_less}
use Rattle.pc_pairs.specs.Dumps.{pair_line, pair_lines}
use Rattle.pc_pairs.specs.declared.form.Form.{Form}
use Rattle.pc_pairs.specs.Loads.{IsLoaded, IsStorable, IsUnloaded, and_then, database_in, pair_in, with_line, with_lines}
use Rattle.pc_pairs.specs.declared.loading.Unloaded.{Unloaded}
use Rattle.pc_pairs.specs.declared.loading.Unloaded.TheVariants as unloaded
use Rattle.pc_pairs.specs.declared.reading.Fault.{Fault}
use Rattle.pc_pairs.specs.declared.reading.Fault.TheVariants as fault
use Rattle.pc_pairs.proofs.PrintedLines.{first_storable, lines_again, pair_again, rest_storable}

abbrev Pair : Type 0
Pair = List ℕ × List ℕ

-- a key behind all entries of a list that rises with it
behind : (done : List Pair) (pair : Pair) (rest : List Pair) → is_sorted key_cmp (done ++ pair ∷ rest) ≡ true → (find key_cmp pair.0 done ≡ None) × (put key_cmp pair.0 pair.1 done ≡ done ++ pair ∷ [])
behind [] pair rest sorted = (refl, refl)
behind (e ∷ done) pair rest sorted =
    let parts = both (below_all key_cmp e.0 (done ++ pair ∷ rest)) (is_sorted key_cmp (done ++ pair ∷ rest)) sorted in
    let less = is_less (key_cmp e.0 pair.0) (below e.0 done parts.0) in
    let greater : key_cmp pair.0 e.0 ≡ Greater = key_order.total.antisymm pair.0 e.0 ∙ ap ordering_reverse less in
    let later = behind done pair rest parts.1 in (
      ap (λ o. cond (is_eq o) (Some e.1) (find key_cmp pair.0 done)) greater ∙ later.0,
      ap (λ o. by_order o ((pair.0, pair.1) ∷ e ∷ done) ((e.0, pair.1) ∷ done) (e ∷ put key_cmp pair.0 pair.1 done)) greater ∙ ap (λ t. e ∷ t) later.1,
    )
  where
    below : (k : List ℕ) (es : List Pair) → below_all key_cmp k (es ++ pair ∷ rest) ≡ true → is_lt (key_cmp k pair.0) ≡ true
    below k [] all = (both (is_lt (key_cmp k pair.0)) (below_all key_cmp k rest) all).0
    below k (x ∷ es) all = below k es (both (is_lt (key_cmp k x.0)) (below_all key_cmp k (es ++ pair ∷ rest)) all).1

same_by_entries : (m n : Database) → m.entries ≡ n.entries → m ≡ n
same_by_entries m n same = same_database m n (λ q. get-entries m q ∙ ap (find key_cmp q) same ∙ sym (get-entries n q))

inserted : (db : Database) (k v : List ℕ) → (insert db k v).entries ≡ put key_cmp k v db.entries
unfolding insert
inserted db k v = refl

-- each line adds its pair behind those before it
grows : (form : Form) (pairs done : List Pair) (db last : Database) (number : ℕ) → All IsStorable pairs → db.entries ≡ done → last.entries ≡ done ++ pairs → is_sorted key_cmp (done ++ pairs) ≡ true
    → with_lines form db number (map (pair_line form) pairs) ≡ Ok last
grows form [] done db last number all here whole sorted = ap Ok (same_by_entries db last (here ∙ sym (append-nil done) ∙ sym whole))
grows form (pair ∷ pairs) done db last number all here whole sorted =
    let at_end = behind done pair pairs sorted in
    let absent : get db pair.0 ≡ None = get-entries db pair.0 ∙ ap (find key_cmp pair.0) here ∙ at_end.0 in
    let next = insert db pair.0 pair.1 in
    let more : next.entries ≡ done ++ pair ∷ [] = inserted db pair.0 pair.1 ∙ ap (put key_cmp pair.0 pair.1) here ∙ at_end.1 in
    let joined : (done ++ pair ∷ []) ++ pairs ≡ done ++ pair ∷ pairs = append_assoc done (pair ∷ []) pairs in
    ap (λ t. and_then (with_line db number t) (λ after. with_lines form after (number + 1) (map (pair_line form) pairs))) (pair_again form pair (first_storable pair pairs all))
    ∙ ap (λ o. and_then (if is_some o then Err (number, fault.Twice) else Ok next) (λ after. with_lines form after (number + 1) (map (pair_line form) pairs))) absent
    ∙ grows form pairs (done ++ pair ∷ []) next last (number + 1) (rest_storable pair pairs all) more (whole ∙ sym joined) (ap (is_sorted key_cmp) joined ∙ sorted)

empty_entries : (db : Database) → db ≡ empty → db.entries ≡ []
unfolding empty
empty_entries db is = ap (λ (m : Database). m.entries) is

-- the text of a database's pairs gives the database
pub text_again : (form : Form) (db : Database) (text : List ℕ) → All IsStorable db.entries → text ≡ pair_lines form db.entries → database_in form text ≡ Ok db
text_again form db text all is =
    ap (database_in form) is ∙ ap (with_lines form empty 1) (lines_again form db.entries all)
    ∙ grows form db.entries [] empty db 1 all (empty_entries empty refl) refl (tested db.rises)

module _ (form : Form) (db : Database) (text : List ℕ) (again : database_in form text ≡ Ok db) where
  same_ok : (a b : Database) (r : Result Database (ℕ × Fault)) → r ≡ Ok a → r ≡ Ok b → a ≡ b
  same_ok a b r first second = ap value (sym first ∙ second)
    where
      value : Result Database (ℕ × Fault) → Database
      value (Ok d) = d
      value (Err e) = a

  pub loaded_is : (r : Result (Vec Pair) Unloaded) → IfOk r (λ pairs. database_in form text ≡ Ok (database_of pairs.items)) → IfOk r (λ pairs. database_of pairs.items ≡ db)
  loaded_is (Ok pairs) is = same_ok (database_of pairs.items) db (database_in form text) is again
  loaded_is (Err why) is = tt

  pub memory_alone : (r : Result (Vec Pair) Unloaded) → IfErr r (IsUnloaded (database_in form text)) → IfErr r (λ why. why ≡ unloaded.NoMemory)
  memory_alone (Ok pairs) is = tt
  memory_alone (Err (unloaded.Line number why)) is = absurd (let clash : Ok db ≡ Err (number, why) = sym again ∙ is in cc)
  memory_alone (Err unloaded.NoMemory) is = refl

-- Lines one after the other.

at_place : (lines : List (Bor (List ℕ))) (i : ℕ) (d : Bor (List ℕ)) → i < length lines → (get_or lines i d).now ≡ get_or (map (λ l. l.now) lines) i (get_or lines i d).now
at_place [] i d within = absurd (omega arith)
at_place (x ∷ xs) zero d within = refl
at_place (x ∷ xs) (suc i) d within = at_place xs i d (omega arith)

inside : (lines : List (Bor (List ℕ))) (i : ℕ) → i < length lines → i < length (map (λ l. l.now) lines)
inside [] i within = absurd (omega arith)
inside (x ∷ xs) zero within = omega arith
inside (x ∷ xs) (suc i) within = omega (arith, inside xs i (omega arith))

module _ (form : Form) (lines : List (Bor (List ℕ))) (i : ℕ) (d : Bor (List ℕ)) (within : i < length lines) (db : Database) where
  next_line : with_lines form db (i + 1) (drop i (map (λ l. l.now) lines)) ≡ and_then (with_line db (i + 1) (pair_in form (get_or lines i d).now)) (λ after. with_lines form after (i + 1 + 1) (drop (i + 1) (map (λ l. l.now) lines)))
  next_line = ap (with_lines form db (i + 1)) (rest_at (map (λ l. l.now) lines) i (get_or lines i d).now (inside lines i within) (at_place lines i d within))

  pub line_added : (next : Database) (whole : Result Database (ℕ × Fault)) → with_line db (i + 1) (pair_in form (get_or lines i d).now) ≡ Ok next → with_lines form db (i + 1) (drop i (map (λ l. l.now) lines)) ≡ whole
      → with_lines form next (i + 1 + 1) (drop (i + 1) (map (λ l. l.now) lines)) ≡ whole
  line_added next whole is so_far = sym (next_line ∙ ap (λ r. and_then r (λ after. with_lines form after (i + 1 + 1) (drop (i + 1) (map (λ l. l.now) lines)))) is) ∙ so_far

  pub line_faulty : (why : Unloaded) (whole : Result Database (ℕ × Fault)) → IsUnloaded (with_line db (i + 1) (pair_in form (get_or lines i d).now)) why → with_lines form db (i + 1) (drop i (map (λ l. l.now) lines)) ≡ whole → IsUnloaded whole why
  line_faulty (unloaded.Line number why) whole is so_far = sym so_far ∙ next_line ∙ ap (λ r. and_then r (λ after. with_lines form after (i + 1 + 1) (drop (i + 1) (map (λ l. l.now) lines)))) is
  line_faulty unloaded.NoMemory whole is so_far = tt

-- the base of pairs that were loaded, or that they are too many
pub base_made : (run : ℕ) (pairs : List Pair) (made : Result Database (ℕ × Fault)) (r : Option BaseFile) → KeysRise pairs → made ≡ Ok (database_of pairs)
    → IfSome r (λ base. base ≡ record { run = run; point = 0; pairs = database_of pairs }) → (r ≡ None → MOST_FILE_ENTRIES < length pairs) → IsLoaded run made r
base_made run pairs made None rise is some none = (database_of pairs, is, subst (λ n. MOST_FILE_ENTRIES < n) (len_of pairs rise) (none refl))
base_made run pairs made (Some base) rise is some none =
    (ap (λ (b : BaseFile). b.run) some, ap (λ (b : BaseFile). b.point) some, is ∙ ap Ok (sym (ap (λ (b : BaseFile). b.pairs) some)))
