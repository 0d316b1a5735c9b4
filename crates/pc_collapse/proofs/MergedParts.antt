-- The merge of parts of one run represents them; and why it is refused.
use Rattle.std.proofs.Common.{◌≡◌, ℕ, ◌<◌, ◌≤◌, eqb, ◌||◌, not, Bool, true, false, cond, List, [], ◌∷◌, ◌++◌, length, map, take, drop, get_or, slice_get, Option, Some, None, Result, Ok, Err, inl, inr, ⊎_elim, refl, sym, ap, ◌∙◌, subst, arith}
use Rattle.std.specs.List.{All, Contains}
use Rattle.std.specs.Prelude.{IsTrue, IfOk, MatchResult}
use Rattle.std.specs.Ordering.{is_eq, is_lt}
use Rattle.std.specs.FinMap.{find, is_sorted}
use Rattle.std.specs.FinMap.Entries.{below_all}
use Rattle.std.specs.Cmp.{tied_itself}
use Rattle.std.proofs.lemmas.Bool.Decides.{nat_tests}
use Rattle.std.proofs.lemmas.List.{length-map}
use Rattle.std.proofs.lemmas.List.Elements.{All-contains, All-cons, All-head, All-nil, All-tail}
use Rattle.pc_types.specs.declared.Refusal.{Refusal}
use Rattle.pc_types.specs.declared.Refusal.TheVariants.{Device}
use Rattle.pc_types.specs.declared.limits.TheConstants.{MOST_FILE_ENTRIES}
use Rattle.pc_types.specs.declared.Triple.{Triple}
use Rattle.pc_model.specs.Database.{key_cmp, key_order, same_bytes, KeysRise}
use Rattle.pc_model.specs.Files.{File}
use Rattle.pc_model.specs.Maps.{get, len}
use Rattle.pc_model.specs.Points.{AtPoint, Triples}
use Rattle.pc_model.specs.Sets as set
use Rattle.pc_model.specs.Sets.{Set, number_order}
use Rattle.pc_model.specs.TripleLists.{entry_of, map_entries, triples_of}
use Rattle.pc_model.proofs.ContentLaws.{contains-union}
use Rattle.pc_model.proofs.JoinLaws.{get-joined, one_key}
use Rattle.pc_model.proofs.MapLaws.{get-empty, get-entries, get-from_list}
use Rattle.pc_model.proofs.PairMapLaws.{tested}
use Rattle.pc_model.proofs.PairMapLaws as pair_maps
use Rattle.pc_model.proofs.RisingLaws.{and_of, both, lesser_below, none_below}
use Rattle.pc_part.specs.Parts.{AreCovered}
use Rattle.pc_merge.specs.Coming.{Coming}
use Rattle.pc_merge.specs.Given.{HasGiven, HasTooMany, IsCauseOfAll, IsMerge, IsUnder, IsUnderAt, joined_all}
use Rattle.pc_merge.specs.Inputs.{all_known}
use Rattle.pc_merge.specs.Standings.{AllStand}
use Rattle.pc_merge.specs.Merging.{HasFault, HasNoOrder, HaveConflict, IsBelow, all_behind, input_after_key, entries_behind, first_to_come, firsts_of}
use Rattle.pc_merge.specs.Folds.{NoneConflict, folded, has_other_run, IsFoldCause}
use Rattle.pc_collapse.specs.declared.merging.PartEntries.{PartEntries}
use Rattle.pc_collapse.specs.Merges.{AreAllPoints, IsCovered, entries_coming, entries_of_file, entries_standing, entries_within, file_coming, file_entries}
use Rattle.pc_collapse.specs.Worth.{Fact, FactHolds, Among, MustStay, AreFactsGiven, AreWorth, AreOfOneRun, IsCauseFor}
use Rattle.pc_collapse.specs.Worth.Fact.{HasTriple, HasPoint, HasRun}
use Rattle.pc_collapse.proofs.FactLists.{among_back, among_file, among_front, among_split, file_among, sound_halves}
use Rattle.pc_collapse.proofs.FoldedFiles.{full_by, given_run}
use Rattle.pc_collapse.proofs.JoinedFacts.{later_from, or_from, or_left, or_right}
use Rattle.pc_collapse.proofs.KeyConflicts.{one_triple}
use Rattle.pc_collapse.proofs.Members.{contains_cases, contains_first, contains_more, mapped_has, mapped_of}
use Rattle.pc_collapse.proofs.PartEntries.{are_within, at_key, file_rises, file_triples, known, no_device}

-- ---- entries of lists that ascend

abbrev at_point : Triple → AtPoint
at_point entry = (entry_of entry).1

find_first : (e : List ℕ × AtPoint) (es : List (List ℕ × AtPoint)) → find key_cmp e.0 (e ∷ es) ≡ Some e.1
find_first e es = ap (λ o. cond (is_eq o) (Some e.1) (find key_cmp e.0 es)) (tied_itself key_order.total e.0)

-- an entry is found at its key
found_at : (m : List (List ℕ × AtPoint)) → KeysRise m → (t : Triple) → Contains (map at_key m) t → find key_cmp t.key m ≡ Some (at_point t)
found_at [] rise t there = absurd (let within = there.1 in omega arith)
found_at (e ∷ m) rise t there = ⊎_elim (λ (is : at_key e ≡ t). subst (λ (u : Triple). find key_cmp u.key (e ∷ m) ≡ Some (at_point u)) is (find_first e m)) (λ rest. behind_first (found_at m parts.1 t rest)) (contains_cases (at_key e) (map at_key m) t there)
  where
    parts : (below_all key_cmp e.0 m ≡ true) × (is_sorted key_cmp m ≡ true)
    parts = both (below_all key_cmp e.0 m) (is_sorted key_cmp m) rise

    behind_first : find key_cmp t.key m ≡ Some (at_point t) → find key_cmp t.key (e ∷ m) ≡ Some (at_point t)
    behind_first found = by (same_bytes t.key e.0) refl
      where
        by : (b : Bool) → same_bytes t.key e.0 ≡ b → cond b (Some e.1) (find key_cmp t.key m) ≡ Some (at_point t)
        by true same = let bad : None ≡ Some (at_point t) = sym (none_below e.0 m parts.0) ∙ ap (λ k. find key_cmp k m) (sym (one_key t.key e.0 same)) ∙ found in cc
        by false other = found

-- what holds of all entries holds of what is found
found_of : (P : List ℕ → AtPoint → Type 0) (es : List Triple) → All (λ t. P t.key (at_point t)) es → (q : List ℕ) (x : AtPoint) → find key_cmp q (map_entries es) ≡ Some x → P q x
found_of P [] all q x found = cc
found_of P (t ∷ es) all q x found = by (same_bytes q t.key) refl (found_of P es (All-tail (λ t. P t.key (at_point t)) t es all) q x) found
  where
    by : (b : Bool) → same_bytes q t.key ≡ b → (find key_cmp q (map_entries es) ≡ Some x → P q x) → cond b (Some (at_point t)) (find key_cmp q (map_entries es)) ≡ Some x → P q x
    by true same rest found = let is : at_point t ≡ x = cc in subst (λ k. P k x) (sym (one_key q t.key same)) (subst (P t.key) is (All-head (λ t. P t.key (at_point t)) t es all))
    by false other rest found = rest found

-- an entry of one of the inputs is a triple of one of the files
among_entry : (parts : List File) (c : Coming) (t : Triple) → Contains (map file_coming parts) c → Contains c.entries t → Among (HasTriple t.key (at_point t)) parts
among_entry parts c t there inside =
    let of = mapped_of file_coming parts c there in
    let own : Contains (file_entries of.0) t = subst (λ (d : Coming). Contains d.entries t) (sym of.2) inside in
    file_among (HasTriple t.key (at_point t)) parts of.0 of.1 (get-entries of.0.triples t.key ∙ found_at of.0.triples.entries (tested of.0.triples.rises) t own)

-- ---- what a merge gives until it is refused

begins_with : (es : List Triple) (t : Triple) → slice_get es 0 ≡ Some t → Contains es t
begins_with [] t first = cc
begins_with (x ∷ es) t first = let is : x ≡ t = cc in subst (Contains (x ∷ es)) is (contains_first x es)

behind_has : (key : List ℕ) (es : List Triple) (t : Triple) → Contains (entries_behind key es) t → Contains es t
behind_has key [] t there = there
behind_has key (x ∷ es) t there = by (same_bytes x.key key) there
  where
    by : (b : Bool) → Contains (cond b es (x ∷ es)) t → Contains (x ∷ es) t
    by true there = contains_more x es t there
    by false there = there

-- each entry that is given is one of the inputs'
each_given : (P : Triple → Type 0) (start : List Coming) (given : List Triple) (left : List Coming) → ((c : Coming) (t : Triple) → Contains start c → Contains c.entries t → P t) → HasGiven start given left → All P given
each_given P start [] left each has = All-nil P
each_given P start (entry ∷ given) left each has =
    let first = mapped_of first_to_come start (Some entry) has.0.of in
    All-cons P entry given (each first.0 entry first.1 (begins_with first.0.entries entry first.2))
    (each_given P (all_behind entry.key start) given left (λ c t there inside.
    let whole = mapped_of (input_after_key entry.key) start c there in
    each whole.0 t whole.1 (behind_has entry.key whole.0.entries t (subst (λ (d : Coming). Contains d.entries t) (sym whole.2) inside))) has.1)

below_first : (key : List ℕ) (entries : List Triple) → KeysRise (map_entries entries) → IsBelow key (slice_get entries 0) → below_all key_cmp key (map_entries entries) ≡ true
below_first key [] rise below = refl
below_first key (entry ∷ entries) rise below =
    let parts = both (below_all key_cmp entry.key (map_entries entries)) (is_sorted key_cmp (map_entries entries)) rise in
    and_of (is_lt (key_cmp key entry.key)) (below_all key_cmp key (map_entries entries)) (ap is_lt below) (lesser_below key entry.key (map_entries entries) below parts.0)

-- they ascend by key
given_rise : (start : List Coming) (given : List Triple) (left : List Coming) → HasGiven start given left → KeysRise (map_entries given)
given_rise start [] left has = refl
given_rise start (entry ∷ given) left has =
    let rest = given_rise (all_behind entry.key start) given left has.1 in
    and_of (below_all key_cmp entry.key (map_entries given)) (is_sorted key_cmp (map_entries given)) (below_first entry.key given rest (next given has.1)) rest
  where
    next : (given : List Triple) → HasGiven (all_behind entry.key start) given left → IsBelow entry.key (slice_get given 0)
    next [] more = tt
    next (other ∷ given) more = All-contains (IsBelow entry.key) (firsts_of (all_behind entry.key start)) (Some other) has.0.rises more.0.of

-- ---- causes

module _ (parts : List File) (f : File) (fs : List File) (sound : AreFactsGiven (f ∷ fs) parts) where
  -- an entry of one of the inputs is one of a given file's
  given_entry : (c : Coming) (t : Triple) → Contains (map file_coming parts) c → Contains c.entries t → Among (HasTriple t.key (at_point t)) (f ∷ fs)
  given_entry c t there inside = sound (HasTriple t.key (at_point t)) (among_entry parts c t there inside)

  conflict_stands : HaveConflict (map file_coming parts) → NoneConflict (f ∷ fs) → ⊥
  conflict_stands h none =
      let a = among_file (HasTriple h.entry.key (at_point h.entry)) (f ∷ fs) (given_entry h.one h.entry h.one_among h.entry_among) in
      let b = among_file (HasTriple h.second.key (at_point h.second)) (f ∷ fs) (given_entry h.other h.second h.other_among h.second_among) in
      let same = one_triple a.0.triples b.0.triples (none a.0 b.0 a.1 b.1) h.entry.key (at_point h.entry) (at_point h.second) a.2 (ap (get b.0.triples) h.key ∙ b.2) h.point in
      h.differ (ap (λ (x : AtPoint). x.content) same)

  too_many : HasTooMany (map file_coming parts) → MOST_FILE_ENTRIES < len (folded f fs).triples
  too_many (given, left, has, above) = full_by f fs (triples_of given)
      (λ key x is. found_of (λ k a. Among (HasTriple k a) (f ∷ fs)) given (each_given (λ (t : Triple). Among (HasTriple t.key (at_point t)) (f ∷ fs)) (map file_coming parts) given left given_entry has) key x
      (sym (get-from_list key_order (map_entries given) key) ∙ is))
      (subst (λ n. MOST_FILE_ENTRIES < n) (sym (ap length (pair_maps.entries_of (map_entries given) (given_rise (map file_coming parts) given left has)) ∙ length-map given entry_of)) above)

no_fault : (parts : List File) (why : Refusal) → HasFault (map file_coming parts) why → ⊥
no_fault parts why (c, there, fault) =
    let of = mapped_of file_coming parts c there in
    let bad : None ≡ Some why = ap (λ (d : Coming). d.fault) of.2 ∙ fault in cc

all_rise : (parts : List File) → HasNoOrder (map file_coming parts) → ⊥
all_rise parts (c, there, not_rising) = let of = mapped_of file_coming parts c there in not_rising (subst (λ (d : Coming). KeysRise (map_entries d.entries)) of.2 (file_rises of.0))

-- why a merge of parts is refused, but for a device
pub merge_cause : (parts : List File) (why : Refusal) → (why ≡ Device → ⊥) → IsCauseOfAll (map file_coming parts) why → IsCauseFor parts why
merge_cause parts why no_device cause given sound f fs is one = by cause
  where
    of : AreFactsGiven (f ∷ fs) parts
    of = subst (λ (g : List File). AreFactsGiven g parts) is sound

    by : IsCauseOfAll (map file_coming parts) why → IsFoldCause f fs why
    by (inl (inl memory)) = inl memory
    by (inl (inr (inl device))) = absurd (no_device device)
    by (inl (inr (inr (inl fault)))) = absurd (no_fault parts why fault)
    by (inl (inr (inr (inr (inl conflict))))) = inr (inl (conflict.0, λ none. conflict_stands parts f fs of conflict.1 none))
    by (inl (inr (inr (inr (inr order))))) = absurd (all_rise parts order.1)
    by (inr many) = inr (inr (many.0, too_many parts f fs of many.1))

-- ---- what the merge represents

abbrev input_triples : List File → List Triples
input_triples parts = map (λ (input : Coming). triples_of input.entries) (map file_coming parts)

joined_among : (parts : List File) (key : List ℕ) (x : AtPoint) → get (joined_all (input_triples parts)) key ≡ Some x → Among (HasTriple key x) parts
joined_among [] key x is = let bad : None ≡ Some x = sym (get-empty key_order key) ∙ is in cc
joined_among (f ∷ fs) key x is = ⊎_elim
    (λ own. inl (ap (λ (m : Triples). get m key) (sym (file_triples f)) ∙ own))
    (λ rest. inr (joined_among fs key x rest))
    (later_from (get (triples_of (file_entries f)) key) (get (joined_all (input_triples fs)) key) x (sym (get-joined (triples_of (file_entries f)) (joined_all (input_triples fs)) key) ∙ is))

first_run : (parts : List File) (run : ℕ) → AreOfOneRun parts → Among (HasRun run) parts → (r : ℕ) → Among (HasRun r) parts → run ≡ r
first_run [] run one there r other = absurd one
first_run (f ∷ fs) run one there r other = given_run f fs one run there ∙ sym (given_run f fs one r other)

module _ (parts : List File) (one : AreOfOneRun parts) (file : File) (run : Among (HasRun file.run) parts) (points : AreAllPoints parts file.points) (entries : List Triple) (is : file.triples ≡ triples_of entries) (merge : IsMerge (map file_coming parts) entries) where
  of_parts : (w : Fact) → FactHolds w file → Among w parts
  of_parts (HasTriple key x) h = joined_among parts key x (sym (ap (λ (m : Triples). get m key) (is ∙ merge.joined)) ∙ h)
  of_parts (HasPoint p) h = points.sound p h
  of_parts (HasRun r) h = subst (λ n. Among (HasRun n) parts) h run

  newest : (key : List ℕ) (x : AtPoint) (there : Option AtPoint) → ((u : AtPoint) → Among (HasTriple key u) parts → u.point ≤ x.point) → get file.triples key ≡ there → IsUnderAt (Some x) there → there ≡ Some x
  newest key x None stays at under = absurd under
  newest key x (Some b) stays at (inl less) = let most = stays b (of_parts (HasTriple key b) at) in absurd (omega (arith, less, most))
  newest key x (Some b) stays at (inr same) = ap (λ (u : AtPoint). Some u) (sym same)

  in_file : (w : Fact) → MustStay w parts → Among w parts → FactHolds w file
  in_file (HasTriple key x) stays h =
      let there = among_file (HasTriple key x) parts h in
      let under : IsUnder (triples_of (file_entries there.0)) (triples_of entries) = All-contains (λ (input : Coming). IsUnder (triples_of input.entries) (triples_of entries)) (map file_coming parts) (file_coming there.0) merge.over (mapped_has file_coming parts there.0 there.1) in
      let own : IsUnderAt (Some x) (get file.triples key) = subst (λ y. IsUnderAt y (get file.triples key)) (ap (λ (m : Triples). get m key) (file_triples there.0) ∙ there.2) (subst (λ (m : Triples). IsUnderAt (get (triples_of (file_entries there.0)) key) (get m key)) (sym is) (under key)) in
      newest key x (get file.triples key) stays refl own
  in_file (HasPoint p) stays h = points.whole p h
  in_file (HasRun r) stays h = first_run parts file.run one run r h

  pub merge_worth : AreWorth parts (file ∷ [])
  merge_worth = record {
    sound = λ w h. ⊎_elim (λ i. of_parts w i) (λ e. absurd e) h;
    whole = λ w stays h. inl (in_file w stays h);
  }

-- the part that is made of a merge
pub parts_merged : (parts : List File) (first : File) (run : ℕ) (points : Set number_order) (entries : List Triple) (file : File) → AreOfOneRun parts → first ≡ get_or parts 0 first → run ≡ first.run → AreAllPoints parts points → IsMerge (map file_coming parts) entries
    → file ≡ record { run = run; points = points; triples = triples_of entries } → AreWorth parts (file ∷ [])
parts_merged [] first run points entries file one at of all merge is = absurd one
parts_merged (f ∷ fs) first run points entries file one at of all merge is = merge_worth (f ∷ fs) one file (inl (sym (ap (λ (g : File). g.run) is ∙ of ∙ ap (λ (g : File). g.run) at)))
    (subst (AreAllPoints (f ∷ fs)) (sym (ap (λ (g : File). g.points) is)) all) entries (ap (λ (g : File). g.triples) is) merge

-- ---- some of the files

-- some of files of one run are
pub one_run_some : (all some : List File) → 0 < length some → AreFactsGiven all some → AreOfOneRun all → AreOfOneRun some
one_run_some [] some there sound one = absurd one
one_run_some (f ∷ fs) [] there sound one = absurd (omega (arith, there))
one_run_some (f ∷ fs) (g ∷ gs) there sound one = others gs (λ r h. sound (HasRun r) (inr h))
  where
    others : (hs : List File) → ((r : ℕ) → Among (HasRun r) hs → Among (HasRun r) (f ∷ fs)) → has_other_run g hs ≡ false
    others [] own = refl
    others (h ∷ hs) own =
        let a = given_run f fs one g.run (sound (HasRun g.run) (inl refl)) in
        let b = given_run f fs one h.run (own h.run (inl refl)) in
        let same : eqb h.run g.run ≡ true = grind (arith, nat_tests, a, b) in
        ap (λ t. not t || has_other_run g hs) same ∙ others hs (λ r e. own r (inr e))

-- the back half of files of one run, if there is any
pub one_run_back : (half : ℕ) (all front back : List File) → front ≡ take half all → back ≡ drop half all → 0 < length back → AreOfOneRun all → AreOfOneRun back
one_run_back half all front back is_front is_back there one = one_run_some all back there (sound_halves half all front back is_front is_back).1 one

-- ---- points

has_point : (parts : List File) (s : Set number_order) → ((p : ℕ) → (set.contains s p ≡ true → Among (HasPoint p) parts) × (Among (HasPoint p) parts → set.contains s p ≡ true)) → AreAllPoints parts s
has_point parts s both = record { sound = λ p h. (both p).0 h; whole = λ p h. (both p).1 h }

-- those of the only part
pub only_points : (parts : List File) (first : File) (a s : Set number_order) → length parts ≡ 1 → first ≡ get_or parts 0 first → a ≡ first.points → s ≡ set.union a a → AreAllPoints parts s
only_points [] first a s many at of is = absurd (omega (arith, many))
only_points (f ∷ g ∷ fs) first a s many at of is = absurd (omega (arith, many))
only_points (f ∷ []) first a s many at of is = has_point (f ∷ []) s (λ p. (
  λ h. inl (sym (same p) ∙ h),
  λ h. same p ∙ ⊎_elim (λ own. own) (λ none. absurd none) h,
))
  where
    twice : (t : Bool) → (t || t) ≡ t
    twice true = refl
    twice false = refl

    same : (p : ℕ) → set.contains s p ≡ set.contains f.points p
    same p = ap (λ (t : Set number_order). set.contains t p) is ∙ contains-union a a p ∙ twice (set.contains a p) ∙ ap (λ (t : Set number_order). set.contains t p) (of ∙ ap (λ (g : File). g.points) at)

-- those of two halves
pub halves_points : (parts front back : List File) (a b s : Set number_order) → parts ≡ front ++ back → AreAllPoints front a → AreAllPoints back b → s ≡ set.union a b → AreAllPoints parts s
halves_points parts front back a b s halves left right is = subst (λ (l : List File). AreAllPoints l s) (sym halves) (has_point (front ++ back) s (λ p. (
  λ h. ⊎_elim (λ i. among_front (HasPoint p) front back (left.sound p i)) (λ i. among_back (HasPoint p) front back (right.sound p i)) (or_from (set.contains a p) (set.contains b p) (sym (same p) ∙ h)),
  λ h. same p ∙ ⊎_elim (λ i. or_left (set.contains a p) (set.contains b p) (left.whole p i)) (λ i. or_right (set.contains a p) (set.contains b p) (right.whole p i)) (among_split (HasPoint p) front back h),
)))
  where
    same : (p : ℕ) → set.contains s p ≡ (set.contains a p || set.contains b p)
    same p = ap (λ (t : Set number_order). set.contains t p) is ∙ contains-union a b p

-- ---- what calls answer

pub if_ok : {X E : Type 0} (P Q : X → Type 0) (r : Result X E) → ((x : X) → P x → Q x) → IfOk r P → IfOk r Q
if_ok P Q (Ok x) more is = more x is
if_ok P Q (Err why) more is = tt

-- what `merge_all` answers of parts
module _ {X : Type 0} (items : X → List Triple) (parts : List File) (inputs now : List PartEntries) (is : inputs ≡ map entries_of_file parts) where
  pub merged_by : (r : Result X Refusal) → ((was : List Coming) → all_known (map entries_coming inputs) ≡ Some was → MatchResult r (λ x. IsMerge was (items x)) (IsCauseOfAll was)) → AllStand (map entries_standing inputs) (map entries_standing now) r
      → MatchResult r (λ x. IsMerge (map file_coming parts) (items x)) (IsCauseFor parts)
  merged_by r answers stand = by r (answers (map file_coming parts) (ap (λ (l : List PartEntries). all_known (map entries_coming l)) is ∙ known parts)) (subst (λ (l : List PartEntries). AllStand (map entries_standing l) (map entries_standing now) r) is stand)
    where
      by : (r : Result X Refusal) → MatchResult r (λ x. IsMerge (map file_coming parts) (items x)) (IsCauseOfAll (map file_coming parts)) → AllStand (map entries_standing (map entries_of_file parts)) (map entries_standing now) r → MatchResult r (λ x. IsMerge (map file_coming parts) (items x)) (IsCauseFor parts)
      by (Ok x) merge stand = merge
      by (Err why) cause stand = merge_cause parts why (λ device. no_device parts now (stand.0 device)) cause

  pub covered_by : (r : Result X Refusal) → IfOk r (λ x. (points : ℕ → Bool) → All (λ (e : PartEntries). entries_within e points) inputs → All (λ (t : Triple). IsTrue (points t.point)) (items x)) → All IsCovered parts
      → (points : Set number_order) → AreAllPoints parts points → IfOk r (λ x. AreCovered points (items x))
  covered_by (Ok x) within own points all = within (set.contains points) (subst (λ (l : List PartEntries). All (λ (e : PartEntries). entries_within e (set.contains points)) l) (sym is) (are_within parts points own all))
  covered_by (Err why) within own points all = tt
