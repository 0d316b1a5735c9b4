-- The headers that were read of readers, in order.
use Rattle.std.proofs.Common.{◌≡◌, ℕ, zero, suc, ◌<◌, List, [], ◌∷◌, ◌++◌, length, map, get_or, set, Option, Some, None, Result, Ok, Err, refl, sym, ap, subst, ◌∙◌, arith, inl, inr, cond, Bool, true, false}
use Rattle.std.specs.List.{AllByRecursion, list_any}
use Rattle.std.specs.Prelude.{◌==◌, ◌||◌, ◌≢◌, IsTrue, not, slice_get}
use Rattle.std.proofs.lemmas.List.{map-set, get_or-map, get_or-set_same, length-map, nil_from_length}
use Rattle.std.proofs.lemmas.List.Elements.{All-nil, All-cons, All-from_recursion}
use Rattle.std.proofs.lemmas.Bool.{eqb-true}
use Rattle.std.proofs.lemmas.List.Folds.{list_any-append}
use Rattle.pc_types.specs.declared.Refusal.{Refusal}
use Rattle.pc_types.specs.declared.Refusal.TheVariants.{NoFile, OtherRun}
use Rattle.pc_model.specs.Sets as set_of
use Rattle.pc_part.specs.declared.ranges.Range.{Range}
use Rattle.pc_part.specs.Parts.{AreRanges, points_of}
use Rattle.pc_part.proofs.RangePointLaws.{contains-points_of}
use Rattle.pc_merge.specs.Coming.{Standing, KeepsRefusal}
use Rattle.pc_merge.specs.Standings.{AllStand, standing_at}
use Rattle.pc_streams.specs.declared.reader.PartReader.{PartReader}
use Rattle.pc_streams.specs.declared.reader.PartStage.{PartStage}
use Rattle.pc_streams.specs.declared.reader.PartStage.TheVariants.{Among, Refused, Unread}
use Rattle.pc_streams.specs.Readers.{AnswersAs, Refuses, StaysKnown, header_of, ranges_read, reads_within, refused_of, stage_header, stage_refused, standing_of}
use Rattle.pc_streams.specs.Sources.{text_left}
use Rattle.pc_stream_join.specs.Headers.{AreApart, AreHeaded, AreReadTo, IsHeadersFault, IsHeadersRefusal, IsHeaderRead, StayKnown, all_headers, headers_fault, points_of_all, points_read, run_of_all, runs_fault, runs_seen, with_run}
use Rattle.pc_stream_join.specs.declared.headers.RunsSeen.{RunsSeen}
use Rattle.pc_stream_join.proofs.StandingLaws.{one_refused}
use Rattle.pc_model.proofs.ContentLaws.{contains-union}

module _ {R : Type 0} (remaining : R → Option (List ℕ)) where
  abbrev pub Readers : Type 0
  Readers = List (PartReader R)

  pub none_read : (was : Readers) → AreReadTo remaining 0 was was []
  none_read was = (refl, refl)

  pub length_read : (n : ℕ) (was now : Readers) (runs : List ℕ) → AreReadTo remaining n was now runs → length now ≡ length was
  length_read zero was now runs h = ap length h.0
  length_read (suc n) [] now runs h = absurd h
  length_read (suc n) (first ∷ was) [] runs h = absurd h
  length_read (suc n) (first ∷ was) (first_now ∷ now) [] h = absurd h
  length_read (suc n) (first ∷ was) (first_now ∷ now) (run ∷ runs) h = ap suc (length_read n was now runs h.1)

  -- the next one is as it was
  pub next_is : (n : ℕ) (was now : Readers) (runs : List ℕ) (d : PartReader R) → AreReadTo remaining n was now runs → get_or now n d ≡ get_or was n d
  next_is zero was now runs d h = ap (λ (xs : Readers). get_or xs 0 d) h.0
  next_is (suc n) [] now runs d h = absurd h
  next_is (suc n) (first ∷ was) [] runs d h = absurd h
  next_is (suc n) (first ∷ was) (first_now ∷ now) [] d h = absurd h
  next_is (suc n) (first ∷ was) (first_now ∷ now) (run ∷ runs) d h = next_is n was now runs d h.1

  begins : (was now : Readers) (runs : List ℕ) (x d : PartReader R) (r : ℕ) → now ≡ was → runs ≡ [] → 0 < length was → IsHeaderRead remaining (get_or was 0 d) x r → AreReadTo remaining 1 was (set now 0 x) (runs ++ r ∷ [])
  begins [] now runs x d r same none lt h = absurd (omega arith)
  begins (first ∷ was) now runs x d r same none lt h = rw (same, none) (h, (refl, refl))

  -- one more is read
  pub one_read : (n : ℕ) (was now : Readers) (runs : List ℕ) (x d : PartReader R) (r : ℕ) → AreReadTo remaining n was now runs → n < length was → IsHeaderRead remaining (get_or was n d) x r → AreReadTo remaining (suc n) was (set now n x) (runs ++ r ∷ [])
  one_read zero was now runs x d r h lt is = begins was now runs x d r h.0 h.1 lt is
  one_read (suc n) [] now runs x d r h lt is = absurd h
  one_read (suc n) (first ∷ was) [] runs x d r h lt is = absurd h
  one_read (suc n) (first ∷ was) (first_now ∷ now) [] x d r h lt is = absurd h
  one_read (suc n) (first ∷ was) (first_now ∷ now) (run ∷ runs) x d r h lt is = (h.0, one_read n was now runs x d r h.1 (omega (arith, lt)) is)

  -- the same of one that is read from its current state
  pub one_read_now : (n : ℕ) (was now : Readers) (runs : List ℕ) (x d : PartReader R) (r : ℕ) → AreReadTo remaining n was now runs → n < length was → IsHeaderRead remaining (get_or now n d) x r → AreReadTo remaining (suc n) was (set now n x) (runs ++ r ∷ [])
  one_read_now n was now runs x d r h lt is = one_read n was now runs x d r h lt (subst (λ (o : PartReader R). IsHeaderRead remaining o x r) (next_is n was now runs d h) is)

  -- the readers that were read are unchanged
  pub still : (n : ℕ) (was now : Readers) (runs : List ℕ) → AreReadTo remaining n was now runs → map standing_of now ≡ map standing_of was
  still zero was now runs h = ap (map standing_of) h.0
  still (suc n) [] now runs h = absurd h
  still (suc n) (first ∷ was) [] runs h = absurd h
  still (suc n) (first ∷ was) (first_now ∷ now) [] h = absurd h
  still (suc n) (first ∷ was) (first_now ∷ now) (run ∷ runs) h = λ i. h.0.stands i ∷ still n was now runs h.1 i

  -- ---- faults

  abbrev Known : Type 0
  Known = List (Result (ℕ × List Range) Refusal)

  -- a header that was read is the known one
  told_is : (was now : PartReader R) (run : ℕ) (known : Result (ℕ × List Range) Refusal) → IsHeaderRead remaining was now run → header_of remaining was ≡ Some known → known ≡ Ok (run, ranges_read now)
  told_is was now run known h is =
      let stays : header_of remaining now ≡ Some known = subst (λ (x : Option (Result (ℕ × List Range) Refusal)). StaysKnown x (header_of remaining now)) is h.header in
      let both : Some known ≡ Some (Ok (run, ranges_read now)) = sym stays ∙ h.told in
      cc

  abbrev SomeOf : Known → List (Option (Result (ℕ × List Range) Refusal))
  SomeOf headers = map (λ (h : Result (ℕ × List Range) Refusal). Some h) headers

  -- if the next one refuses, the headers of all are refused with that
  refused_there : (n : ℕ) (was now : Readers) (runs : List ℕ) (d : PartReader R) (why : Refusal) → AreReadTo remaining n was now runs → n < length was → header_of remaining (get_or was n d) ≡ Some (Err why)
      → (headers : Known) → map (header_of remaining) was ≡ SomeOf headers → all_headers headers ≡ Err why
  refused_there zero [] now runs d why h lt err headers same = absurd (omega arith)
  refused_there zero (first ∷ was) now runs d why h lt err [] same = absurd cc
  refused_there zero (first ∷ was) now runs d why h lt err (header ∷ headers) same = let is : header ≡ Err why = cc in rw is refl
  refused_there (suc n) [] now runs d why h lt err headers same = absurd h
  refused_there (suc n) (first ∷ was) [] runs d why h lt err headers same = absurd h
  refused_there (suc n) (first ∷ was) (first_now ∷ now) [] d why h lt err headers same = absurd h
  refused_there (suc n) (first ∷ was) (first_now ∷ now) (run ∷ runs) d why h lt err [] same = absurd cc
  refused_there (suc n) (first ∷ was) (first_now ∷ now) (run ∷ runs) d why h lt err (header ∷ headers) same =
      let known : header_of remaining first ≡ Some header = cc in
      let others : map (header_of remaining) was ≡ SomeOf headers = cc in
      let is = told_is first first_now run header h.0 known in
      let rest = refused_there n was now runs d why h.1 (omega (arith, lt)) err headers others in
      rw (is, rest) refl

  known_there : (n : ℕ) (was : Readers) (d : PartReader R) (headers : Known) → n < length was → map (header_of remaining) was ≡ SomeOf headers → (known : Result (ℕ × List Range) Refusal) × (header_of remaining (get_or was n d) ≡ Some known)
  known_there n [] d headers lt same = absurd (omega arith)
  known_there n (first ∷ was) d [] lt same = absurd cc
  known_there zero (first ∷ was) d (header ∷ headers) lt same = let is : header_of remaining first ≡ Some header = cc in (header, is)
  known_there (suc n) (first ∷ was) d (header ∷ headers) lt same = let others : map (header_of remaining) was ≡ SomeOf headers = cc in known_there n was d headers (omega (arith, lt)) others

  -- why the next one refuses
  pub next_refused : (n : ℕ) (was now : Readers) (runs : List ℕ) (d x : PartReader R) (why : Refusal) → AreReadTo remaining n was now runs → n < length was
      → AnswersAs {X = ℕ} (λ run. (run, ranges_read x)) (header_of remaining (get_or now n d)) (Err why) → IsHeadersFault (map (header_of remaining) was) why
  next_refused n was now runs d x why h lt answers = by (header_of remaining (get_or was n d)) refl (subst (λ (o : PartReader R). AnswersAs {X = ℕ} (λ run. (run, ranges_read x)) (header_of remaining o) (Err why)) (next_is n was now runs d h) answers)
    where
      by : (known : Option (Result (ℕ × List Range) Refusal)) → header_of remaining (get_or was n d) ≡ known → AnswersAs {X = ℕ} (λ run. (run, ranges_read x)) known (Err why) → IsHeadersFault (map (header_of remaining) was) why
      by None is answers = inr (inr (λ headers same. let there = known_there n was d headers lt same in let bad : None ≡ Some there.0 = sym is ∙ there.1 in absurd cc))
      by (Some known) is (inl err) = inr (inr (λ headers same. ap headers_fault (refused_there n was now runs d why h lt (is ∙ ap (λ (k : Result (ℕ × List Range) Refusal). Some k) err) headers same)))
      by (Some known) is (inr (inl memory)) = inl memory
      by (Some known) is (inr (inr device)) = inr (inl device)

  -- the counts of all then
  pub next_stands : (n : ℕ) (was now : Readers) (runs : List ℕ) (d x : PartReader R) (why : Refusal) → AreReadTo remaining n was now runs → n < length was
      → KeepsRefusal {X = ℕ} (standing_of (get_or now n d)) (standing_of x) (Err why) → AllStand {X = List ℕ} (map standing_of was) (map standing_of (set now n x)) (Err why)
  next_stands n was now runs d x why h lt stands =
      let many : length now ≡ length was = length_read n was now runs h in
      let within : n < length (map standing_of was) = omega (arith, length-map was standing_of) in
      let is : map standing_of (set now n x) ≡ set (map standing_of was) n (standing_of x) = map-set standing_of now n x ∙ ap (λ (ss : List Standing). set ss n (standing_of x)) (still n was now runs h) in
      let at : standing_at (map standing_of was) n ≡ standing_of (get_or now n d) = get_or-map standing_of was n d (record { refused = None; failures = 0 }) lt ∙ ap standing_of (sym (next_is n was now runs d h)) in
      subst (λ (ss : List Standing). AllStand {X = List ℕ} (map standing_of was) ss (Err why)) (sym is)
      (one_refused ℕ (List ℕ) (map standing_of was) n (standing_of x) within why (subst (λ (s : Standing). KeepsRefusal {X = ℕ} s (standing_of x) (Err why)) (sym at) stands))

  -- if the next one refuses, not all are read
  pub next_unread : (n : ℕ) (was now : Readers) (runs : List ℕ) (d x : PartReader R) (why : Refusal) → AreReadTo remaining n was now runs → n < length was
      → Refuses {X = ℕ} (refused_of (get_or now n d)) (refused_of x) (Err why) → (all : List ℕ) → ¬ AreReadTo remaining (length was) was (set now n x) all
  next_unread n was now runs d x why h lt refused all whole =
      let many : length now ≡ length was = length_read n was now runs h in
      let told = read_there (length was) n was (set now n x) all d whole lt in
      let is : get_or (set now n x) n d ≡ x = get_or-set_same now n x d (omega (arith, many, lt)) in
      let kept = keeps (refused_of (get_or now n d)) (refused_of x) refused in
      no_header x.stage (text_left remaining x.source) kept.0 told.0 (ranges_read (get_or (set now n x) n d)) kept.1 (ap (header_of remaining) (sym is) ∙ told.1)
    where
      -- of those that are read the header is known
      read_there : (m n : ℕ) (was now : Readers) (runs : List ℕ) (d : PartReader R) → AreReadTo remaining m was now runs → n < m → (run : ℕ) × (header_of remaining (get_or now n d) ≡ Some (Ok (run, ranges_read (get_or now n d))))
      read_there zero n was now runs d h lt = absurd (omega (arith, lt))
      read_there (suc m) n [] now runs d h lt = absurd h
      read_there (suc m) n (first ∷ was) [] runs d h lt = absurd h
      read_there (suc m) n (first ∷ was) (first_now ∷ now) [] d h lt = absurd h
      read_there (suc m) zero (first ∷ was) (first_now ∷ now) (run ∷ runs) d h lt = (run, h.0.told)
      read_there (suc m) (suc n) (first ∷ was) (first_now ∷ now) (run ∷ runs) d h lt = read_there m n was now runs d h.1 (omega (arith, lt))

      keeps : (old new : Option Refusal) → Refuses {X = ℕ} old new (Err why) → (kept : Refusal) × (new ≡ Some kept)
      keeps (Some kept) new h = (kept, h.1)
      keeps None new h = (why, h)

      no_header : (stage : PartStage) (known : Option (List ℕ)) (kept : Refusal) (run : ℕ) (ranges : List Range) → stage_refused stage ≡ Some kept → stage_header stage known ≡ Some (Ok (run, ranges)) → ⊥
      no_header Unread known kept run ranges refused told = absurd cc
      no_header (Among place) known kept run ranges refused told = absurd cc
      no_header (Refused other) known kept run ranges refused told = absurd cc

  -- the runs that are read depend only on the readers
  pub same_runs : (n : ℕ) (was now : Readers) (runs others : List ℕ) → AreReadTo remaining n was now runs → AreReadTo remaining n was now others → runs ≡ others
  same_runs zero was now runs others h k = h.1 ∙ sym k.1
  same_runs (suc n) [] now runs others h k = absurd h
  same_runs (suc n) (first ∷ was) [] runs others h k = absurd h
  same_runs (suc n) (first ∷ was) (first_now ∷ now) [] others h k = absurd h
  same_runs (suc n) (first ∷ was) (first_now ∷ now) (run ∷ runs) [] h k = absurd k
  same_runs (suc n) (first ∷ was) (first_now ∷ now) (run ∷ runs) (other ∷ others) h k =
      let both : Some (Ok (run, ranges_read first_now)) ≡ Some (Ok (other, ranges_read first_now)) = sym h.0.told ∙ k.0.told in
      λ i. run_is run other (ranges_read first_now) both i ∷ same_runs n was now runs others h.1 k.1 i
    where
      run_is : (one two : ℕ) (ranges : List Range) → let known : Type 0 = Option (Result (ℕ × List Range) Refusal) in ◌≡◌ {A = known} (Some (Ok (one, ranges))) (Some (Ok (two, ranges))) → one ≡ two
      run_is one two ranges both = let pair : (one, ranges) ≡ (two, ranges) = cc in ap (λ (p : ℕ × List Range). p.0) pair

  -- ---- all were read

  abbrev AreRead : Readers → Readers → List ℕ → Type 0
  AreRead was now runs = AreReadTo remaining (length was) was now runs

  pub stay : (was now : Readers) (runs : List ℕ) → AreRead was now runs → StayKnown remaining was now
  stay [] [] runs h = tt
  stay [] (x ∷ now) runs h = absurd (let bad = h.0 in cc)
  stay (first ∷ was) [] runs h = absurd h
  stay (first ∷ was) (first_now ∷ now) [] h = absurd h
  stay (first ∷ was) (first_now ∷ now) (run ∷ runs) h = (h.0.header, h.0.coming, stay was now runs h.1)

  pub are_apart : (was now : Readers) (runs : List ℕ) → AreRead was now runs → AreApart now
  are_apart [] [] runs h = All-nil (λ (input : PartReader R). AreRanges (ranges_read input))
  are_apart [] (x ∷ now) runs h = absurd (let bad = h.0 in cc)
  are_apart (first ∷ was) [] runs h = absurd h
  are_apart (first ∷ was) (first_now ∷ now) [] h = absurd h
  are_apart (first ∷ was) (first_now ∷ now) (run ∷ runs) h = All-cons (λ (input : PartReader R). AreRanges (ranges_read input)) first_now now h.0.apart (are_apart was now runs h.1)

  -- their headers
  abbrev headers_of : Readers → List ℕ → List (ℕ × List Range)
  headers_of [] runs = []
  headers_of (input ∷ inputs) [] = []
  headers_of (input ∷ inputs) (run ∷ runs) = (run, ranges_read input) ∷ headers_of inputs runs

  are_told : (was now : Readers) (runs : List ℕ) → AreRead was now runs → map (header_of remaining) now ≡ map (λ header. Some (Ok header)) (headers_of now runs)
  are_told [] [] runs h = refl
  are_told [] (x ∷ now) runs h = absurd (let bad = h.0 in cc)
  are_told (first ∷ was) [] runs h = absurd h
  are_told (first ∷ was) (first_now ∷ now) [] h = absurd h
  are_told (first ∷ was) (first_now ∷ now) (run ∷ runs) h = λ i. h.0.told i ∷ are_told was now runs h.1 i

  many_headers : (was now : Readers) (runs : List ℕ) → AreRead was now runs → length (headers_of now runs) ≡ length was
  many_headers [] [] runs h = refl
  many_headers [] (x ∷ now) runs h = absurd (let bad = h.0 in cc)
  many_headers (first ∷ was) [] runs h = absurd h
  many_headers (first ∷ was) (first_now ∷ now) [] h = absurd h
  many_headers (first ∷ was) (first_now ∷ now) (run ∷ runs) h = ap suc (many_headers was now runs h.1)

  pub many_runs : (was now : Readers) (runs : List ℕ) → AreRead was now runs → length runs ≡ length was
  many_runs [] now runs h = ap length h.1
  many_runs (first ∷ was) [] runs h = absurd h
  many_runs (first ∷ was) (first_now ∷ now) [] h = absurd h
  many_runs (first ∷ was) (first_now ∷ now) (run ∷ runs) h = ap suc (many_runs was now runs h.1)

  all_points : (was now : Readers) (runs : List ℕ) → AreRead was now runs → points_read now ≡ points_of_all (headers_of now runs)
  all_points [] [] runs h = refl
  all_points [] (x ∷ now) runs h = absurd (let bad = h.0 in cc)
  all_points (first ∷ was) [] runs h = absurd h
  all_points (first ∷ was) (first_now ∷ now) [] h = absurd h
  all_points (first ∷ was) (first_now ∷ now) (run ∷ runs) h = ap (set_of.union (points_of (ranges_read first_now))) (all_points was now runs h.1)

  runs_back : (was now : Readers) (runs : List ℕ) → AreRead was now runs → map (λ (header : ℕ × List Range). header.0) (headers_of now runs) ≡ runs
  runs_back [] [] runs h = sym h.1
  runs_back [] (x ∷ now) runs h = absurd (let bad = h.0 in cc)
  runs_back (first ∷ was) [] runs h = absurd h
  runs_back (first ∷ was) (first_now ∷ now) [] h = absurd h
  runs_back (first ∷ was) (first_now ∷ now) (run ∷ runs) h = ap (λ (rs : List ℕ). run ∷ rs) (runs_back was now runs h.1)

  -- the known headers before are those that were read
  all_are : (was now : Readers) (runs : List ℕ) → AreRead was now runs → (headers : Known) → map (header_of remaining) was ≡ SomeOf headers → all_headers headers ≡ Ok (headers_of now runs)
  all_are [] [] runs h [] same = refl
  all_are [] [] runs h (header ∷ headers) same = absurd cc
  all_are [] (x ∷ now) runs h headers same = absurd (let bad = h.0 in cc)
  all_are (first ∷ was) [] runs h headers same = absurd h
  all_are (first ∷ was) (first_now ∷ now) [] h headers same = absurd h
  all_are (first ∷ was) (first_now ∷ now) (run ∷ runs) h [] same = absurd cc
  all_are (first ∷ was) (first_now ∷ now) (run ∷ runs) h (header ∷ headers) same =
      let known : header_of remaining first ≡ Some header = cc in
      let others : map (header_of remaining) was ≡ SomeOf headers = cc in
      rw (told_is first first_now run header h.0 known, all_are was now runs h.1 headers others) refl

  -- they have no one run
  pub no_one_run : (was now : Readers) (runs : List ℕ) (why : Refusal) → AreRead was now runs → runs_fault runs ≡ Some why → IsHeadersFault (map (header_of remaining) was) why
  no_one_run was now runs why h fault = inr (inr (λ headers same. ap headers_fault (all_are was now runs h headers same) ∙ ap runs_fault (runs_back was now runs h) ∙ fault))

  -- no inputs have no file, and no other refusal
  pub none_fault : (was now : Readers) (runs : List ℕ) (why : Refusal) → AreRead was now runs → was ≡ [] → runs_fault runs ≡ Some why → why ≡ NoFile
  none_fault [] now runs why h none fault = let same : Some NoFile ≡ Some why = sym (ap runs_fault h.1) ∙ fault in cc
  none_fault (first ∷ was) now runs why h none fault = absurd cc

  pub none_agree : (was now : Readers) (runs : List ℕ) → AreRead was now runs → was ≡ [] → runs_fault runs ≡ None → ⊥
  none_agree [] now runs h none fault = let same : Some NoFile ≡ None = sym (ap runs_fault h.1) ∙ fault in absurd cc
  none_agree (first ∷ was) now runs h none fault = absurd cc

  -- the refusal of headers that were read
  pub run_refusal : (was now : Readers) (runs : List ℕ) (why : Refusal) → AreRead was now runs → runs_fault runs ≡ Some why → IsHeadersRefusal remaining was now why
  run_refusal was now [] why h fault = let same : why ≡ NoFile = cc in inl (same, nil_from_length was (sym (many_runs was now [] h)))
  run_refusal was now (run ∷ others) why h fault = by (list_any (λ other. not (other == run)) others) fault
    where
      by : (t : Bool) → cond t (Some OtherRun) None ≡ Some why → IsHeadersRefusal remaining was now why
      by true is =
          let same : why ≡ OtherRun = cc in
          inr (inl (same, (headers_of now (run ∷ others), are_told was now (run ∷ others) h, ap runs_fault (runs_back was now (run ∷ others) h) ∙ fault ∙ ap (λ (w : Refusal). Some w) same)))
      by false is = absurd cc

-- all are the first
all_alike : (run : ℕ) (others : List ℕ) → list_any (λ other. not (other == run)) others ≡ false → AllByRecursion (λ other. other ≡ run) others
all_alike run [] none = tt
all_alike run (other ∷ others) none =
    let parts = by (other == run) (list_any (λ other. not (other == run)) others) none in
    (eqb-true other run parts.0, all_alike run others parts.1)
  where
    by : (t u : Bool) → (not t || u) ≡ false → (t ≡ true) × (u ≡ false)
    by true u none = (refl, none)
    by false u none = absurd cc

first_of_all : (run : ℕ) (runs : List ℕ) → slice_get runs 0 ≡ Some run → runs_fault runs ≡ None → AllByRecursion (λ other. other ≡ run) runs
first_of_all run [] first none = absurd cc
first_of_all run (one ∷ others) first none = let same : one ≡ run = cc in subst (λ (r : ℕ). (one ≡ r) × AllByRecursion (λ other. other ≡ r) others) same (refl, all_alike one others (by (list_any (λ other. not (other == one)) others) none))
  where
    by : (t : Bool) → cond t (Some OtherRun) None ≡ None → t ≡ false
    by true is = absurd cc
    by false is = refl

module _ {R : Type 0} (remaining : R → Option (List ℕ)) where
  of_run : (run : ℕ) (inputs : List (PartReader R)) (runs : List ℕ) → AllByRecursion (λ other. other ≡ run) runs → AllByRecursion (λ (header : ℕ × List Range). header.0 ≡ run) (headers_of remaining inputs runs)
  of_run run [] runs all = tt
  of_run run (input ∷ inputs) [] all = tt
  of_run run (input ∷ inputs) (first ∷ runs) all = (all.0, of_run run inputs runs all.1)

  keep_to : (points : ℕ → Bool) (was now : List (PartReader R)) (runs : List ℕ) → AreReadTo remaining (length was) was now runs → ((p : ℕ) → IsTrue (set_of.contains (points_read now) p) → IsTrue (points p)) → AllByRecursion (λ input. reads_within input points) now
  keep_to points [] [] runs h of = tt
  keep_to points [] (x ∷ now) runs h of = absurd (let bad = h.0 in cc)
  keep_to points (first ∷ was) [] runs h of = absurd h
  keep_to points (first ∷ was) (first_now ∷ now) [] h of = absurd h
  keep_to points (first ∷ was) (first_now ∷ now) (run ∷ runs) h of =
      let union = λ (p : ℕ). contains-union (points_of (ranges_read first_now)) (points_read now) p in (
        h.0.within points (λ p there. of p (union p ∙ ap (λ t. t || set_of.contains (points_read now) p) (contains-points_of (ranges_read first_now) p ∙ there))),
        keep_to points was now runs h.1 (λ p there. of p (union p ∙ either (set_of.contains (points_of (ranges_read first_now)) p) (set_of.contains (points_read now) p) there)),
      )
    where
      either : (a b : Bool) → b ≡ true → (a || b) ≡ true
      either true b e = refl
      either false b e = e

  -- the header of all
  pub headed : (was now : List (PartReader R)) (runs : List ℕ) (run : ℕ) (ranges : List Range) → AreReadTo remaining (length was) was now runs → slice_get runs 0 ≡ Some run → runs_fault runs ≡ None
      → (now ≢ [] → AreRanges ranges) → points_of ranges ≡ points_read now → AreHeaded remaining run ranges now
  headed [] now runs run ranges h first none apart points = absurd (let bad = h.1 in cc)
  headed (one ∷ was) now runs run ranges h first none apart points =
      let whole : List (PartReader R) = one ∷ was in
      record {
        headers = headers_of remaining now runs;
        read = are_told remaining (one ∷ was) now runs h;
        of_all = record {
          some = let many = many_headers remaining (one ∷ was) now runs h in omega (arith, many);
          one_run = All-from_recursion (λ (header : ℕ × List Range). header.0 ≡ run) (headers_of remaining now runs) (of_run run now runs (first_of_all run runs first none));
          apart = apart (λ nothing. let many = length_read remaining (length (one ∷ was)) (one ∷ was) now runs h in let zero_long = ap length nothing in omega (arith, many, zero_long));
          points = points ∙ all_points remaining (one ∷ was) now runs h;
        };
        within = All-from_recursion (λ input. reads_within input (set_of.contains (points_of ranges))) now
            (keep_to (set_of.contains (points_of ranges)) (one ∷ was) now runs h (λ p there. ap (λ s. set_of.contains s p) points ∙ there));
      }

-- one more is seen after the others
pub seen_more : (runs : List ℕ) (run : ℕ) → with_run (runs_seen runs).first (runs_seen runs).differ run ≡ runs_seen (runs ++ run ∷ [])
seen_more [] run = refl
seen_more (first ∷ others) run =
    ap (λ (differ : Bool). record { first = Some first; differ = differ }) (sym (list_any-append (λ other. not (other == first)) others (run ∷ []) ∙ ap (λ (b : Bool). list_any (λ other. not (other == first)) others || b) (or_none (not (run == first)))))
  where
    or_none : (b : Bool) → (b || false) ≡ b
    or_none true = refl
    or_none false = refl

-- why they have no one run
pub seen_fault : (runs : List ℕ) (why : Refusal) → run_of_all (runs_seen runs).first (runs_seen runs).differ ≡ Err why → runs_fault runs ≡ Some why
seen_fault [] why is = cc
seen_fault (run ∷ others) why is = by (list_any (λ other. not (other == run)) others) is
  where
    by : (t : Bool) → run_of_all (Some run) t ≡ Err why → cond t (Some OtherRun) None ≡ Some why
    by true is = cc
    by false is = absurd cc

pub seen_one : (runs : List ℕ) (one : ℕ) → run_of_all (runs_seen runs).first (runs_seen runs).differ ≡ Ok one → (slice_get runs 0 ≡ Some one) × (runs_fault runs ≡ None)
seen_one [] one is = absurd cc
seen_one (run ∷ others) one is = by (list_any (λ other. not (other == run)) others) is
  where
    by : (t : Bool) → run_of_all (Some run) t ≡ Ok one → (slice_get (run ∷ others) 0 ≡ Some one) × (cond t (Some OtherRun) None ≡ None)
    by true is = absurd cc
    by false is = (cc, refl)

-- the same of the runs so far
pub fault_seen : (seen : RunsSeen) (runs : List ℕ) (why : Refusal) → seen ≡ runs_seen runs → run_of_all seen.first seen.differ ≡ Err why → runs_fault runs ≡ Some why
fault_seen seen runs why is told = seen_fault runs why (subst (λ (s : RunsSeen). run_of_all s.first s.differ ≡ Err why) is told)

pub one_seen : (seen : RunsSeen) (runs : List ℕ) (one : ℕ) → seen ≡ runs_seen runs → run_of_all seen.first seen.differ ≡ Ok one → (slice_get runs 0 ≡ Some one) × (runs_fault runs ≡ None)
one_seen seen runs one is told = seen_one runs one (subst (λ (s : RunsSeen). run_of_all s.first s.differ ≡ Ok one) is told)

pub more_seen : (seen next : RunsSeen) (runs : List ℕ) (run : ℕ) → seen ≡ runs_seen runs → next ≡ with_run seen.first seen.differ run → next ≡ runs_seen (runs ++ run ∷ [])
more_seen seen next runs run is more = more ∙ (ap (λ (s : RunsSeen). with_run s.first s.differ run) is ∙ seen_more runs run)
