-- The used files, joined and applied to the base, give the state of the recovered point.
use Rattle.std.proofs.Common.{◌≡◌, ℕ, ◌≤◌, ◌<◌, nat_le, nat_lt, eqb, ◌||◌, not, Bool, true, false, cond, List, [], ◌∷◌, Some, None, Result, Ok, Err, ◌⊎◌, inl, inr, refl, sym, ap, ◌∙◌, arith}
use Rattle.std.specs.Prelude.{MatchResult, drop}
use Rattle.std.specs.List.{list_all, AllByRecursion}
use Rattle.std.proofs.lemmas.Bool.Decides.{nat_tests}
use Rattle.pc_types.specs.declared.refusal.Refusal.{Refusal}
use Rattle.pc_types.specs.declared.refusal.Refusal.TheVariants.{OtherRun, Conflict, Full}
use Rattle.pc_types.specs.declared.Entry.{Entry}
use Rattle.pc_io.specs.Fields.{◌>>=◌}
use Rattle.pc_model.specs.Maps as map
use Rattle.pc_model.specs.Sets as set
use Rattle.pc_model.specs.Database.{Database}
use Rattle.pc_model.specs.Log.{has_token, state_at}
use Rattle.pc_model.specs.Standing.{PrecedesNext, IsOfItsPoints}
use Rattle.pc_model.specs.Points.{laid}
use Rattle.pc_model.specs.Files.{File, BaseFile, joined_file, conflict, numbers_to}
use Rattle.pc_model.specs.LaidFiles.{laid_file, greatest, gap_above}
use Rattle.pc_model.specs.Replies.{join_causes}
use Rattle.pc_model.proofs.ContentLaws.{contains-items, contains-union, laid_content_from}
use Rattle.pc_model.proofs.ShelfFileLaws.{join_well, joined_of_points, run_is, triples_is}
use Rattle.pc_part.specs.Joins.{first_cause}
use Rattle.pc_bases.specs.Layings.{lay_causes}
use Rattle.pc_bases.proofs.GapLaws.{greatest_bound, greatest_reached}
use Rattle.pc_recover.specs.Recovery.{is_covered, files_to, ok_unless, try_folded, with_files}
use Rattle.pc_recover.proofs.RecoveredPoints.{holds_at, holds_at_all, finds_none}

-- a result, if only the entry limit may refuse it
abbrev pub UnlessFull : {X : Type 0} → Result X Refusal → (X → Type 0) → Type 0
UnlessFull result IsRight = MatchResult result IsRight (λ refusal. refusal ≡ Full)

module _ (run : ℕ) (start : Database) (log : List Entry) where
  -- only the entry limit keeps two files of the run from being joined
  join_limit : (a b : File) → IsOfItsPoints run start log a → IsOfItsPoints run start log b
      → first_cause (join_causes (Some a) (Some b)) ≡ cond (nat_lt 4294967295 (map.len (joined_file a b).triples)) (Some Full) None
  join_limit a b of other =
      let well = join_well run start log a b of other in
      let one : eqb a.run b.run ≡ true = grind (arith, nat_tests, well.one_run) in
      ap (λ x. cond (not x) (Some OtherRun) (cond (conflict a.triples b.triples) (Some Conflict) (cond (nat_lt 4294967295 (map.len (joined_file a b).triples)) (Some Full) None))) one
      ∙ ap (λ x. cond x (Some Conflict) (cond (nat_lt 4294967295 (map.len (joined_file a b).triples)) (Some Full) None)) well.no_conflict

  -- files of the run are joined to the file of all their points
  pub record IsJoin (file : File) (files : List File) (joined : File) : Type 0 where
    pub of : IsOfItsPoints run start log joined
    pub points : (p : ℕ) → set.contains joined.points p ≡ (set.contains file.points p || is_covered files p)

  pub fold_gives : (file : File) (files : List File) → IsOfItsPoints run start log file → AllByRecursion (IsOfItsPoints run start log) files → UnlessFull (try_folded file files) (IsJoin file files)
  fold_gives file [] of others = record { of = of; points = λ p. sym (or_false (set.contains file.points p)) }
    where
      or_false : (t : Bool) → (t || false) ≡ t
      or_false true = refl
      or_false false = refl
  fold_gives file (next ∷ files) of others =
      by (nat_lt 4294967295 (map.len (joined_file file next).triples)) (join_limit file next of others.0) (fold_gives (joined_file file next) files (joined_of_points run start log file next of others.0) others.1)
    where
      one_more : (joined : File) → IsJoin (joined_file file next) files joined → IsJoin file (next ∷ files) joined
      one_more joined is = record { of = is.of; points = λ p. is.points p ∙ ap (λ t. t || is_covered files p) (contains-union file.points next.points p) ∙ regroup (set.contains file.points p) (set.contains next.points p) (is_covered files p) }
        where
          regroup : (x y z : Bool) → ((x || y) || z) ≡ (x || (y || z))
          regroup true y z = refl
          regroup false y z = refl

      on_result : (r : Result File Refusal) → UnlessFull r (IsJoin (joined_file file next) files) → UnlessFull r (IsJoin file (next ∷ files))
      on_result (Ok joined) is = one_more joined is
      on_result (Err why) is = is

      by : (full : Bool) → first_cause (join_causes (Some file) (Some next)) ≡ cond full (Some Full) None → UnlessFull (try_folded (joined_file file next) files) (IsJoin (joined_file file next) files)
          → UnlessFull (ok_unless (first_cause (join_causes (Some file) (Some next))) (joined_file file next) >>= λ joined. try_folded joined files) (IsJoin file (next ∷ files))
      by true limit given = rw limit refl
      by false limit given = rw limit (on_result (try_folded (joined_file file next) files) given)

  -- the files that are used: all have a text by the log, and no point is above n
  pub record IsUsed (n : ℕ) (file : File) : Type 0 where
    pub of : IsOfItsPoints run start log file
    pub most : greatest file.points ≤ n

  pub are_used : (n : ℕ) (files : List File) → AllByRecursion (IsOfItsPoints run start log) files → AllByRecursion (IsUsed n) (files_to n files)
  are_used n [] all = tt
  are_used n (file ∷ files) all = by (nat_le (greatest file.points) n) refl (are_used n files all.1)
    where
      by : (t : Bool) → nat_le (greatest file.points) n ≡ t → AllByRecursion (IsUsed n) (files_to n files) → AllByRecursion (IsUsed n) (cond t (file ∷ files_to n files) (files_to n files))
      by true low others = (record { of = all.0; most = grind (arith, nat_tests) }, others)
      by false high others = others

  of_used : (n : ℕ) (files : List File) → AllByRecursion (IsUsed n) files → AllByRecursion (IsOfItsPoints run start log) files
  of_used n [] all = tt
  of_used n (file ∷ files) all = (all.0.of, of_used n files all.1)

  -- the points that they cover are not above n, and have their tokens in the log
  pub covered_most : (n p : ℕ) (files : List File) → AllByRecursion (IsUsed n) files → is_covered files p ≡ true → p ≤ n
  covered_most n p [] all there = absurd cc
  covered_most n p (file ∷ files) all there = by (set.contains file.points p) refl there (covered_most n p files all.1)
    where
      by : (t : Bool) → set.contains file.points p ≡ t → (t || is_covered files p) ≡ true → (is_covered files p ≡ true → p ≤ n) → p ≤ n
      by true is h again = let bound = greatest_bound file.points p is in omega (arith, bound, all.0.most)
      by false is h again = again h

  pub covered_token : (n p : ℕ) (files : List File) → AllByRecursion (IsUsed n) files → is_covered files p ≡ true → has_token p log ≡ true
  covered_token n p [] all there = absurd cc
  covered_token n p (file ∷ files) all there = by (set.contains file.points p) refl there (covered_token n p files all.1)
    where
      by : (t : Bool) → set.contains file.points p ≡ t → (t || is_covered files p) ≡ true → (is_covered files p ≡ true → has_token p log ≡ true) → has_token p log ≡ true
      by true is h again = all.0.of.has_tokens p is
      by false is h again = again h

  -- a point of the base and a point that files reach from it
  module _ (b n : ℕ) (low : b ≤ n) (order : (p : ℕ) → p < n → PrecedesNext p log) where
    abbrev base : BaseFile
    base = record { run = run; point = b; pairs = state_at start log b }

    is_state : (joined : File) → IsOfItsPoints run start log joined → ((p : ℕ) → set.contains joined.points p ≡ true → p ≤ n) → ((p : ℕ) → b < p → p ≤ n → set.contains joined.points p ≡ true)
        → laid (state_at start log b) b joined.triples ≡ state_at start log n
    is_state joined of most all =
        ap (laid (state_at start log b) b) (triples_is run start log joined of)
        ∙ laid_content_from start log b n (set.items joined.points) low order (λ p is. most p (contains-items joined.points p ∙ is)) (λ p less more. sym (contains-items joined.points p) ∙ all p less more)

    no_gap : (joined : File) → ((p : ℕ) → set.contains joined.points p ≡ true → p ≤ n) → ((p : ℕ) → b < p → p ≤ n → set.contains joined.points p ≡ true) → greatest joined.points ≤ n → gap_above b joined.points ≡ None
    no_gap joined most all bound =
        finds_none (λ p. not (set.contains joined.points p)) (drop b (numbers_to (greatest joined.points)))
        (holds_at_all (λ p. not (not (set.contains joined.points p))) b (greatest joined.points) (λ p less more. ap (λ t. not (not t)) (all p less (omega (arith, more, bound)))))

    lay_limit : (joined : File) → joined.run ≡ run → gap_above b joined.points ≡ None → first_cause (lay_causes base joined) ≡ cond (nat_lt 4294967295 (map.len (laid (state_at start log b) b joined.triples))) (Some Full) None
    lay_limit joined of none =
        let one : eqb run joined.run ≡ true = grind (arith, nat_tests, of) in
        rw (one, none) refl

    -- a file of the run with these points, applied to the base
    lays : (joined : File) → IsOfItsPoints run start log joined → ((p : ℕ) → set.contains joined.points p ≡ true → p ≤ n) → ((p : ℕ) → b < p → p ≤ n → set.contains joined.points p ≡ true)
        → UnlessFull (ok_unless (first_cause (lay_causes base joined)) (laid_file base joined)) (λ laid. laid.pairs ≡ state_at start log n)
    lays joined of most all =
        by (nat_lt 4294967295 (map.len (laid (state_at start log b) b joined.triples))) (lay_limit joined (run_is run start log joined of) (no_gap joined most all (bound (greatest_reached joined.points))))
      where
        bound : (greatest joined.points ≡ 0) ⊎ (set.contains joined.points (greatest joined.points) ≡ true) → greatest joined.points ≤ n
        bound (inl none) = omega (arith, none)
        bound (inr there) = most (greatest joined.points) there

        by : (full : Bool) → first_cause (lay_causes base joined) ≡ cond full (Some Full) None → UnlessFull (ok_unless (first_cause (lay_causes base joined)) (laid_file base joined)) (λ laid. laid.pairs ≡ state_at start log n)
        by true limit = rw limit refl
        by false limit = rw limit (is_state joined of most all)

    -- the files that are used, applied to the base, give the state of the point that they reach
    pub files_give : (files : List File) → AllByRecursion (IsUsed n) files → list_all (is_covered files) (drop b (numbers_to n)) ≡ true → UnlessFull (with_files base files) (λ laid. laid.pairs ≡ state_at start log n)
    files_give [] used reached = by (nat_lt b n) refl
      where
        by : (t : Bool) → nat_lt b n ≡ t → state_at start log b ≡ state_at start log n
        by true less = let none : false ≡ true = holds_at (is_covered []) b n n reached (grind (arith, nat_tests)) (omega arith) in absurd (grind arith)
        by false same = ap (state_at start log) (grind (arith, nat_tests, low))
    files_give (file ∷ files) used reached = on_join (try_folded file files) (fold_gives file files used.0.of (of_used n files used.1))
      where
        on_join : (r : Result File Refusal) → UnlessFull r (IsJoin file files)
            → UnlessFull (r >>= λ joined. ok_unless (first_cause (lay_causes base joined)) (laid_file base joined)) (λ laid. laid.pairs ≡ state_at start log n)
        on_join (Ok joined) is =
            lays joined is.of (λ p there. covered_most n p (file ∷ files) used (sym (is.points p) ∙ there))
            (λ p less more. is.points p ∙ holds_at (is_covered (file ∷ files)) b n p reached less more)
        on_join (Err why) is = is
