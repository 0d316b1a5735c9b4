-- How far files reach, by a table of the least greatest points.
use Rattle.std.proofs.Common.{◌≡◌, ℕ, zero, suc, ◌+◌, ◌<◌, ◌≤◌, min, max, nat_le, nat_lt, Bool, true, false, not, ◌&&◌, ◌||◌, List, [], ◌∷◌, ◌++◌, length, get_or, drop, drop-cons, Option, Some, None, refl, sym, ap, ◌∙◌, arith, length-append}
use Rattle.std.specs.Vec.{with_items}
use Rattle.std.specs.Global.{Vec}
use Rattle.std.proofs.lemmas.List.{with_items_is, drop_all, drop-append-le}
use Rattle.std.specs.Prelude.{fold, if◌then◌else◌, Result, Ok, Err}
use Rattle.pc_types.specs.declared.refusal.Refusal.{Refusal}
use Rattle.std.specs.List.{list_any, list_all, find}
use Rattle.std.specs.Option.{is_some, option_or}
use Rattle.std.proofs.lemmas.Bool.Decides.{nat_tests}
use Rattle.std.proofs.lemmas.List.Folds.{list_all-append, find-append}
use Rattle.pc_model.specs.Sets as sets
use Rattle.pc_model.specs.Sets.{Set, number_order}
use Rattle.pc_model.specs.Files.{File, numbers_to}
use Rattle.pc_model.specs.LaidFiles.{greatest}
use Rattle.pc_part.specs.declared.ranges.Range.{Range}
use Rattle.pc_part.specs.Parts.{points_of}
use Rattle.pc_part.proofs.RangePointLaws.{contains-points_of}
use Rattle.pc_recover.specs.Recovery.{read_files, is_covered, files_to}
use Rattle.pc_recover.specs.Reach.{lesser_point, top_with_file, least_top, top_at}

-- ---- a range of the table

-- the point is in the range
abbrev pub is_in : Range → ℕ → Bool
is_in r point = nat_le r.low point && nat_le point r.high

-- the number at a place once the points from low on and below this end are noted
abbrev pub noted_below : ℕ → ℕ → ℕ → ℕ → Option ℕ → Option ℕ
noted_below low end top point was = if nat_le low point && nat_lt point end then lesser_point was top else was

abbrev pub NotedBelow : ℕ → ℕ → ℕ → List (Option ℕ) → List (Option ℕ) → Type 0
NotedBelow low end top before now = (point : ℕ) → point ≤ 65535 → top_at now point ≡ noted_below low end top point (top_at before point)

-- after the last place the points of the range are noted
pub range_noted : (before now : List (Option ℕ)) (low high place top : ℕ) → NotedBelow low place top before now → high + 1 ≤ place → place ≤ max low (high + 1) →
    (point : ℕ) → point ≤ 65535 → top_at now point ≡ (if nat_le low point && nat_le point high then lesser_point (top_at before point) top else top_at before point)
range_noted before now low high place top so_far past most point within = so_far point within ∙ ap (λ t. if t then lesser_point (top_at before point) top else top_at before point) ends
  where
    ends : (nat_le low point && nat_lt point place) ≡ (nat_le low point && nat_le point high)
    ends = grind (arith, nat_tests)

-- ---- the ranges of a part

-- the number at a place once all these ranges are noted
abbrev pub noted_in : ℕ → List Range → ℕ → Option ℕ → Option ℕ
noted_in top [] point was = was
noted_in top (r ∷ ranges) point was = noted_in top ranges point (if nat_le r.low point && nat_le point r.high then lesser_point was top else was)

-- noting a point twice is noting it once
lesser_twice : (was : Option ℕ) (top : ℕ) → lesser_point (lesser_point was top) top ≡ lesser_point was top
lesser_twice None top = ap Some (omega arith)
lesser_twice (Some other) top = ap Some (omega arith)

noted_among : (top : ℕ) (ranges : List Range) (point : ℕ) (was : Option ℕ) →
    noted_in top ranges point was ≡ (if list_any (λ r. nat_le r.low point && nat_le point r.high) ranges then lesser_point was top else was)
noted_among top [] point was = refl
noted_among top (r ∷ ranges) point was = by (nat_le r.low point && nat_le point r.high) (noted_among top ranges point)
  where
    among : Bool
    among = list_any (λ s. nat_le s.low point && nat_le point s.high) ranges

    again : (b : Bool) → (if b then lesser_point (lesser_point was top) top else lesser_point was top) ≡ lesser_point was top
    again true = lesser_twice was top
    again false = refl

    by : (t : Bool) → ((v : Option ℕ) → noted_in top ranges point v ≡ (if among then lesser_point v top else v)) →
        noted_in top ranges point (if t then lesser_point was top else was) ≡ (if (t || among) then lesser_point was top else was)
    by true rest = rest (lesser_point was top) ∙ again among
    by false rest = rest was

-- the ranges of a part are its points
pub part_noted : (file : File) (ranges : List Range) (point : ℕ) (was : Option ℕ) → points_of ranges ≡ file.points → noted_in (greatest file.points) ranges point was ≡ top_with_file point was file
part_noted file ranges point was are =
    noted_among (greatest file.points) ranges point was
    ∙ ap (λ t. if t then lesser_point was (greatest file.points) else was) (sym (contains-points_of ranges point) ∙ ap (λ (s : Set number_order). sets.contains s point) are)

-- after the last range the part is noted
pub all_ranges : (file : File) (ranges : List Range) (top i : ℕ) (before now : List (Option ℕ)) → top ≡ greatest file.points → points_of ranges ≡ file.points → length ranges ≤ i →
    ((point : ℕ) → point ≤ 65535 → noted_in top (drop i ranges) point (top_at now point) ≡ noted_in top ranges point (top_at before point)) →
    (point : ℕ) → point ≤ 65535 → top_at now point ≡ top_with_file point (top_at before point) file
all_ranges file ranges top i before now is are ended so_far point within =
    ap (λ rs. noted_in top rs point (top_at now point)) (sym (drop_all i ranges ended))
    ∙ so_far point within
    ∙ ap (λ t. noted_in t ranges point (top_at before point)) is
    ∙ part_noted file ranges point (top_at before point) are

-- ---- all files

-- a vector whose items are written over by as many
pub items_over : (v : Vec (Option ℕ)) (now : List (Option ℕ)) (w : Vec (Option ℕ)) (n : ℕ) → w ≡ with_items v now → length now ≡ n → length v.items ≡ n → w.items ≡ now
items_over v now w n is len was = ap (λ u. u.items) is ∙ with_items_is v now (len ∙ sym was ∙ sym v.ok.0)

-- the files from this place on are left to note
abbrev pub LeftToNote : List (Result File Refusal) → ℕ → List (Option ℕ) → Type 0
LeftToNote files i tops = (point : ℕ) → point ≤ 65535 → fold (top_with_file point) (top_at tops point) (read_files (drop i files)) ≡ least_top (read_files files) point

module _ (files : List (Result File Refusal)) (i : ℕ) (x : Result File Refusal) (within : i < length files) (is : x ≡ get_or files i x) where
  first_left : drop i files ≡ x ∷ drop (i + 1) files
  first_left = drop-cons files i x within ∙ ap (λ y. y ∷ drop (suc i) files) (sym is) ∙ ap (λ n. x ∷ drop n files) next
    where
      next : suc i ≡ i + 1
      next = omega arith

  -- once a file is noted, the others are left
  pub file_noted : (file : File) (before now : List (Option ℕ)) → x ≡ Ok file → ((point : ℕ) → point ≤ 65535 → top_at now point ≡ top_with_file point (top_at before point) file) → LeftToNote files i before → LeftToNote files (i + 1) now
  file_noted file before now had steps so_far point bound =
      ap (λ v. fold (top_with_file point) v (read_files (drop (i + 1) files))) (steps point bound)
      ∙ sym (ap (λ fs. fold (top_with_file point) (top_at before point) (read_files fs)) (first_left ∙ ap (λ y. y ∷ drop (i + 1) files) had))
      ∙ so_far point bound

  -- a file that can't be read is left out
  pub file_left_out : (why : Refusal) (tops : List (Option ℕ)) → x ≡ Err why → LeftToNote files i tops → LeftToNote files (i + 1) tops
  file_left_out why tops lost so_far point bound =
      sym (ap (λ fs. fold (top_with_file point) (top_at tops point) (read_files fs)) (first_left ∙ ap (λ y. y ∷ drop (i + 1) files) lost)) ∙ so_far point bound

-- ---- from the table to the reach

-- there is a point, and it is not above n
abbrev pub is_to : ℕ → Option ℕ → Bool
is_to n None = false
is_to n (Some top) = nat_le top n

or_none : (b : Bool) → b ≡ (b || false)
or_none true = refl
or_none false = refl

or_moved : (a b c : Bool) → ((a || b) || c) ≡ (a || (b || c))
or_moved true b c = refl
or_moved false b c = refl

-- the lesser of two points is not above n if one of them isn't
lesser_to : (n last : ℕ) (t : Bool) (top : Option ℕ) → is_to n (if t then lesser_point top last else top) ≡ (is_to n top || (nat_le last n && t))
lesser_to n last true None = by (nat_le last n)
  where
    by : (b : Bool) → b ≡ (b && true)
    by true = refl
    by false = refl
lesser_to n last true (Some other) = least ∙ by (nat_le last n)
  where
    least : nat_le (min other last) n ≡ (nat_le other n || nat_le last n)
    least = grind (arith, nat_tests)

    by : (b : Bool) → (nat_le other n || b) ≡ (nat_le other n || (b && true))
    by true = refl
    by false = refl
lesser_to n last false top = or_none (is_to n top) ∙ by (nat_le last n)
  where
    by : (b : Bool) → (is_to n top || false) ≡ (is_to n top || (b && false))
    by true = refl
    by false = refl

-- one more file, if it has no point above n
one_more : (a : Bool) (file : File) (files : List File) (point : ℕ) → is_covered (if a then file ∷ files else files) point ≡ ((a && sets.contains file.points point) || is_covered files point)
one_more true file files point = refl
one_more false file files point = refl

-- a file without a point above n covers the point if and only if the least greatest point is not above n
pub least_to : (n point : ℕ) (top : Option ℕ) (files : List File) → is_to n (fold (top_with_file point) top files) ≡ (is_to n top || is_covered (files_to n files) point)
least_to n point top [] = or_none (is_to n top)
least_to n point top (file ∷ files) =
    least_to n point (top_with_file point top file) files
    ∙ ap (λ b. b || is_covered (files_to n files) point) (lesser_to n (greatest file.points) (sets.contains file.points point) top)
    ∙ or_moved (is_to n top) (nat_le (greatest file.points) n && sets.contains file.points point) (is_covered (files_to n files) point)
    ∙ ap (λ b. is_to n top || b) (sym (one_more (nat_le (greatest file.points) n) file (files_to n files) point))

-- a file covers the point if and only if there is a least greatest point
pub least_there : (point : ℕ) (top : Option ℕ) (files : List File) → is_some (fold (top_with_file point) top files) ≡ (is_some top || is_covered files point)
least_there point top [] = or_none (is_some top)
least_there point top (file ∷ files) = least_there point (top_with_file point top file) files ∙ ap (λ b. b || is_covered files point) (there (sets.contains file.points point) top) ∙ or_moved (is_some top) (sets.contains file.points point) (is_covered files point)
  where
    there : (t : Bool) (was : Option ℕ) → is_some (if t then lesser_point was (greatest file.points) else was) ≡ (is_some was || t)
    there true None = refl
    there true (Some other) = refl
    there false was = or_none (is_some was)

-- ---- the points from a base on

-- the points above the base up to this one
abbrev pub points_to : ℕ → ℕ → List ℕ
points_to base n = drop base (numbers_to n)

length-numbers_to : (n : ℕ) → length (numbers_to n) ≡ n
length-numbers_to zero = refl
length-numbers_to (suc n) = length-append (numbers_to n) (suc n ∷ []) ∙ ap (λ m. m + 1) (length-numbers_to n) ∙ omega arith

pub none_to : (base : ℕ) → points_to base base ≡ []
none_to base = drop_all base (numbers_to base) (let len = length-numbers_to base in omega (arith, len))

one_to : (base n : ℕ) → base ≤ n → points_to base (suc n) ≡ points_to base n ++ suc n ∷ []
one_to base n from = drop-append-le base (numbers_to n) (suc n ∷ []) (let len = length-numbers_to n in omega (arith, len))

-- a test of all of them, and a search among them, with one more
pub all_more : (test : ℕ → Bool) (base n : ℕ) → base ≤ n → list_all test (points_to base (suc n)) ≡ (list_all test (points_to base n) && test (suc n))
all_more test base n from = ap (list_all test) (one_to base n from) ∙ list_all-append test (points_to base n) (suc n ∷ []) ∙ by (list_all test (points_to base n)) (test (suc n))
  where
    by : (a b : Bool) → (a && (b && true)) ≡ (a && b)
    by true true = refl
    by true false = refl
    by false b = refl

pub find_more : (test : ℕ → Bool) (base n : ℕ) → base ≤ n → find test (points_to base (suc n)) ≡ option_or (find test (points_to base n)) (if test (suc n) then Some (suc n) else None)
find_more test base n from = ap (find test) (one_to base n from) ∙ find-append test (points_to base n) (suc n ∷ [])

-- if all pass, none fails
pub none_fails : (test : ℕ → Bool) (points : List ℕ) → list_all test points ≡ true → find (λ p. not (test p)) points ≡ None
none_fails test [] all = refl
none_fails test (p ∷ points) all = by (test p) all (none_fails test points)
  where
    by : (t : Bool) → (t && list_all test points) ≡ true → (list_all test points ≡ true → find (λ q. not (test q)) points ≡ None) → (if not t then Some p else find (λ q. not (test q)) points) ≡ None
    by true rest again = again rest
    by false rest again = cc
