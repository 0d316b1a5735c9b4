-- The reason that is given of the first bad line holds.
use Rattle.std.proofs.Common.{◌≡◌, ℕ, ◌+◌, ◌-◌, Bool, true, false, List, [], ◌∷◌, ◌++◌, map, length, Result, Ok, Err, refl, sym, ap, ◌∙◌, subst, inl, inr, append_assoc, arith}
use Rattle.std.specs.Prelude.{Option, Some, None, IsSomeAnd, IfOk, ◌||◌, ◌&&◌, not, nat_lt, nat_le, if◌then◌else◌}
use Rattle.std.specs.List.{list_any}
use Rattle.std.proofs.lemmas.Bool.Decides.{nat_tests}
use Rattle.std.proofs.lemmas.List.{map-append, length-append, length-map}
use Rattle.std.proofs.Math.Seq.{take-append_seam, get_or-append_seam}
use Rattle.pc_jobs.specs.declared.works.Workload.{Workload}
use Rattle.pc_jobs.specs.declared.phrases.Phrase.{Phrase}
use Rattle.pc_jobs.specs.declared.phrases.Phrase.TheVariants as phrase
use Rattle.pc_jobs.specs.declared.workloads.WorkloadReading.TheVariants.{BadLine}
use Rattle.pc_jobs.specs.Phrases.{spelled_phrase}
use Rattle.pc_jobs.specs.Workloads.{is_points, is_client, is_open_after_lines, closes, is_bad_line, first_bad, workload_of, reading_of_workload, worth}
use Rattle.pc_reasons.specs.declared.workloads.LineRole.{LineRole}
use Rattle.pc_reasons.specs.declared.workloads.LineRole.TheVariants as role
use Rattle.pc_reasons.specs.declared.workloads.WorkloadFault.{WorkloadFault}
use Rattle.pc_reasons.specs.Workloads.{role_of, is_client_line, role_fault, line_fault_at}
use Rattle.pc_reasons.specs.Causes.{IsLineReason, IsExplained}
use Rattle.pc_reasons.proofs.RoleLemmas.{Agrees, role_told, any_client_told}

-- the first bad line of some lines, with those around it
record Split (lines : List (List ℕ)) (number : ℕ) : Type 0 where
  before : List (List ℕ)
  line : List ℕ
  behind : List (List ℕ)
  cut : before ++ line ∷ behind ≡ lines
  place : number ≡ length before + 1
  bad : is_bad_line (map spelled_phrase before) (spelled_phrase line) (map spelled_phrase behind) ≡ true

some_same : {A : Type 0} (x y : A) → Some x ≡ Some y → x ≡ y
some_same x y e = cc

-- the first line of those that are left, or one after it
here_or_later : (before : List (List ℕ)) (line : List ℕ) (left : List (List ℕ)) (number : ℕ) (b : Bool)
    → is_bad_line (map spelled_phrase before) (spelled_phrase line) (map spelled_phrase left) ≡ b
    → (if b then Some (length (map spelled_phrase before) + 1) else first_bad (map spelled_phrase before ++ spelled_phrase line ∷ []) (map spelled_phrase left)) ≡ Some number
    → (first_bad (map spelled_phrase (before ++ line ∷ [])) (map spelled_phrase left) ≡ Some number → Split ((before ++ line ∷ []) ++ left) number)
    → Split (before ++ line ∷ left) number
here_or_later before line left number true h e later =
    record { before = before; line = line; behind = left; cut = refl; place = sym (some_same _ _ e) ∙ ap (λ n. n + 1) (length-map before spelled_phrase); bad = h }
here_or_later before line left number false h e later =
    let same : map spelled_phrase (before ++ line ∷ []) ≡ map spelled_phrase before ++ spelled_phrase line ∷ [] = map-append spelled_phrase before (line ∷ []) in
    let next = later (subst (λ (lines : List Phrase). first_bad lines (map spelled_phrase left) ≡ Some number) (sym same) e) in
    record { before = next.before; line = next.line; behind = next.behind; cut = next.cut ∙ append_assoc before (line ∷ []) left; place = next.place; bad = next.bad }

split : (before left : List (List ℕ)) (number : ℕ) → first_bad (map spelled_phrase before) (map spelled_phrase left) ≡ Some number → Split (before ++ left) number
split before [] number e = absurd cc
split before (line ∷ left) number e =
    here_or_later before line left number (is_bad_line (map spelled_phrase before) (spelled_phrase line) (map spelled_phrase left)) refl e
    (split (before ++ line ∷ []) left number)

-- the reason for the line of that number
fault_there : (before : List (List ℕ)) (line : List ℕ) (behind : List (List ℕ)) (number : ℕ) → number ≡ length before + 1
    → line_fault_at (before ++ line ∷ behind) number ≡ role_fault (list_any is_client_line before) (role_of line)
fault_there before line behind number at =
    let before_it : number - 1 ≡ length before = omega arith in
    let test : (nat_lt 0 number && nat_le number (length (before ++ line ∷ behind))) ≡ true = grind (arith, nat_tests, at, length-append before (line ∷ behind)) in
    rw (test, before_it, take-append_seam, get_or-append_seam) refl

not_true : (b : Bool) → not b ≡ true → b ≡ false
not_true true e = absurd cc
not_true false e = refl

left_true : (x y : Bool) → (x || y) ≡ true → y ≡ false → x ≡ true
left_true true y e f = refl
left_true false y e f = absurd cc

right_false : (x y : Bool) → (not x || not y) ≡ true → x ≡ true → y ≡ false
right_false true y e f = not_true y e
right_false false y e f = absurd cc

module _ (before : List Phrase) (behind : List Phrase) where
  points_explained : (n : ℕ) (has : Bool) → has ≡ list_any is_client before → (list_any is_points before || list_any is_client before) ≡ true → IsSomeAnd (role_fault has role.Points) (IsLineReason before (phrase.Points n) behind)
  points_explained n true is bad = (refl, sym is)
  points_explained n false is bad = (refl, left_true (list_any is_points before) (list_any is_client before) bad (sym is))

  begin_explained : (has : Bool) → has ≡ list_any is_client before → (not (list_any is_client before) || not (closes behind)) ≡ true → IsSomeAnd (role_fault has role.Begin) (IsLineReason before phrase.Begin behind)
  begin_explained true is bad = (refl, right_false (list_any is_client before) (closes behind) bad (sym is))
  begin_explained false is bad = (inl refl, sym is)

  explained : (line : Phrase) (has : Bool) (its : LineRole) → has ≡ list_any is_client before → Agrees line its → is_bad_line before line behind ≡ true → IsSomeAnd (role_fault has its) (IsLineReason before line behind)
  explained phrase.Silent has its is e bad = absurd cc
  explained (phrase.Points n) has its is e bad = subst (λ (r : LineRole). IsSomeAnd (role_fault has r) (IsLineReason before (phrase.Points n) behind)) (sym e) (points_explained n has is bad)
  explained (phrase.Client s) has its is e bad = subst (λ (r : LineRole). IsSomeAnd (role_fault has r) (IsLineReason before (phrase.Client s) behind)) (sym e) (s, refl, bad)
  explained phrase.Begin has its is e bad = subst (λ (r : LineRole). IsSomeAnd (role_fault has r) (IsLineReason before phrase.Begin behind)) (sym e) (begin_explained has is bad)
  explained (phrase.Does op) has its is e bad = subst (λ (r : LineRole). IsSomeAnd (role_fault has r) (IsLineReason before (phrase.Does op) behind)) (sym e) (inr (op, refl), not_true (is_open_after_lines before) bad)
  explained phrase.End has its is e bad = subst (λ (r : LineRole). IsSomeAnd (role_fault has r) (IsLineReason before phrase.End behind)) (sym e) (inl refl, not_true (is_open_after_lines before) bad)
  explained (phrase.Fill f) has its is e bad = subst (λ (r : LineRole). IsSomeAnd (role_fault has r) (IsLineReason before (phrase.Fill f) behind)) (sym e) (inr (f, refl), not_true (list_any is_client before) bad)
  explained phrase.Malformed has its is (f, e) bad = subst (λ (r : LineRole). IsSomeAnd (role_fault has r) (IsLineReason before phrase.Malformed behind)) (sym e) refl

first : (found : Option ℕ) (workload : Workload) (number : ℕ) → reading_of_workload found workload ≡ BadLine number → found ≡ Some number
first None workload number e = absurd cc
first (Some n) workload number e = cc

-- the first bad line is explained
pub line_explained : (lines : List (List ℕ)) (number : ℕ) → worth (map spelled_phrase lines) ≡ BadLine number → IsExplained (map spelled_phrase lines) number (line_fault_at lines number)
line_explained lines number e =
    let s = split [] lines number (first (first_bad [] (map spelled_phrase lines)) (workload_of (map spelled_phrase lines)) number e) in
    let told : line_fault_at lines number ≡ role_fault (list_any is_client_line s.before) (role_of s.line) = ap (λ (all : List (List ℕ)). line_fault_at all number) (sym s.cut) ∙ fault_there s.before s.line s.behind number s.place in (
      map spelled_phrase s.before,
      spelled_phrase s.line,
      map spelled_phrase s.behind,
      sym (map-append spelled_phrase s.before (s.line ∷ s.behind)) ∙ ap (map spelled_phrase) s.cut,
      s.place ∙ ap (λ n. n + 1) (sym (length-map s.before spelled_phrase)),
      rw told (explained (map spelled_phrase s.before) (map spelled_phrase s.behind) (spelled_phrase s.line) (list_any is_client_line s.before) (role_of s.line) (any_client_told s.before) (role_told s.line) s.bad),
    )

-- the same of what a call has returned
pub returned_explained : {E : Type 0} (returned : Result (Option WorkloadFault) E) (lines : List (List ℕ)) (number : ℕ) → IfOk returned (λ fault. fault ≡ line_fault_at lines number)
    → worth (map spelled_phrase lines) ≡ BadLine number → IfOk returned (IsExplained (map spelled_phrase lines) number)
returned_explained (Ok fault) lines number is bad = rw is (line_explained lines number bad)
returned_explained (Err e) lines number is bad = tt
