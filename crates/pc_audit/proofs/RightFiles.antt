-- Copies of complete files are correct if and only if the files are, and a file that a legal history gives its points
-- is correct.
use Rattle.std.proofs.Common.{◌≡◌, ◌↔◌, ℕ, zero, suc, ◌+◌, ◌<◌, ◌≤◌, List, [], ◌∷◌, ◌++◌, length, take, get_or, All, IsTrue, refl, sym, ap, ◌∙◌, subst, arith}
use Rattle.std.proofs.lemmas.Grind.{common_steps}
use Rattle.std.proofs.lemmas.List.{take_more, get_or_append_left}
use Rattle.std.proofs.lemmas.List.Elements.{All-push}
use Rattle.std.proofs.Math.Seq.{get_or-append_seam}
use Rattle.pc_types.specs.declared.Entry.{Entry}
use Rattle.pc_model.specs.Database.{Database}
use Rattle.pc_model.specs.Log.{has_token, state_at}
use Rattle.pc_model.specs.Points.{laid, content}
use Rattle.pc_model.specs.Files.{File, numbers_to}
use Rattle.pc_replay.specs.Audits.{IsRight, triples_from}
use Rattle.pc_replay.specs.declared.audits.CompleteFile.{CompleteFile}
use Rattle.pc_part.specs.Parts.{CoversTo}
use Rattle.std.specs.Prelude.{true, ◌&&◌, nat_lt, nat_le}
use Rattle.std.proofs.lemmas.Bool.Decides.{nat_tests}
use Rattle.pc_model.specs.Sets as set
use Rattle.pc_model.specs.Sets.{Set, number_order}
use Rattle.pc_model.specs.Numbers.{is_one_of}
use Rattle.pc_model.specs.History.{History, log_of}
use Rattle.pc_model.specs.Replies.{Setting, IsLegalHistory}
use Rattle.pc_model.specs.Standing.{IsOfItsPoints, PrecedesNext}
use Rattle.pc_model.proofs.ContentLaws.{contains-items, one_of_numbers, laid_content}
use Rattle.pc_model.proofs.LegalEffectLaws.{legal_has_legal_effects}
use Rattle.pc_model.proofs.ShelfFileLaws.{is_ordered}
use Rattle.pc_audit.specs.Checks.{IsFileRight}

-- all of a list with one more at the end
pub all_pushed : {X : Type 0} (P : X → Type 0) (xs : List X) (x : X) → All P (xs ++ x ∷ []) ↔ (All P xs × P x)
all_pushed P xs x = (
  λ all. (
    λ k d lt. subst P (get_or_append_left xs (x ∷ []) d k lt) (all k d (longer k lt)),
    subst P (get_or-append_seam xs x [] x) (all (length xs) x last),
  ),
  λ both. All-push P xs x both.0 both.1,
)
  where
    longer : (k : ℕ) → k < length xs → k < length (xs ++ x ∷ [])
    longer k lt = grind (arith, common_steps, lt)

    last : length xs < length (xs ++ x ∷ [])
    last = grind (arith, common_steps)

-- that many numbers
numbers_len : (n : ℕ) → length (numbers_to n) ≡ n
numbers_len zero = refl
numbers_len (suc n) = grind (arith, common_steps, numbers_len n)

-- a file has one last point
one_last : (file : File) (n m : ℕ) → CoversTo file n → CoversTo file m → n ≡ m
one_last file n m first second = sym (numbers_len n) ∙ ap length (sym first.1 ∙ second.1) ∙ numbers_len m

-- a copy is correct if and only if the file is
copy_right : (base : Database) (log : List Entry) (file : File) (c : CompleteFile) → CoversTo file c.point → triples_from c.triples.items ≡ file.triples → IsRight base log c ↔ IsFileRight base log file
copy_right base log file c covers same = (
  λ right n other. let at : c.point ≡ n = one_last file c.point n covers other in
      subst (λ k. IsTrue (has_token k log) × (laid base 0 file.triples ≡ state_at base log k)) at (right.has_point, ap (laid base 0) (sym same) ∙ right.is_the_state),
  λ right. let own = right c.point covers in record { has_point = own.0; is_the_state = ap (laid base 0) same ∙ own.1 },
)

-- one more file, which is correct if its copy is, or whose points are not 1 to some n
pub with_copy : (base : Database) (log : List Entry) (copies : List CompleteFile) (file : File) (c : CompleteFile) → CoversTo file c.point → triples_from c.triples.items ≡ file.triples →
    All (IsRight base log) (copies ++ c ∷ []) ↔ (All (IsRight base log) copies × IsFileRight base log file)
with_copy base log copies file c covers same =
    let pushed = all_pushed (IsRight base log) copies c in
    let right = copy_right base log file c covers same in (
      λ all. let both = pushed.0 all in (both.0, right.0 both.1),
      λ both. pushed.1 (both.0, right.1 both.1),
    )

pub without_copy : (base : Database) (log : List Entry) (copies : List CompleteFile) (file : File) → ((n : ℕ) → ¬ CoversTo file n) →
    All (IsRight base log) copies ↔ (All (IsRight base log) copies × IsFileRight base log file)
without_copy base log copies file none = (λ all. (all, λ n covers. absurd (none n covers)), λ both. both.0)

-- one more file of a list, and what became of its copies
pub one_more : (base : Database) (log : List Entry) (copies more : List CompleteFile) (files : List File) (i : ℕ) (file : File) → i < length files → file ≡ get_or files i file →
    All (IsRight base log) more ↔ (All (IsRight base log) copies × IsFileRight base log file) → All (IsRight base log) copies ↔ All (IsFileRight base log) (take i files) →
    All (IsRight base log) more ↔ All (IsFileRight base log) (take (i + 1) files)
one_more base log copies more files i file lt is step before =
    let P = IsFileRight base log in
    let longer : take (i + 1) files ≡ take i files ++ file ∷ [] = take_more files i file lt ∙ ap (λ (x : File). take i files ++ x ∷ []) (sym is) in
    let pushed = all_pushed P (take i files) file in
    let Q : List File → Type 0 = λ fs. All (IsRight base log) more ↔ All P fs in
    subst Q (sym longer) (λ all. let both = step.0 all in pushed.1 (before.0 both.0, both.1), λ all. let both = pushed.0 all in step.1 (before.1 both.0, both.1))

-- a set of the numbers 1 to n has each of them
pub has_each : (points : Set number_order) (n p : ℕ) → 0 < p → p ≤ n → set.items points ≡ numbers_to n → set.contains points p ≡ true
has_each points n p some within covers = contains-items points p ∙ ap (is_one_of p) covers ∙ one_of_numbers n p ∙ inside
  where
    inside : (nat_lt 0 p && nat_le p n) ≡ true
    inside = grind (arith, nat_tests, some, within)

-- a file that a legal history gives its points is correct
pub right_of_points : (st : Setting) (h : History) (file : File) → IsLegalHistory st h → IsOfItsPoints st.run st.base (log_of h) file → IsFileRight st.base (log_of h) file
right_of_points st h file legal of n covers = (
  of.has_tokens n (has_each file.points n n (omega (arith, covers.0)) (omega arith) covers.1),
  ap (laid st.base 0) (ap (λ g. g.triples) of.is ∙ ap (content st.base (log_of h)) covers.1) ∙ laid_content st.base (log_of h) n in_order,
)
  where
    in_order : (p : ℕ) → p < n → PrecedesNext p (log_of h)
    in_order p below = (is_ordered st h (legal_has_legal_effects st h legal)).in_order p (of.has_tokens (p + 1) (has_each file.points n (p + 1) (omega arith) (omega (arith, below)) covers.1))
