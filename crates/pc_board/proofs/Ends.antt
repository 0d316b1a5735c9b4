-- The final totals of a board.
use Rattle.std.proofs.Common.{map, ◌≡◌, ℕ, zero, suc, ◌≤◌, List, [], ◌∷◌, ◌++◌, length, refl, ap, sym, ◌∙◌, arith, All}
use Rattle.std.proofs.lemmas.List.Elements.{All-append, All-head, All-tail, All-cons}
use mathlib.Core.Option.{some, some-injective}
use lib.ListN.{get_elem?}
use Rattle.atomic_table.specs.Table.{Final, Seen}
use Rattle.pc_types.specs.declared.limits.TheConstants.{MOST_POINTS}
use Rattle.pc_board.specs.declared.calls.Call.{Call}
use Rattle.pc_board.specs.declared.sight.Account.{Account}
use Rattle.pc_board.specs.declared.sight.PassSight.{PassSight}
use Rattle.pc_board.specs.declared.sight.PassSight.TheVariants.{Closer}
use Rattle.pc_board.specs.Calls.{claims_of, greatest_of}
use Rattle.pc_board.specs.Passes.{Board, Pass, IsOfBoard, new_passes, HasCallsOfPass, IsBoardEnd}
use Rattle.pc_board.specs.Rules.{SpeaksFor, FitsPass, HasOneCallHistory, account}

abbrev pub account_of : Pass → Account
account_of pass = account pass.number pass.seen

pub nothing_left : {A : Type 0} (items : List A) → length items ≡ 0 → items ≡ []
nothing_left [] e = refl
nothing_left (x ∷ xs) e = absurd (omega arith)

pub all_at : {A : Type 0} (P : A → Type 0) (before : List A) (item : A) (after : List A) → All P (before ++ item ∷ after) → P item
all_at P [] item after all = All-head P item after all
all_at P (x ∷ xs) item after all = all_at P xs item after (All-tail P x (xs ++ item ∷ after) all)

-- the passes of a new board are its passes
pub new_passes_are_ours : (board : Board) (count : ℕ) → All (λ (pass : Pass). IsOfBoard pass board) (new_passes board.name count)
new_passes_are_ours board zero = λ k d lt. absurd (omega arith)
new_passes_are_ours board (suc count) =
    let next : Pass = record { board = board.name; number = count; seen = [] } in
    All-append (λ (pass : Pass). IsOfBoard pass board) (new_passes board.name count) (next ∷ []) (new_passes_are_ours board count)
    (All-cons (λ (pass : Pass). IsOfBoard pass board) next [] refl (λ k d lt. absurd (omega arith)))

-- each pass whose account is there has its calls in the history
told_by : (history : List Call) (owner : ℕ → ℕ) (seat : ℕ) (passes : List Pass)
    → ((k : ℕ) (x : Account) → get_elem? (map account_of passes) k ≡ some x → SpeaksFor history owner seat x.by x.seen) → All (HasCallsOfPass history) passes
told_by history owner seat [] f = λ k d lt. absurd (omega arith)
told_by history owner seat (pass ∷ rest) f =
    All-cons (HasCallsOfPass history) pass rest (let s = f 0 (account_of pass) refl in (s.1, s.2)) (told_by history owner seat rest (λ k x e. f (suc k) x e))

module _ {S : Type 0} (board : Board) (seat : ℕ) (sight : PassSight) (words : List ℕ) (slots : List S) (claims horizon : ℕ) (final : Final (Seen (HasOneCallHistory {S = S} board.passes) seat sight) words slots)
    (zeroth : get_elem? words 0 ≡ some claims) (first : get_elem? words 1 ≡ some horizon) where
  are : words ≡ claims_of final.1.0.history ∷ greatest_of final.1.0.history ∷ []
  are = sym final.2 ∙ final.1.0.words

  horizon_is : horizon ≡ greatest_of final.1.0.history
  horizon_is = sym (some-injective _ _ (ap (λ ws. get_elem? ws 1) (sym are) ∙ first))

  -- the second word is a point, or 0
  pub is_point : horizon ≤ MOST_POINTS
  is_point = omega (arith, final.1.0.most_points, horizon_is)

  pub ends : (passes : List Pass) → sight ≡ Closer (map account_of passes) → IsBoardEnd board claims horizon passes
  ends passes is =
      let r = final.1.0 in
      let told : FitsPass board.passes r.history r.owner seat (Closer (map account_of passes)) = r.each seat (Closer (map account_of passes)) (final.1.1 ∙ ap some is) in record {
        history = r.history;
        legal = r.legal;
        ours = r.ours;
        claims_are = sym (some-injective _ _ (ap (λ ws. get_elem? ws 0) (sym are) ∙ zeroth));
        horizon_is = horizon_is;
        each = told_by r.history r.owner seat passes told;
      }
