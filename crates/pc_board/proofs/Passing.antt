-- What a pass is after a step of its seat.
use Rattle.std.proofs.Common.{◌≡◌, ℕ, ◌+◌, List, [], ◌++◌, ap, sym, ◌∙◌, subst, arith}
use Rattle.std.proofs.lemmas.List.{append-nil}
use Rattle.atomic_table.specs.Seated.{TableId}
use Rattle.atomic_table.specs.Table.{Me}
use Rattle.pc_board.specs.declared.calls.CallKind.{CallKind}
use Rattle.pc_board.specs.declared.calls.CallKind.TheVariants.{Look}
use Rattle.pc_board.specs.declared.calls.Call.{Call}
use Rattle.pc_board.specs.declared.sight.PassSight.{PassSight}
use Rattle.pc_board.specs.declared.sight.PassSight.TheVariants.{Holder}
use Rattle.pc_board.specs.Calls.{call, claims_in, calls_by, claims_of, greatest_of, AreLegalCalls, NoneAbove}
use Rattle.pc_board.specs.Passes.{Pass, EndsWithCall, MakesCall, claims_made}
use Rattle.pc_board.specs.Rules.{pass_number, seen_of, Makes}
use Rattle.pc_board.proofs.Histories.{none_above_greatest}
use Rattle.pc_board.proofs.Sums.{calls_by-append, claims_of-own, greatest_of-append}

-- the pass whose seat is at this board
abbrev pub pass_at : {S : Type 0} → TableId → Me S PassSight → Pass
pass_at board me = record { board = board; number = pass_number me.0; seen = seen_of me.0 }

abbrev pub IsHolder : {S : Type 0} → Me S PassSight → Type 0
IsHolder me = me ≡ (Holder (pass_number me.0) (seen_of me.0), [])

-- how many claims the pass has made after a call
claims_after : (before after : List Call) (c : Call) → EndsWithCall before c after → claims_of (calls_by c.by after) ≡ claims_of (calls_by c.by before) + claims_in c.kind
claims_after before after c e =
    let between = e.0 in
    let whole : claims_of (calls_by c.by after) ≡ claims_of (calls_by c.by (before ++ between)) + claims_in c.kind = ap (λ cs. claims_of (calls_by c.by cs)) e.1 ∙ claims_of-own (before ++ between) c in
    let none : calls_by c.by (before ++ between) ≡ calls_by c.by before = calls_by-append c.by before between ∙ (ap (λ cs. calls_by c.by before ++ cs) e.2 ∙ append-nil (calls_by c.by before)) in
    omega (arith, ap claims_of none)

module _ {S : Type 0} (board board' : TableId) (same : board' ≡ board) (kind : CallKind) (value : ℕ) (before after : Me S PassSight) (is : IsHolder before) (told : Makes (call (pass_number before.0) kind value) before after) where
  still_seen : seen_of after.0 ≡ told.0
  still_seen = ap (λ (m : Me S PassSight). seen_of m.0) told.1

  still_number : pass_number after.0 ≡ pass_number before.0
  still_number = ap (λ (m : Me S PassSight). pass_number m.0) told.1

  pub still_holder : IsHolder after
  still_holder = told.1 ∙ (λ i. (Holder (sym still_number i) (sym still_seen i), ap (λ (m : Me S PassSight). m.1) is i))

  pub makes_call : MakesCall (pass_at board before) kind value (pass_at board' after)
  makes_call = record {
    same = (same, still_number);
    legal = subst AreLegalCalls (sym still_seen) told.2;
    last = subst (EndsWithCall (seen_of before.0) (call (pass_number before.0) kind value)) (sym still_seen) told.3;
  }

  pub made_claims : claims_made (pass_at board' after) ≡ claims_made (pass_at board before) + claims_in kind
  made_claims =
      (λ i. claims_of (calls_by (still_number i) (still_seen i)))
      ∙ claims_after (seen_of before.0) told.0 (call (pass_number before.0) kind value) told.3

-- what a look gives is no less than each point that the pass had seen published
pub look_is_above : (before after : Pass) (found : ℕ) → MakesCall before Look found after → NoneAbove before.seen found
look_is_above before after found m =
    let right : found ≡ greatest_of (before.seen ++ m.last.0) = m.legal (before.seen ++ m.last.0) (call before.number Look found) [] m.last.1 in
    none_above_greatest before.seen found (omega (arith, greatest_of-append before.seen m.last.0))
