-- The entries that a pass has handed out.
use Rattle.std.proofs.Common.{◌≡◌, ℕ, zero, suc, ◌+◌, ◌≤◌, List, [], ◌∷◌, ◌++◌, length, length-append, take, drop, take_all, ap, sym, subst, ◌∙◌, arith}
use Rattle.std.proofs.Math.Seq.{take-add}
use Rattle.std.proofs.lemmas.List.{take-append-drop, take-append-le, length-drop, length-take-le}
use mathlib.Core.List.{IsPrefix}
use Rattle.pc_types.specs.declared.Entry.{Entry}
use Rattle.pc_model.specs.History.{History, log_of}
use Rattle.pc_model.specs.Calls.{IsBeginning}
use Rattle.pc_model.specs.Replies.{Setting, IsLegalHistory}
use Rattle.pc_model.proofs.BeginningLaws.{logs_grow}
use Rattle.pc_engine.specs.Store.{Store, setting_of}
use Rattle.pc_engine.specs.Stands.{Stands}

taken_within : {X : Type 0} (n : ℕ) (xs : List X) → length (take n xs) ≤ length xs
taken_within zero xs = omega arith
taken_within (suc n) [] = omega arith
taken_within (suc n) (x ∷ xs) = let t = taken_within n xs in omega (arith, t)

-- the history that the latch's world represents is legal, and so is the one that a witness of it has seen
pub legal_now : (st : Setting) (w : Store) (hist now : History) → Stands w hist → setting_of w ≡ st → now ≡ hist → IsLegalHistory st now
legal_now st w hist now stands is sees = subst (IsLegalHistory st) (sym sees) (subst (λ (s : Setting). IsLegalHistory s hist) is stands.legal)

-- the log has grown
pub still_within : (n : ℕ) (seen hist : History) → IsBeginning seen hist → n ≤ length (log_of seen) → n ≤ length (log_of hist)
still_within n seen hist p lt = let g = logs_grow seen hist p in omega (arith, lt, ap length g.1, length-append (log_of seen) g.0)

-- and its first entries are the same
pub still_first : (n : ℕ) (seen hist : History) → IsBeginning seen hist → n ≤ length (log_of seen) → take n (log_of hist) ≡ take n (log_of seen)
still_first n seen hist p lt = let g = logs_grow seen hist p in ap (take n) g.1 ∙ take-append-le n (log_of seen) g.0 lt

pub first_length : (n : ℕ) (log given : List Entry) → n ≤ length log → take n log ≡ given → length given ≡ n
first_length n log given lt is = ap length (sym is) ∙ length-take-le n log lt

-- the entries that a pass has handed out, by the history that its witness then sees
pub first_are : (n : ℕ) (seen hist : History) (given : List Entry) → IsBeginning seen hist → n ≤ length (log_of seen) → take n (log_of seen) ≡ given → given ≡ take (length given) (log_of hist)
first_are n seen hist given told lt is = sym is ∙ (sym (still_first n seen hist told lt) ∙ ap (λ k. take k (log_of hist)) (sym (first_length n (log_of seen) given lt is)))

-- the first entries of the log of the current history, which the witness sees
pub first_in : (n : ℕ) (hist now whole : History) → now ≡ hist → hist ≡ whole → IsPrefix (take n (log_of now)) (log_of whole)
first_in n hist now whole sees is = (drop n (log_of now), take-append-drop n (log_of now) ∙ ap log_of (sees ∙ is))

-- if that is all, it has each entry that a beginning of the history has
pub all_handed : (mark hist : History) (log given : List Entry) → IsBeginning mark hist → given ≡ take (length given) (log_of hist) → log ≡ log_of hist → length log ≤ length given → IsPrefix (log_of mark) given
all_handed mark hist log given past first log_is all =
    let g = logs_grow mark hist past in
    let whole : given ≡ log_of hist = first ∙ take_all (length given) (log_of hist) (omega (arith, all, ap length log_is)) in
    (g.0, sym g.1 ∙ sym whole)

-- A pass had handed out n entries of the log that its witness had seen, which now sees the latch's history; the next `size` entries
-- of the log are handed out.
module _ (n size : ℕ) (seen hist now : History) (log next : List Entry) (told : IsBeginning seen hist) (sees : now ≡ hist)
    (lt : n ≤ length (log_of seen)) (log_is : log ≡ log_of hist) (is : next ≡ take (length next) (drop n log)) (len : size ≡ length next) where
  next_is : next ≡ take (length next) (drop n (log_of hist))
  next_is = is ∙ ap (λ (l : List Entry). take (length next) (drop n l)) log_is

  log_now : log_of now ≡ log_of hist
  log_now = ap log_of sees

  more_first : take (n + size) (log_of hist) ≡ take n (log_of hist) ++ next
  more_first =
      ap (λ k. take (n + k) (log_of hist)) len ∙ (take-add n (length next) (log_of hist) ∙ ap (λ l. take n (log_of hist) ++ l) (sym next_is))

  pub more_within : n + size ≤ length log
  more_within =
      let t = taken_within (length next) (drop n (log_of hist)) in
      omega (arith, t, still_within n seen hist told lt, ap length next_is, length-drop n (log_of hist), len, ap length log_is)

  pub more_listed : take (n + size) (log_of now) ≡ take n (log_of seen) ++ next
  more_listed = ap (take (n + size)) log_now ∙ (more_first ∙ ap (λ (l : List Entry). l ++ next) (still_first n seen hist told lt))
