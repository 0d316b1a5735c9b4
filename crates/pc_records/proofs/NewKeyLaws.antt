-- The keys that a commit adds to the open set.
use Rattle.std.proofs.Common.{◌≡◌, ℕ, ◌+◌, ◌≤◌, List, [], ◌∷◌, ◌++◌, length, refl, sym, ap, ◌∙◌, arith, append_assoc, Bool, true, false, cond, is_some, is_none, ◌||◌}
use Rattle.std.proofs.lemmas.List.{append-nil}
use Rattle.std.proofs.lemmas.List.Folds.{list_any-append}
use Rattle.std.proofs.lemmas.Bool.Decides.{nat_tests}
use Rattle.pc_types.specs.declared.Write.{Write}
use Rattle.pc_model.specs.Database.{same_bytes, with_write, written}
use Rattle.pc_model.specs.Points.{is_among, with_keys}
use Rattle.pc_model.proofs.JoinLaws.{one_key}
use Rattle.pc_model.specs.DistinctWrites.{AreDistinct}
use Rattle.pc_records.specs.NewKeys.{with_new, new_keys, is_one_too_many}
use Rattle.pc_records.specs.Rows.{Row, record_of, is_in_open_set}
use Rattle.pc_records.proofs.WrittenKeys.{written_own, written_later}

pub no_more_new : (rows : List Row) (writes : List Write) → length (new_keys rows writes) ≤ length writes
no_more_new rows [] = omega arith
no_more_new rows (w ∷ ws) = grind (arith, no_more_new rows ws)

or_first : (a b : Bool) → b ≡ false → a ≡ (a || (b || false))
or_first true b e = refl
or_first false b e = rw e refl

-- with the keys of distinct writes a list grows by those that it doesn't have
pub with_keys_new : (keys : List (List ℕ)) (rows : List Row) (ws : List Write) → AreDistinct ws → ((q : List ℕ) → is_some (written ws q) ≡ true → is_in_open_set (record_of rows q) ≡ is_among keys q) → with_keys keys ws ≡ keys ++ new_keys rows ws
with_keys_new keys rows [] distinct open_now = sym (append-nil keys)
with_keys_new keys rows (w ∷ ws) distinct open_now = by_there (is_among keys w.key) refl (λ more. with_keys_new more rows ws distinct.1)
  where
    own : is_in_open_set (record_of rows w.key) ≡ is_among keys w.key
    own = open_now w.key (written_own w ws)

    later : (q : List ℕ) → is_some (written ws q) ≡ true → is_in_open_set (record_of rows q) ≡ is_among keys q
    later q there = open_now q (written_later w ws q there)

    apart : (q : List ℕ) → is_some (written ws q) ≡ true → same_bytes q w.key ≡ false
    apart q there = by_same (same_bytes q w.key) refl
      where
        no : (b : Bool) → b ≡ true → b ≡ false → ⊥
        no true t f = cc
        no false t f = cc

        by_same : (b : Bool) → same_bytes q w.key ≡ b → b ≡ false
        by_same true e = absurd (no (is_some (written ws w.key)) (ap (λ k. is_some (written ws k)) (sym (one_key q w.key e)) ∙ there) distinct.0)
        by_same false e = refl

    by_there : (b : Bool) → is_among keys w.key ≡ b → ((more : List (List ℕ)) → ((q : List ℕ) → is_some (written ws q) ≡ true → is_in_open_set (record_of rows q) ≡ is_among more q) → with_keys more ws ≡ more ++ new_keys rows ws) →
        with_keys (cond b keys (keys ++ w.key ∷ [])) ws ≡ keys ++ with_new (is_in_open_set (record_of rows w.key)) w.key (new_keys rows ws)
    by_there true e again = rw (own ∙ e) (again keys later)
    by_there false e again =
        rw (own ∙ e) (again (keys ++ w.key ∷ []) (λ q there. later q there ∙ or_first (is_among keys q) (same_bytes q w.key) (apart q there) ∙ sym (list_any-append (same_bytes q) keys (w.key ∷ []))) ∙ append_assoc keys (w.key ∷ []) (new_keys rows ws))

length-with_write : (ws : List Write) (write : Write) → length (with_write ws write) ≡ length ws + cond (is_none (written ws write.key)) 1 0
length-with_write [] write = refl
length-with_write (w ∷ ws) write = grind (arith, length-with_write ws write)

-- one more write if they aren't too many
pub few_enough : (ws : List Write) (write : Write) → length ws ≤ 256 → is_one_too_many ws write.key ≡ false → length (with_write ws write) ≤ 256
few_enough ws write le few = grind (arith, nat_tests, length-with_write ws write)
