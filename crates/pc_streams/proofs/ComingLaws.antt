-- What is to come, step by step.
use Rattle.std.proofs.Common.{◌≡◌, ℕ, zero, suc, ◌≤◌, List, [], ◌∷◌, length, Option, Some, None, Result, Ok, Err, refl, sym, ap, arith}
use Rattle.pc_io.specs.Counted.{one_more}
use Rattle.pc_types.specs.declared.Refusal.{Refusal}
use Rattle.pc_types.specs.declared.Refusal.TheVariants.{Short}
use Rattle.pc_types.specs.declared.Triple.{Triple}
use Rattle.pc_io.specs.declared.formats.Format.{Format}
use Rattle.pc_part.specs.declared.ranges.Range.{Range}
use Rattle.pc_part.specs.Reading.{next_entry_at}
use Rattle.pc_merge.specs.Coming.{Coming, after_entry}
use Rattle.pc_streams.specs.Coming.{coming_from, coming_after_key, coming_of_bytes}
use Rattle.pc_streams.proofs.Shrinking.{next_shrinks}

-- of no bytes none is read
none_read : (format : Format) (ranges : List Range) (last : List ℕ) → next_entry_at format ranges last [] ≡ Err Short
unfolding next_entry_at
none_read format ranges last = refl

-- what comes from there on, if others that come after are the same
same_others : (f g : List ℕ → List ℕ → Coming) (count : ℕ) (r : Result (Option Triple × List ℕ) Refusal) → ((key rest : List ℕ) (next : Option Triple) → r ≡ Ok (next, rest) → f key rest ≡ g key rest) → coming_from f count r ≡ coming_from g count r
same_others f g count (Err why) h = refl
same_others f g count (Ok (None, rest)) h = refl
same_others f g count (Ok (Some entry, rest)) h = ap (after_entry entry) (h entry.key rest (Some entry) refl)

-- more turns than there are bytes change nothing
pub turns_enough : (format : Format) (t u : ℕ) (ranges : List Range) (count : ℕ) (last bytes : List ℕ) → length bytes ≤ t → length bytes ≤ u → coming_after_key format t ranges count last bytes ≡ coming_after_key format u ranges count last bytes
unfolding coming_after_key
turns_enough format zero zero ranges count last bytes p q = refl
turns_enough format zero (suc u) ranges count last [] p q = ap (coming_from (coming_after_key format u ranges (one_more count)) count) (sym (none_read format ranges last))
turns_enough format (suc t) zero ranges count last [] p q = ap (coming_from (coming_after_key format t ranges (one_more count)) count) (none_read format ranges last)
turns_enough format zero (suc u) ranges count last (b ∷ bytes) p q = absurd (omega arith)
turns_enough format (suc t) zero ranges count last (b ∷ bytes) p q = absurd (omega arith)
turns_enough format (suc t) (suc u) ranges count last bytes p q =
    same_others (coming_after_key format t ranges (one_more count)) (coming_after_key format u ranges (one_more count)) count (next_entry_at format ranges last bytes)
    (λ key rest next is. let fewer = next_shrinks format ranges last bytes next rest is in turns_enough format t u ranges (one_more count) key rest (omega arith) (omega arith))

-- one step
pub coming_is : (format : Format) (ranges : List Range) (count : ℕ) (last bytes : List ℕ) → coming_of_bytes format ranges count last bytes ≡ coming_from (coming_of_bytes format ranges (one_more count)) count (next_entry_at format ranges last bytes)
unfolding coming_after_key
coming_is format ranges count last [] = ap (coming_from (coming_of_bytes format ranges (one_more count)) count) (sym (none_read format ranges last))
coming_is format ranges count last (b ∷ bytes) = same_others (coming_after_key format (length bytes) ranges (one_more count)) (coming_of_bytes format ranges (one_more count)) count (next_entry_at format ranges last (b ∷ bytes))
    (λ key rest next is. let fewer = next_shrinks format ranges last (b ∷ bytes) next rest is in turns_enough format (length bytes) (length rest) ranges (one_more count) key rest (omega arith) (omega arith))
