-- What went out of a text that was put, once the output has ended.
use Rattle.std.proofs.Common.{◌≡◌, ◌⊎◌, ℕ, List, Option, Result, Ok, Err, inl, inr, ◌∙◌, arith}
use Rattle.std.specs.Io.KnownBytes.{Appends, Keeps}
use Rattle.pc_io.specs.Counted.{HasRisen, AppendsBeginning, after_flush}
use Rattle.pc_io.specs.Tallies.{Puts, failures_of}
use Rattle.pc_types.specs.declared.refusal.Refusal.{Refusal}
use Rattle.pc_io.specs.declared.tally.Tally.{Tally}
use Rattle.pc_io.proofs.KnownBytesLaws.{part_begins}
use Rattle.pc_texts.specs.Outputs.{IsUnprinted}
use Rattle.pc_texts.proofs.Begun.{appends_kept, begins_kept, whole_begins}

-- a flush counts its own failure alone
pub flush_counts : {E : Type 0} (flushed : Result (Unit {0}) E) (old new : ℕ) → new ≡ after_flush flushed old → (new ≡ old) ⊎ HasRisen old new
flush_counts (Ok u) old new is = inl is
flush_counts (Err e) old new is = inr (omega (arith, is))

module _ {T : Type 0} (contents : T → Option (List ℕ)) (a b c : Tally T) (x : List ℕ) where
  -- all of it
  pub whole_printed : (put : Result (Unit {0}) Refusal) → Puts contents a b put x → Keeps (contents b.inner) (contents c.inner) → (put ≡ Ok tt) × (failures_of c ≡ failures_of b)
      → Appends (contents a.inner) (contents c.inner) x × (failures_of c ≡ failures_of a)
  whole_printed (Ok u) p kept printed = (appends_kept (contents a.inner) (contents b.inner) (contents c.inner) x p.0 kept, printed.1 ∙ p.1)
  whole_printed (Err e) p kept printed = absurd (let other : Err e ≡ Ok tt = printed.0 in cc)

  -- a prefix, if the output failed
  pub part_printed : (put : Result (Unit {0}) Refusal) (why : Refusal) → Puts contents a b put x → Keeps (contents b.inner) (contents c.inner) → IsUnprinted put b c why
      → HasRisen (failures_of a) (failures_of c) × AppendsBeginning (contents a.inner) (contents c.inner) x
  part_printed (Ok u) why p kept (inl both) = absurd (let other : Ok u ≡ Err why = both.0 in cc)
  part_printed (Ok u) why p kept (inr both) =
      (omega (arith, both.1, p.1), begins_kept (contents a.inner) (contents b.inner) (contents c.inner) x (whole_begins (contents a.inner) (contents b.inner) x p.0) kept)
  part_printed (Err e) why p kept (inl (is, inl same)) =
      (omega (arith, p.1, same), begins_kept (contents a.inner) (contents b.inner) (contents c.inner) x (part_begins (contents a.inner) (contents b.inner) x p.2) kept)
  part_printed (Err e) why p kept (inl (is, inr risen)) =
      (omega (arith, p.1, risen), begins_kept (contents a.inner) (contents b.inner) (contents c.inner) x (part_begins (contents a.inner) (contents b.inner) x p.2) kept)
  part_printed (Err e) why p kept (inr both) =
      (omega (arith, p.1, both.1), begins_kept (contents a.inner) (contents b.inner) (contents c.inner) x (part_begins (contents a.inner) (contents b.inner) x p.2) kept)
