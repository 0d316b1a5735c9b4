-- Reading in order, as a loop does.
use Rattle.std.proofs.Common.{◌≡◌, ℕ, suc, ◌-◌, ◌+◌, ◌≤◌, ◌<◌, List, [], ◌∷◌, ◌++◌, Result, Ok, Err, refl, sym, ◌∙◌, arith}
use Rattle.pc_types.specs.declared.refusal.Refusal.{Refusal}
use Rattle.pc_types.specs.declared.Write.{Write}
use Rattle.pc_io.specs.declared.Format.{Format}
use Rattle.pc_log.specs.Reading.{write_at, writes_at}

-- ---- writes, at one turn of the loop

module _ (format : Format) (count i : ℕ) (earlier : List Write) (bytes : List ℕ) (total : Result (List Write × List ℕ) Refusal) (so_far : writes_at format (count - i) earlier bytes ≡ total) where
  pub write_goes_on : (write : Write) (after : List ℕ) → i < count → write_at format earlier bytes ≡ Ok (write, after) → writes_at format (count - (i + 1)) (earlier ++ write ∷ []) after ≡ total
  unfolding writes_at
  write_goes_on write after more h =
      let k : count - i ≡ suc (count - (i + 1)) = omega arith in
      let one : writes_at format (count - i) earlier bytes ≡ writes_at format (count - (i + 1)) (earlier ++ write ∷ []) after = rw (k, h) refl in
      sym one ∙ so_far

  pub write_stops : (e : Refusal) → i < count → write_at format earlier bytes ≡ Err e → total ≡ Err e
  unfolding writes_at
  write_stops e more h =
      let k : count - i ≡ suc (count - (i + 1)) = omega arith in
      let one : writes_at format (count - i) earlier bytes ≡ Err e = rw (k, h) refl in
      sym so_far ∙ one

  pub writes_done : count ≤ i → total ≡ Ok (earlier, bytes)
  unfolding writes_at
  writes_done none =
      let k : count - i ≡ 0 = omega arith in
      let one : writes_at format (count - i) earlier bytes ≡ Ok (earlier, bytes) = rw k refl in
      sym so_far ∙ one
