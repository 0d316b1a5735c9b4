-- What was read of some bytes of a text is what is read of the text.
use Rattle.std.proofs.Common.{◌≡◌, ◌≢◌, ℕ, ◌+◌, ◌-◌, ◌≤◌, List, [], ◌++◌, length, drop, append-nil, Option, Some, None, Result, Ok, Err, refl, sym, ap, ◌∙◌, subst, ◌⊎◌, inl, inr, ⊎_elim, true, false, arith}
use Rattle.std.proofs.lemmas.List.{length-append, drop_at}
use Rattle.std.specs.Io.KnownBytes.{Keeps, IsAtEnd, prepend_known}
use Rattle.std.specs.Result.{IsErr, IsErrAnd}
use Rattle.pc_types.specs.declared.Refusal.{Refusal}
use Rattle.pc_types.specs.declared.Refusal.TheVariants.{OutOfMemory, Device, Short}
use Rattle.pc_io.specs.Counted.{HasRisen}
use Rattle.pc_io.specs.Tallies.{failures_of}
use Rattle.pc_io.specs.declared.tally.Tally.{Tally}
use Rattle.pc_part.specs.RoundTrips.{IsLocal}
use Rattle.pc_streams.specs.Draws.{CountsFailures, Draws}

pub keeps_on : (a b c : Option (List ℕ)) → Keeps a b → Keeps b c → Keeps a c
keeps_on None b c p q = tt
keeps_on (Some a) None c p q = absurd p
keeps_on (Some a) (Some b) None p q = absurd q
keeps_on (Some a) (Some b) (Some c) p q = q ∙ p

-- what is left after a text
pub behind_text : (bytes text rest : List ℕ) → bytes ≡ text ++ rest → drop (length bytes - length rest) bytes ≡ rest
behind_text bytes text rest is =
    let whole : length bytes ≡ length text + length rest = ap length is ∙ length-append text rest in
    let place : length bytes - length rest ≡ length text = omega (arith, whole) in
    ap (λ (n : ℕ). drop n bytes) place ∙ ap (drop (length text)) is ∙ drop_at text rest (length text) refl

-- what is left is no longer
pub rest_fits : (bytes text rest : List ℕ) → bytes ≡ text ++ rest → length rest ≤ length bytes
rest_fits bytes text rest is = omega (arith, ap length is, length-append text rest)

-- why a call is refused for good: memory or the device failed, or the bytes have this fault, and if they end too soon no more
-- come
abbrev pub Stands : Refusal → Refusal → List ℕ → List ℕ → Option (List ℕ) → Type 0
Stands e why buffer after rem = (e ≡ OutOfMemory) ⊎ (e ≡ Device) ⊎ ((e ≡ why) × (why ≡ Short → (after ≡ buffer) × IsAtEnd rem))

module _ {X Y : Type 0} (view : X → Y) (read : List ℕ → Result (Y × List ℕ) Refusal) (local : IsLocal read) where
  drawn : (old rem : Option (List ℕ)) (buffer rest : List ℕ) (x : X) → Keeps old (prepend_known buffer rem) → read buffer ≡ Ok (view x, rest) → Draws view old (prepend_known rest rem) (Ok x) read
  drawn None rem buffer rest x keeps is = tt
  drawn (Some xs) None buffer rest x keeps is = absurd keeps
  drawn (Some xs) (Some ys) buffer rest x keeps is = ap read (sym keeps) ∙ local.ok buffer ys (view x) rest is

  -- something was read, and what is after it is kept
  pub drawn_by : (old rem : Option (List ℕ)) (buffer seen rest kept : List ℕ) (x : X) → Keeps old (prepend_known buffer rem) → seen ≡ buffer → kept ≡ drop (length buffer - length rest) buffer → read seen ≡ Ok (view x, rest) → Draws view old (prepend_known kept rem) (Ok x) read
  drawn_by old rem buffer seen rest kept x keeps same left is =
      let here : read buffer ≡ Ok (view x, rest) = ap read (sym same) ∙ is in
      let back = local.back buffer (view x) rest here in
      subst (λ (k : List ℕ). Draws view old (prepend_known k rem) (Ok x) read) (sym (left ∙ behind_text buffer back.0 rest back.1)) (drawn old rem buffer rest x keeps here)

  pub fits_by : (buffer seen rest : List ℕ) (y : Y) → seen ≡ buffer → read seen ≡ Ok (y, rest) → length rest ≤ length buffer
  fits_by buffer seen rest y same is = let back = local.back seen y rest is in omega (arith, rest_fits seen back.0 rest back.1, ap length same)

  -- the fault of the bytes is that of the text
  fault_of : (xs buffer after zs ys : List ℕ) (why : Refusal) → buffer ++ zs ≡ xs → after ++ ys ≡ xs → (why ≡ Short → (after ≡ buffer) × (ys ≡ [])) → read buffer ≡ Err why → read xs ≡ Err why
  fault_of xs buffer after zs ys why was now short is = ⊎_elim
      (λ (s : why ≡ Short). let h = short s in
      let none : after ++ ys ≡ after = ap (λ (t : List ℕ). after ++ t) h.1 ∙ append-nil after in
      ap read (sym now ∙ none ∙ h.0) ∙ is)
      (λ (err : read (buffer ++ zs) ≡ Err why). ap read (sym was) ∙ err)
      (local.err buffer zs why is)

  refused : (old rem new : Option (List ℕ)) (buffer after : List ℕ) (why e : Refusal) → Keeps old (prepend_known buffer rem) → Keeps old (prepend_known after new) → (why ≢ OutOfMemory → read buffer ≡ Err why) → Stands e why buffer after new → Draws view old (prepend_known after new) (Err e) read
  refused None rem new buffer after why e was now is cause = tt
  refused (Some xs) None new buffer after why e was now is cause = absurd was
  refused (Some xs) (Some zs) None buffer after why e was now is cause = absurd now
  refused (Some xs) (Some zs) (Some ys) buffer after why e was now is cause = (now, λ memory device. by memory device cause)
    where
      by : e ≢ OutOfMemory → e ≢ Device → Stands e why buffer after (Some ys) → read xs ≡ Err e
      by memory device (inl m) = absurd (memory m)
      by memory device (inr (inl d)) = absurd (device d)
      by memory device (inr (inr h)) = fault_of xs buffer after zs ys why was now h.1 (is (λ m. memory (h.0 ∙ m))) ∙ ap (λ (f : Refusal). Err f) (sym h.0)

  -- a call that is refused for good
  pub refused_by : (old rem new : Option (List ℕ)) (buffer seen after : List ℕ) (why e : Refusal) (result : Result X Refusal) → Keeps old (prepend_known buffer rem) → Keeps (prepend_known buffer rem) (prepend_known after new) → seen ≡ buffer → (why ≢ OutOfMemory → read seen ≡ Err why) → Stands e why buffer after new → IsErr result × IsErrAnd result (λ f. f ≡ e) → Draws view old (prepend_known after new) result read
  refused_by old rem new buffer seen after why e (Ok x) was then same is cause given = let bad : false ≡ true = given.0 in absurd cc
  refused_by old rem new buffer seen after why e (Err f) was then same is cause given =
      subst (λ (r : Refusal). Draws view old (prepend_known after new) (Err r) read) (sym given.1)
      (refused old rem new buffer after why e was (keeps_on old _ _ was then) (λ memory. ap read (sym same) ∙ is memory) cause)

-- the count since an earlier call
counted : (X Y : Type 0) {T : Type 0} (old mid new : Tally T) (e : Refusal) → failures_of mid ≡ failures_of old → CountsFailures {X = X} mid new (Err e) → CountsFailures {X = Y} old new (Err e)
counted X Y old mid new Device same h = subst (λ (n : ℕ). HasRisen n (failures_of new)) same h
counted X Y old mid new e same h = h ∙ same

pub counts_since : (X : Type 0) {Y T : Type 0} (old mid new : Tally T) (e : Refusal) (result : Result Y Refusal) → failures_of mid ≡ failures_of old → CountsFailures {X = X} mid new (Err e) → IsErr result × IsErrAnd result (λ f. f ≡ e) → CountsFailures old new result
counts_since X old mid new e (Ok y) same h given = let bad : false ≡ true = given.0 in absurd cc
counts_since X {Y} old mid new e (Err f) same h given = subst (λ (r : Refusal). CountsFailures {X = Y} old new (Err r)) (sym given.1) (counted X Y old mid new e same h)
