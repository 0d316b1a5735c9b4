-- What went out of the lines of a log, at each end.
use Rattle.std.proofs.Common.{◌≡◌, ◌≢◌, ◌⊎◌, inl, inr, ℕ, List, ◌++◌, Option, Some, None, Result, Ok, Err, IfOk, IfErr, IsErr, sym, ◌∙◌, arith}
use Rattle.std.specs.Prelude.{IsOk, OnOk}
use Rattle.std.specs.Io.KnownBytes.{Appends, Keeps}
use Rattle.std.proofs.lemmas.List.{append-nil, length-append, take-append-le}
use Rattle.pc_io.specs.Counted.{AppendsBeginning, HasRisen}
use Rattle.pc_io.specs.Tallies.{Puts, failures_of}
use Rattle.pc_types.specs.declared.refusal.Refusal.{Refusal}
use Rattle.pc_types.specs.declared.refusal.Refusal.TheVariants.{OutOfMemory}
use Rattle.pc_io.specs.declared.tally.Tally.{Tally}
use Rattle.pc_io.proofs.KnownBytesLaws.{appends_then, begins_after, part_after, part_begins}
use Rattle.pc_texts.specs.Outputs.{IsUnprinted}
use Rattle.pc_texts.proofs.Begun.{appends_kept, begins_kept, whole_begins}
use Rattle.pc_log_lines.specs.declared.reading.EntryRange.{EntryRange}
use Rattle.pc_log_lines.specs.declared.reading.Rest.{Rest}
use Rattle.pc_log_lines.specs.declared.run.LostLog.{LostLog}
use Rattle.pc_log_lines.specs.declared.run.LostLog.TheVariants.{NoMemory, Output}
use Rattle.pc_log_lines.specs.Runs.{BeginsLines, IsTextCutOff, IsLogUnprinted, PutsAll}

-- what holds of a value holds of it in an answer
pub at_ok : {A E : Type 0} (P : A → Type 0) (answer : Result A E) (x : A) → answer ≡ Ok x → IfOk answer P → P x
at_ok P answer x e h = rw e at h

-- nothing is a prefix
nothing_begins : (a : Option (List ℕ)) (y : List ℕ) → AppendsBeginning a a y
nothing_begins None y = tt
nothing_begins (Some a) y = (0, omega arith, sym (append-nil a))

-- what went out is a prefix of each longer text
pub begins_some : (a b : Option (List ℕ)) (x y z : List ℕ) → Appends a b x → x ++ y ≡ z → AppendsBeginning a b z
begins_some a b x y z p e = rw (← e) (begins_after a b b x y p (nothing_begins b y))

-- so is a prefix of a text
begins_longer : (a b : Option (List ℕ)) (x y : List ℕ) → AppendsBeginning a b x → AppendsBeginning a b (x ++ y)
begins_longer None b x y p = tt
begins_longer (Some a) None x y p = absurd p
begins_longer (Some a) (Some b) x y p = (p.0, omega (arith, p.1, length-append x y), rw (take-append-le p.0 x y p.1) p.2)

module _ {T : Type 0} (contents : T → Option (List ℕ)) where
  -- a text that the device took in part
  pub cut_off : (a b : Tally T) (why : Refusal) (x : List ℕ) → Puts contents a b (Err why) x → IsTextCutOff contents a b why x
  cut_off a b why x p = (part_begins (contents a.inner) (contents b.inner) x p.2, inr (p.0, p.1))

  -- and an allocation failed, or not, if no more can be read
  pub stopped_part : (a b : Tally T) (answer : Result Rest Refusal) (x y z : List ℕ) → IfErr answer (λ why. why ≡ OutOfMemory) → Appends (contents a.inner) (contents b.inner) x → b.failures ≡ a.failures → x ++ y ≡ z
      → IfErr answer (λ why. IsTextCutOff contents a b why z)
  stopped_part a b (Ok rest) x y z memory sent counted e = tt
  stopped_part a b (Err why) x y z memory sent counted e = (begins_some (contents a.inner) (contents b.inner) x y z sent e, inl (memory, counted))

  -- of a longer text a prefix is one too
  pub cut_longer : (a b : Tally T) (why : Refusal) (x y : List ℕ) → IsTextCutOff contents a b why x → IsTextCutOff contents a b why (x ++ y)
  cut_longer a b why x y p = (begins_longer (contents a.inner) (contents b.inner) x y p.0, p.1)

  -- a text after one that went out
  pub all_after : {A : Type 0} (a b c : Tally T) (answer : Result A Refusal) (x y : List ℕ) → PutsAll contents a b x → OnOk answer (Puts contents b c (Ok tt) y) → OnOk answer (PutsAll contents a c (x ++ y))
  all_after a b c (Ok v) x y p q = (appends_then (contents a.inner) (contents b.inner) (contents c.inner) x y p.0 q.0, q.1 ∙ p.1)
  all_after a b c (Err e) x y p q = tt

  pub cut_after : {A : Type 0} (a b c : Tally T) (answer : Result A Refusal) (x y : List ℕ) → PutsAll contents a b x → IfErr answer (λ why. Puts contents b c (Err why) y) → IfErr answer (λ why. IsTextCutOff contents a c why (x ++ y))
  cut_after a b c (Ok v) x y p q = tt
  cut_after a b c (Err e) x y p q = (part_begins (contents a.inner) (contents c.inner) (x ++ y) (part_after (contents a.inner) (contents b.inner) (contents c.inner) x y p.0 q.2), inr (q.0, omega (arith, q.1, p.1)))

  -- ---- once the output has ended

  module _ {A : Type 0} (a b c : Tally T) (x : List ℕ) (put : Result A Refusal) (all : OnOk put (PutsAll contents a b x)) (part : IfErr put (λ why. IsTextCutOff contents a b why x)) (kept : Keeps (contents b.inner) (contents c.inner)) where
    pub ended_whole : (what : A) → (put ≡ Ok what) × (failures_of c ≡ failures_of b) → Appends (contents a.inner) (contents c.inner) x × (failures_of c ≡ failures_of a)
    ended_whole what e =
        let all = rw e.0 at all in
        (appends_kept (contents a.inner) (contents b.inner) (contents c.inner) x all.0 kept, e.1 ∙ all.1)

    pub ended_begun : AppendsBeginning (contents a.inner) (contents c.inner) x
    ended_begun = begins_kept (contents a.inner) (contents b.inner) (contents c.inner) x (begun put all part) kept
      where
        begun : (answer : Result A Refusal) → OnOk answer (PutsAll contents a b x) → IfErr answer (λ why. IsTextCutOff contents a b why x) → AppendsBeginning (contents a.inner) (contents b.inner) x
        begun (Ok v) p q = whole_begins (contents a.inner) (contents b.inner) x p.0
        begun (Err e) p q = q.0

  -- an output that failed, and not memory
  pub ended_failed : {A : Type 0} (a b c : Tally T) (x : List ℕ) (put : Result A Refusal) (why : Refusal) → OnOk put (PutsAll contents a b x) → IfErr put (λ why. IsTextCutOff contents a b why x) → IsUnprinted put b c why → why ≢ OutOfMemory
      → HasRisen (failures_of a) (failures_of c)
  ended_failed a b c x (Ok v) why all part (inl both) other = absurd (let no : Ok v ≡ Err why = both.0 in cc)
  ended_failed a b c x (Ok v) why all part (inr both) other = omega (arith, both.1, all.1)
  ended_failed a b c x (Err e) why all (begins, inl memory) (inl both) other = absurd (other (let is : Err e ≡ Err why = both.0 in let m = memory.0 in cc))
  ended_failed a b c x (Err e) why all (begins, inr device) (inl (is, inl same)) other = omega (arith, device.1, same)
  ended_failed a b c x (Err e) why all (begins, inr device) (inl (is, inr risen)) other = omega (arith, device.1, risen)
  ended_failed a b c x (Err e) why all (begins, inl memory) (inr both) other = omega (arith, memory.1, both.1)
  ended_failed a b c x (Err e) why all (begins, inr device) (inr both) other = omega (arith, device.1, both.1)

-- ---- if no more entries can be read

pub stopped_all : (P : Type 0) (answer : Result Rest Refusal) (fault : Refusal) → (fault ≡ OutOfMemory → IsErr answer) → (fault ≢ OutOfMemory → P) → OnOk answer P
stopped_all P (Ok rest) fault memory read = read (λ e. let f = memory e in absurd cc)
stopped_all P (Err e) fault memory read = tt

pub stopped_rest : (answer : Result Rest Refusal) (fault : Refusal) (given total : Rest) → IfOk answer (λ rest. rest ≡ given) → (fault ≡ OutOfMemory → IsErr answer) → (fault ≢ OutOfMemory → total ≡ given) → IfOk answer (λ rest. rest ≡ total)
stopped_rest (Ok rest) fault given total is memory read = is ∙ sym (read (λ e. let f = memory e in absurd cc))
stopped_rest (Err e) fault given total is memory read = tt

-- ---- why not all went out

pub lost_as : {R T : Type 0} (remaining : R → Option (List ℕ)) (contents : T → Option (List ℕ)) (opened : Result R Refusal) (range : EntryRange) (a b : Tally T) (lost : LostLog R) (why : Refusal)
    → ((why ≡ OutOfMemory) × (lost ≡ NoMemory)) ⊎ ((why ≢ OutOfMemory) × (lost ≡ Output)) → IsOk opened → BeginsLines remaining contents opened range a b
    → (why ≢ OutOfMemory → HasRisen (failures_of a) (failures_of b)) → IsLogUnprinted remaining contents opened range a b lost
lost_as remaining contents opened range a b lost why (inl p) ok begins risen = rw p.1 (ok, begins)
lost_as remaining contents opened range a b lost why (inr p) ok begins risen = rw p.1 (ok, risen p.0, begins)
