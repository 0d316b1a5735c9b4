-- What went out of a dump, once the output has ended.
use Rattle.std.proofs.Common.{◌≡◌, ◌≢◌, ◌⊎◌, Bool, inl, inr, ℕ, zero, suc, ◌<◌, List, [], ◌∷◌, ◌++◌, length, take, drop, get_or, Option, Some, None, Result, Ok, Err, refl, sym, ap, subst, ◌∙◌, arith, append_assoc, length-append}
use Rattle.std.specs.Prelude.{IfOk, IfErr, OnOk}
use Rattle.std.specs.List.{flat_map}
use Rattle.std.specs.Io.KnownBytes.{Appends, Keeps}
use Rattle.std.proofs.lemmas.List.{take-append-le}
use Rattle.pc_io.specs.Counted.{AppendsBeginning, HasRisen}
use Rattle.pc_io.specs.Tallies.{Puts, failures_of, inner_of}
use Rattle.pc_types.specs.declared.refusal.Refusal.{Refusal}
use Rattle.pc_types.specs.declared.refusal.Refusal.TheVariants.{Device, OutOfMemory}
use Rattle.pc_io.specs.declared.tally.Tally.{Tally}
use Rattle.pc_io.proofs.KnownBytesLaws.{begins_after, part_begins}
use Rattle.pc_model.specs.Database.{Database, KeysRise, database_of}
use Rattle.pc_model.proofs.PairMapLaws.{entries_of}
use Rattle.pc_texts.specs.Outputs.{IsUnprinted}
use Rattle.pc_texts.proofs.Begun.{appends_kept, begins_kept, whole_begins}
use Rattle.pc_pairs.specs.declared.choice.Choice.{Choice}
use Rattle.pc_restore.specs.declared.recovery.Folder.{Folder}
use Rattle.pc_restore.specs.declared.recovery.Lost.{Lost}
use Rattle.pc_restore.specs.declared.recovery.Lost.TheVariants as lost
use Rattle.pc_pairs.specs.Dumps.{SendsBeginning, DumpsInPart, IsPutInPart, IsUndumped, PutsUntil, PutsWhole, chosen, dump_text, pair_lines}

-- a beginning of a text is one of each longer text
begins_longer : (a b : Option (List ℕ)) (x y : List ℕ) → AppendsBeginning a b x → AppendsBeginning a b (x ++ y)
begins_longer None b x y p = tt
begins_longer (Some a) None x y p = absurd p
begins_longer (Some a) (Some b) x y p = (p.0, omega (arith, p.1, length-append x y), rw (take-append-le p.0 x y p.1) p.2)

-- the pieces before one of them, this one, and those behind it
pieces_at : {X : Type 0} (f : X → List ℕ) (xs : List X) (i : ℕ) (d : X) → i < length xs → flat_map f xs ≡ (flat_map f (take i xs) ++ f (get_or xs i d)) ++ flat_map f (drop (suc i) xs)
pieces_at f [] i d within = absurd (omega arith)
pieces_at f (x ∷ xs) zero d within = refl
pieces_at f (x ∷ xs) (suc i) d within =
    let first = flat_map f (take i xs) in
    let this = f (get_or xs i d) in
    let others = flat_map f (drop (suc i) xs) in
    ap (λ t. f x ++ t) (pieces_at f xs i d (omega arith)) ∙ sym (append_assoc (f x) (first ++ this) others) ∙ ap (λ t. t ++ others) (sym (append_assoc (f x) first this))

module _ {T : Type 0} (contents : T → Option (List ℕ)) where
  -- one of several pieces went out in part
  pub until_at : {X : Type 0} (f : X → List ℕ) (xs : List X) (i : ℕ) (d : X) (a b c : Tally T) (why : Refusal) → i < length xs
      → Appends (contents (inner_of a)) (contents (inner_of b)) (flat_map f (take i xs)) → failures_of b ≡ failures_of a
      → PutsUntil contents b c (Err why) (f (get_or xs i d)) → PutsUntil contents a c (Err why) (flat_map f xs)
  until_at f xs i d a b c why within sent counted (begun, cause) = (
    subst (SendsBeginning contents a c) (sym (pieces_at f xs i d within))
        (begins_longer (contents (inner_of a)) (contents (inner_of c)) (flat_map f (take i xs) ++ f (get_or xs i d)) (flat_map f (drop (suc i) xs))
        (begins_after (contents (inner_of a)) (contents (inner_of b)) (contents (inner_of c)) (flat_map f (take i xs)) (f (get_or xs i d)) sent begun)),
    by cause,
  )
    where
      by : ((why ≡ Device) × HasRisen (failures_of b) (failures_of c)) ⊎ ((why ≡ OutOfMemory) × (failures_of c ≡ failures_of b))
          → ((why ≡ Device) × HasRisen (failures_of a) (failures_of c)) ⊎ ((why ≡ OutOfMemory) × (failures_of c ≡ failures_of a))
      by (inl (is, risen)) = inl (is, omega (arith, risen, counted))
      by (inr (is, same)) = inr (is, same ∙ counted)

  -- a text that was put
  pub put_until : (a b : Tally T) (put : Result (Unit {0}) Refusal) (x : List ℕ) → Puts contents a b put x → PutsUntil contents a b put x
  put_until a b (Ok u) x puts = puts
  put_until a b (Err why) x puts = (part_begins (contents (inner_of a)) (contents (inner_of b)) x puts.2, inl (puts.0, puts.1))

module _ {T : Type 0} (contents : T → Option (List ℕ)) (a b c : Tally T) (x : List ℕ) (kept : Keeps (contents (inner_of b)) (contents (inner_of c))) where
  pub whole_out : (put : Result (Unit {0}) Refusal) → PutsUntil contents a b put x → (ended : Result (Unit {0}) Refusal) → IfOk ended (λ u. (put ≡ Ok u) × (failures_of c ≡ failures_of b)) → OnOk ended (PutsWhole contents a c x)
  whole_out (Ok u) puts (Ok v) printed = (appends_kept (contents (inner_of a)) (contents (inner_of b)) (contents (inner_of c)) x puts.0 kept, printed.1 ∙ puts.1)
  whole_out (Err why) puts (Ok v) printed = absurd (let other : Err why ≡ Ok v = printed.0 in cc)
  whole_out put puts (Err why) printed = tt

  pub part_out : (put : Result (Unit {0}) Refusal) → PutsUntil contents a b put x → (ended : Result (Unit {0}) Refusal) → IfErr ended (IsUnprinted put b c) → IfErr ended (IsPutInPart contents a c x)
  part_out put puts (Ok u) unprinted = tt
  part_out (Ok u) puts (Err why) (inl both) = absurd (let other : Ok u ≡ Err why = both.0 in cc)
  part_out (Ok u) puts (Err why) (inr both) =
      (begins_kept (contents (inner_of a)) (contents (inner_of b)) (contents (inner_of c)) x (whole_begins (contents (inner_of a)) (contents (inner_of b)) x puts.0) kept, inl (both.0, omega (arith, both.1, puts.1)))
  part_out (Err e) puts (Err why) unprinted = (begins_kept (contents (inner_of a)) (contents (inner_of b)) (contents (inner_of c)) x puts.0 kept, by puts.1 unprinted)
    where
      by : ((e ≡ Device) × HasRisen (failures_of a) (failures_of b)) ⊎ ((e ≡ OutOfMemory) × (failures_of b ≡ failures_of a)) → IsUnprinted {A = Unit {0}} (Err e) b c why
          → ((why ≡ Device) × HasRisen (failures_of a) (failures_of c)) ⊎ (why ≡ OutOfMemory)
      by (inl (is, risen)) (inl (same, inl still)) = inl ((let it : Err e ≡ Err why = same in cc), omega (arith, risen, still))
      by (inl (is, risen)) (inl (same, inr more)) = inl ((let it : Err e ≡ Err why = same in cc), omega (arith, risen, more))
      by (inr (is, still)) (inl (same, other)) = inr (let it : Err e ≡ Err why = same in cc)
      by (inl (is, risen)) (inr (device, more)) = inl (device, omega (arith, risen, more))
      by (inr (is, still)) (inr (device, more)) = inl (device, omega (arith, still, more))

-- the pairs of a database are its entries
pub pairs_are : (pairs : List (List ℕ × List ℕ)) (db : Database) → KeysRise pairs → database_of pairs ≡ db → pairs ≡ db.entries
pairs_are pairs db rise is = sym (entries_of pairs rise) ∙ ap (λ (d : Database). d.entries) is

-- what was put of the chosen pairs is the text of the database's
pub put_same : {T : Type 0} (contents : T → Option (List ℕ)) (a b : Tally T) (choice : Choice) (db : Database) (pairs kept shown : List (List ℕ × List ℕ)) (put : Result (Unit {0}) Refusal)
    → KeysRise pairs → database_of pairs ≡ db → kept ≡ chosen choice pairs → shown ≡ kept → PutsUntil contents a b put (pair_lines choice.form shown) → PutsUntil contents a b put (dump_text choice db)
put_same contents a b choice db pairs kept shown put rise is keeps shows puts =
    subst (λ these. PutsUntil contents a b put (pair_lines choice.form these)) (shows ∙ keeps ∙ ap (chosen choice) (pairs_are pairs db rise is)) puts

-- why lines weren't all written, where a beginning of them was
pub unwritten : {R T E : Type 0} (remaining : R → Option (List ℕ)) (contents : T → Option (List ℕ)) (reported : E → Option (List ℕ)) (folder : Folder R) (choice : Choice) (accepts_damage : Bool) (old new : Tally T) (told_old told_new : Tally E)
    (why : Refusal) (cause : Lost R) → (why ≡ OutOfMemory → cause ≡ lost.Folder OutOfMemory) → (why ≢ OutOfMemory → cause ≡ lost.Output)
    → ((why ≡ Device) × HasRisen (failures_of old) (failures_of new)) ⊎ (why ≡ OutOfMemory) → DumpsInPart remaining contents folder choice old new
    → IsUndumped remaining contents reported folder choice accepts_damage old new told_old told_new cause
unwritten remaining contents reported folder choice accepts_damage old new told_old told_new why cause memory output (inl (is, risen)) begun =
    inl (output (λ other. let clash : Device ≡ OutOfMemory = sym is ∙ other in cc), risen, begun)
unwritten remaining contents reported folder choice accepts_damage old new told_old told_new why cause memory output (inr is) begun = inr (inl (memory is, begun))
