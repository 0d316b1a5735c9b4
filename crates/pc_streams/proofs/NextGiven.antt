-- What a call for the next entry gives of what was to come.
use Rattle.std.proofs.Common.{◌≡◌, ◌≢◌, ℕ, cond, true, false, List, Option, Some, None, Result, Ok, Err, refl, sym, ap, subst, ◌∙◌, ◌⊎◌, inl, inr}
use Rattle.std.specs.Int.{w32}
use Rattle.std.specs.Option.{option_map}
use Rattle.std.specs.Result.{IsErr, IsErrAnd}
use Rattle.pc_io.specs.Counted.{one_more}
use Rattle.pc_io.specs.Fields.{number_at}
use Rattle.pc_types.specs.declared.Refusal.{Refusal}
use Rattle.pc_types.specs.declared.Refusal.TheVariants.{OutOfMemory, Device, Short}
use Rattle.pc_types.specs.declared.Triple.{Triple}
use Rattle.pc_part.specs.Reading.{next_entry_at}
use Rattle.pc_merge.specs.Coming.{Coming, ended, GivesNext}
use Rattle.pc_streams.specs.Coming.{part_end_at, coming_from, coming_of_bytes}
use Rattle.pc_streams.specs.Draws.{Draws}
use Rattle.pc_streams.specs.Places.{Place, place_coming, EndsAs}
use Rattle.pc_streams.proofs.ComingLaws.{coming_is}

-- a refusal is one of memory, one of a device, or another
pub cause_of : (e : Refusal) → (e ≡ OutOfMemory) ⊎ (e ≡ Device) ⊎ ((e ≢ OutOfMemory) × (e ≢ Device))
cause_of OutOfMemory = inl refl
cause_of Device = inr (inl refl)
cause_of e = inr (inr (λ memory. cc, λ device. cc))

-- a refusal that was handed on
pub handed_on : {X : Type 0} (P : Result X Refusal → Type 0) (e : Refusal) (result : Result X Refusal) → IsErr result × IsErrAnd result (λ f. f ≡ e) → P (Err e) → P result
handed_on P e (Ok x) given h = let bad : false ≡ true = given.0 in absurd cc
handed_on {X} P e (Err f) given h = subst (λ (r : Refusal). P (Err r)) (sym given.1) h

module _ (place : Place) (going : place.ended ≡ false) where
  abbrev coming : Option (List ℕ) → Option Coming
  coming known = option_map (coming_of_bytes place.format place.ranges place.count place.last) known

  still : (known : Option (List ℕ)) → place_coming place known ≡ coming known
  still known = ap (λ (t : _). cond t (Some ended) (coming known)) going

  -- the next step is what was read
  step_is : (xs : List ℕ) (r : Result (Option Triple × List ℕ) Refusal) → next_entry_at place.format place.ranges place.last xs ≡ r → coming_of_bytes place.format place.ranges place.count place.last xs ≡ coming_from (coming_of_bytes place.format place.ranges (one_more place.count)) place.count r
  step_is xs r is = coming_is place.format place.ranges place.count place.last xs ∙ ap (coming_from (coming_of_bytes place.format place.ranges (one_more place.count)) place.count) is

  refused_known : (old mid : Option (List ℕ)) (now : Option Coming) (e : Refusal) → Draws {X = Option Triple} (λ x. x) old mid (Err e) (next_entry_at place.format place.ranges place.last) → GivesNext (coming old) now (Err e)
  refused_known None mid now e drawn = tt
  refused_known (Some xs) None now e drawn = absurd drawn
  refused_known (Some xs) (Some ys) now e drawn = by (cause_of e)
    where
      by : (e ≡ OutOfMemory) ⊎ (e ≡ Device) ⊎ ((e ≢ OutOfMemory) × (e ≢ Device)) → GivesNext (coming (Some xs)) now (Err e)
      by (inl memory) = inr (inl memory)
      by (inr (inl device)) = inr (inr device)
      by (inr (inr other)) = inl (step_is xs (Err e) (drawn.1 other.0 other.1))

  -- the entry was refused
  pub refused_given : (old mid : Option (List ℕ)) (now : Option Coming) (e : Refusal) (result : Result (Option Triple) Refusal) → Draws {X = Option Triple} (λ x. x) old mid (Err e) (next_entry_at place.format place.ranges place.last) → IsErr result × IsErrAnd result (λ f. f ≡ e) → GivesNext (place_coming place old) now result
  refused_given old mid now e result drawn given = subst (λ (c : Option Coming). GivesNext c now result) (sym (still old)) (handed_on (λ r. GivesNext (coming old) now r) e result given (refused_known old mid now e drawn))

  some_known : (old mid : Option (List ℕ)) (entry : Triple) → Draws (λ (x : Option Triple). x) old mid (Ok (Some entry)) (next_entry_at place.format place.ranges place.last) → GivesNext (coming old) (option_map (coming_of_bytes place.format place.ranges (one_more place.count) entry.key) mid) (Ok (Some entry))
  some_known None mid entry drawn = tt
  some_known (Some xs) None entry drawn = absurd drawn
  some_known (Some xs) (Some ys) entry drawn = step_is xs (Ok (Some entry, ys)) drawn

  abbrev passed : Triple → Place
  passed entry = record place { last = entry.key; count = one_more place.count }

  -- an entry is given, and the place is after it
  pub some_given : (old mid : Option (List ℕ)) (entry : Triple) (now : Place) → now ≡ passed entry → Draws (λ (x : Option Triple). x) old mid (Ok (Some entry)) (next_entry_at place.format place.ranges place.last) → GivesNext (place_coming place old) (place_coming now mid) (Ok (Some entry))
  some_given old mid entry now is drawn =
      let left : place_coming now mid ≡ option_map (coming_of_bytes place.format place.ranges (one_more place.count) entry.key) mid =
      ap (λ (p : Place). place_coming p mid) is ∙ ap (λ (t : _). cond t (Some ended) (option_map (coming_of_bytes place.format place.ranges (one_more place.count) entry.key) mid)) going in
      subst (λ (c : Option Coming). GivesNext c (place_coming now mid) (Ok (Some entry))) (sym (still old)) (subst (λ (c : Option Coming). GivesNext (coming old) c (Ok (Some entry))) (sym left) (some_known old mid entry drawn))

  abbrev end_coming : Option (List ℕ) → Option Coming
  end_coming known = option_map (λ bytes. part_end_at place.count (number_at Short w32 bytes)) known

  end_known : (old mid : Option (List ℕ)) → Draws (λ (x : Option Triple). x) old mid (Ok None) (next_entry_at place.format place.ranges place.last) → EndsAs (end_coming mid) (Ok tt) → GivesNext (coming old) (Some ended) (Ok None)
  end_known None mid drawn ends = tt
  end_known (Some xs) None drawn ends = absurd drawn
  end_known (Some xs) (Some ys) drawn ends = (step_is xs (Ok (None, ys)) drawn ∙ ends, refl)

  -- the end was read
  pub end_given : (old mid last : Option (List ℕ)) (now : Place) → now.ended ≡ true → Draws (λ (x : Option Triple). x) old mid (Ok None) (next_entry_at place.format place.ranges place.last) → EndsAs (end_coming mid) (Ok tt) → GivesNext (place_coming place old) (place_coming now last) (Ok None)
  end_given old mid last now is drawn ends =
      let some : place_coming now last ≡ Some ended = ap (λ (t : _). cond t (Some ended) (option_map (coming_of_bytes now.format now.ranges now.count now.last) last)) is in
      subst (λ (c : Option Coming). GivesNext c (place_coming now last) (Ok None)) (sym (still old)) (subst (λ (c : Option Coming). GivesNext (coming old) c (Ok None)) (sym some) (end_known old mid drawn ends))

  end_refused_known : (old mid : Option (List ℕ)) (now : Option Coming) (e : Refusal) → Draws (λ (x : Option Triple). x) old mid (Ok None) (next_entry_at place.format place.ranges place.last) → EndsAs (end_coming mid) (Err e) → GivesNext (coming old) now (Err e)
  end_refused_known None mid now e drawn ends = tt
  end_refused_known (Some xs) None now e drawn ends = absurd drawn
  end_refused_known (Some xs) (Some ys) now e drawn (inl fault) = inl (step_is xs (Ok (None, ys)) drawn ∙ fault)
  end_refused_known (Some xs) (Some ys) now e drawn (inr failed) = inr failed

  -- the end was refused
  pub end_refused : (old mid : Option (List ℕ)) (now : Option Coming) (e : Refusal) (result : Result (Option Triple) Refusal) → Draws (λ (x : Option Triple). x) old mid (Ok None) (next_entry_at place.format place.ranges place.last) → EndsAs (end_coming mid) (Err e) → IsErr result × IsErrAnd result (λ f. f ≡ e) → GivesNext (place_coming place old) now result
  end_refused old mid now e result drawn ends given = subst (λ (c : Option Coming). GivesNext c now result) (sym (still old)) (handed_on (λ r. GivesNext (coming old) now r) e result given (end_refused_known old mid now e drawn ends))
