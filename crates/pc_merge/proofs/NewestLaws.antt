-- The newest entry of a key, as inputs are passed.
use Rattle.std.proofs.Common.{◌≡◌, ℕ, ◌<◌, List, Option, Some, None, length, set, ◌⊎◌, inl, inr, ⊎_elim, refl, sym, ap, ◌∙◌, subst, arith}
use Rattle.std.specs.List.{All, Contains}
use Rattle.std.specs.declared.cmp.Ordering.TheVariants.{Less, Greater}
use Rattle.std.specs.Cmp.{tied_itself}
use Rattle.std.proofs.lemmas.Bool.{cases_eq}
use Rattle.std.proofs.lemmas.List.{get_or-map, get_or-set_same, get_or-set_other, length-map}
use Rattle.pc_types.specs.declared.Refusal.{Refusal}
use Rattle.pc_types.specs.declared.Refusal.TheVariants.{Conflict}
use Rattle.pc_types.specs.declared.Triple.{Triple}
use Rattle.pc_model.specs.Database.{key_cmp, key_order}
use Rattle.pc_merge.specs.Coming.{Coming, ended}
use Rattle.pc_merge.specs.Drawing.{ArePassing, AreRests, HasCause, HasPassed, IsPassing, Passes, StaysOrPassed, input_at}
use Rattle.pc_merge.specs.Inputs.{all_left}
use Rattle.pc_merge.specs.Merging.{GivesFirst, IsBelow, IsBest, IsCause, IsNewest, all_behind, input_after_key, first_to_come, firsts_of}
use Rattle.pc_merge.specs.Tournaments.{first_entry_at, IsNoLater}
use Rattle.pc_merge.proofs.LeftLaws.{first_at, left_length}
use Rattle.pc_merge.proofs.PlacesLeft.{having, having_less}
use Rattle.pc_merge.proofs.PassingLaws.{all_above, beginning, behind_set, cause_before, first_among, rest_behind, rests_begin, rests_set}

-- ---- one entry beside another

newest_trans : (a b c : Triple) → IsNewest a b → IsNewest b c → IsNewest a c
newest_trans a b c (inl p) (inl q) = inl (omega (arith, p, q))
newest_trans a b c (inl p) (inr q) = inl (subst (λ (t : Triple). t.point < a.point) (sym q) p)
newest_trans a b c (inr p) (inl q) = inl (subst (λ (t : Triple). c.point < t.point) p q)
newest_trans a b c (inr p) (inr q) = inr (q ∙ p)

-- what an entry is better than a newer one of its key is
best_more : (entry newer : Triple) (other : Option Triple) → newer.key ≡ entry.key → IsNewest newer entry → IsBest entry other → IsBest newer other
best_more entry newer None key newest best = tt
best_more entry newer (Some other) key newest (inl less) = inl (subst (λ k. key_cmp k other.key ≡ Less) (sym key) less)
best_more entry newer (Some other) key newest (inr (same, older)) = inr (key ∙ same, newest_trans newer entry other newest older)

above_is_best : (entry : Triple) (other : Option Triple) → IsBelow entry.key other → IsBest entry other
above_is_best entry None above = tt
above_is_best entry (Some other) above = inl above

below_same : (k l : List ℕ) (other : Option Triple) → k ≡ l → IsBelow k other → IsBelow l other
below_same k l other same below = subst (λ (key : List ℕ). IsBelow key other) same below

not_below : (key : List ℕ) (entry : Triple) → entry.key ≡ key → IsBelow key (Some entry) → ⊥
not_below key entry same less = let bad = sym (tied_itself key_order.total key) ∙ ap (key_cmp key) (sym same) ∙ less in cc

-- ---- one input is passed

module _ (was now : List Coming) (place : ℕ) (other : Triple) (within : place < length now) (first : first_to_come (input_at now place) ≡ Some other) (rises : IsBelow other.key (first_to_come (input_after_key other.key (input_at now place)))) where
  -- the first one
  pub passing_begins : now ≡ was → IsPassing was (set now place (input_after_key other.key (input_at now place))) other
  passing_begins same = record {
    of = first_among was place other (subst (λ (cs : List Coming). first_to_come (input_at cs place) ≡ Some other) same first);
    each = λ p. ⊎_elim
        (λ (own : p ≡ place). inr (
          subst (IsBest other) (sym first ∙ ap first_to_come ((λ i. input_at (same i) place) ∙ sym (ap (input_at was) own))) (inr (refl, inr refl)),
          rw (own, get_or-set_same now place (input_after_key other.key (input_at now place)) ended within) rises,
        ))
        (λ apart. inl (get_or-set_other now place p (input_after_key other.key (input_at now place)) ended apart ∙ (λ i. input_at (same i) p)))
        (cases_eq p place);
    behind = behind_set other.key now place within rises ∙ ap (all_behind other.key) same;
    rests = subst (λ (cs : List Coming). AreRests cs (set now place (input_after_key other.key (input_at now place)))) same (rests_set now now place (input_after_key other.key (input_at now place)) (rests_begin now) (rest_behind other.key (input_at now place)) within);
  }

  module _ (entry newer : Triple) (passing : IsPassing was now entry) (key : other.key ≡ entry.key) where
    stood : StaysOrPassed entry (input_at was place) (input_at now place) → first_to_come (input_at was place) ≡ Some other
    stood (inl same) = sym (ap first_to_come same) ∙ first
    stood (inr passed) = absurd (not_below entry.key other key (subst (IsBelow entry.key) first passed.1))

    pub stood_first : first_to_come (input_at was place) ≡ Some other
    stood_first = stood (passing.each place)

    pub passing_more : IsNewest newer entry → IsNewest newer other → (newer ≡ entry) ⊎ (newer ≡ other) → IsPassing was (set now place (input_after_key other.key (input_at now place))) newer
    passing_more than_entry than_other one = record {
      of = of one;
      each = λ p. ⊎_elim
          (λ (own : p ≡ place). inr (
            subst (IsBest newer) (sym stood_first ∙ ap (λ q. first_to_come (input_at was q)) (sym own)) (inr (same_key one ∙ sym key, than_other)),
            rw (own, get_or-set_same now place (input_after_key other.key (input_at now place)) ended within) (below_same other.key newer.key (first_to_come (input_after_key other.key (input_at now place))) (key ∙ sym (same_key one)) rises),
          ))
          (λ apart. subst (λ (c : Coming). StaysOrPassed newer (input_at was p) c) (sym (get_or-set_other now place p (input_after_key other.key (input_at now place)) ended apart)) (kept p (passing.each p)))
          (cases_eq p place);
      behind = ap (λ k. all_behind k (set now place (input_after_key other.key (input_at now place)))) (same_key one ∙ sym key) ∙ behind_set other.key now place within rises ∙ ap (λ k. all_behind k now) key ∙ passing.behind ∙ ap (λ k. all_behind k was) (sym (same_key one));
      rests = rests_set was now place (input_after_key other.key (input_at now place)) passing.rests (rest_behind other.key (input_at now place)) within;
    }
      where
        same_key : (newer ≡ entry) ⊎ (newer ≡ other) → newer.key ≡ entry.key
        same_key (inl is) = ap (λ (t : Triple). t.key) is
        same_key (inr is) = ap (λ (t : Triple). t.key) is ∙ key

        of : (newer ≡ entry) ⊎ (newer ≡ other) → Contains (firsts_of was) (Some newer)
        of (inl is) = subst (λ (t : Triple). Contains (firsts_of was) (Some t)) (sym is) passing.of
        of (inr is) = subst (λ (t : Triple). Contains (firsts_of was) (Some t)) (sym is) (first_among was place other stood_first)

        kept : (p : ℕ) → StaysOrPassed entry (input_at was p) (input_at now p) → StaysOrPassed newer (input_at was p) (input_at now p)
        kept p (inl same) = inl same
        kept p (inr passed) = inr (best_more entry newer (first_to_come (input_at was p)) (same_key one) than_entry passed.0, below_same entry.key newer.key (first_to_come (input_at now p)) (sym (same_key one)) passed.1)

    -- two that differ are in conflict
    pub passing_conflict : entry.point ≡ other.point → (entry.content ≡ other.content → ⊥) → IsCause was Conflict
    passing_conflict point differ =
        let one = beginning was entry passing.of in
        let two = beginning was other (first_among was place other stood_first) in
        inr (inr (inr (inl (
          refl,
          record {
            one = one.0;
            other = two.0;
            one_among = one.1;
            other_among = two.1;
            entry = entry;
            second = other;
            entry_among = one.2;
            second_among = two.2;
            key = sym key;
            point = point;
            differ = differ;
          },
        ))))

-- ---- all of the key are passed

module _ (was now : List Coming) (entry : Triple) (passing : IsPassing was now entry) (above : (place : ℕ) → IsBelow entry.key (first_to_come (input_at now place))) where
  best : (place : ℕ) → StaysOrPassed entry (input_at was place) (input_at now place) → IsBest entry (first_to_come (input_at was place))
  best place (inl same) = above_is_best entry (first_to_come (input_at was place)) (subst (λ (c : Coming). IsBelow entry.key (first_to_come c)) same (above place))
  best place (inr passed) = passed.0

  pub all_passed : now ≡ all_behind entry.key was
  all_passed = sym (all_above entry.key now above) ∙ passing.behind

  pub gives_first : GivesFirst was entry
  gives_first = record {
    of = passing.of;
    best = λ place other within. let same = length-map was first_to_come in
        subst (IsBest entry) (sym (get_or-map first_to_come was place ended other (omega (arith, same, within)))) (best place (passing.each place));
    rises = subst (λ (cs : List Coming). All (IsBelow entry.key) (firsts_of cs)) all_passed (λ place other within. let same = length-map now first_to_come in
        subst (IsBelow entry.key) (sym (get_or-map first_to_come now place ended other (omega (arith, same, within)))) (above place));
  }

-- ---- the step of a merge

-- a key below an entry is that of none later
pub below_no_later : (entry : Triple) (other : Option Triple) → IsBelow entry.key other → IsNoLater (Some entry) other
below_no_later entry None below = tt
below_no_later entry (Some other) below = λ bad. let no_both = sym below ∙ bad in cc

key_no_later : (entry newer : Triple) (other : Option Triple) → newer.key ≡ entry.key → IsNoLater (Some entry) other → IsNoLater (Some newer) other
key_no_later entry newer None same upto = tt
key_no_later entry newer (Some other) same upto = subst (λ k. key_cmp k other.key ≡ Greater → ⊥) (sym same) upto

module _ (inputs inputs_now : List (Option Coming)) (firsts firsts_now : List (Option Triple)) (place : ℕ) (other : Triple) (size : length inputs ≡ length firsts) (size_now : length inputs_now ≡ length firsts_now) (within : place < length firsts) (passes : Passes firsts firsts_now place other) (passed : HasPassed inputs firsts inputs_now firsts_now place other) where
  next_at : first_entry_at firsts_now place ≡ passes.next
  next_at = ap (λ fs. first_entry_at fs place) passes.stands ∙ get_or-set_same firsts place passes.next None within

  -- of greater keys than the entry's, if no key at a place is less
  pub least_on : (entry newer : Triple) → newer.key ≡ entry.key → other.key ≡ entry.key → ((p : ℕ) → IsNoLater (Some entry) (first_entry_at firsts p)) → (p : ℕ) → IsNoLater (Some newer) (first_entry_at firsts_now p)
  least_on entry newer same key least p = ⊎_elim
      (λ (own : p ≡ place). subst (IsNoLater (Some newer)) (sym (ap (first_entry_at firsts_now) own ∙ next_at)) (below_no_later newer passes.next (below_same other.key newer.key passes.next (key ∙ sym same) passes.rises)))
      (λ apart. subst (IsNoLater (Some newer)) (sym (ap (λ fs. first_entry_at fs p) passes.stands ∙ get_or-set_other firsts place p passes.next None apart)) (key_no_later entry newer (first_entry_at firsts p) same (least p)))
      (cases_eq p place)

  module _ (now : List Coming) (left : all_left inputs firsts ≡ Some now) where
    in_now : place < length now
    in_now = let many = left_length inputs firsts now size left in omega (arith, size, many, within)

    stood_at : first_to_come (input_at now place) ≡ Some other
    stood_at = first_at inputs firsts now size left place ∙ passes.first

    behind_rises : IsBelow other.key (first_to_come (input_after_key other.key (input_at now place)))
    behind_rises = subst (IsBelow other.key)
        (sym next_at ∙ sym (first_at inputs_now firsts_now (set now place (input_after_key other.key (input_at now place))) size_now (passed now left) place) ∙ ap first_to_come (get_or-set_same now place (input_after_key other.key (input_at now place)) ended in_now))
        passes.rises

  pub go_on : (was : List Coming) (entry newer : Triple) → ArePassing was inputs firsts entry → other.key ≡ entry.key → IsNewest newer entry × IsNewest newer other × ((newer ≡ entry) ⊎ (newer ≡ other)) → ArePassing was inputs_now firsts_now newer
  go_on was entry newer (now, left, passing) key newest =
      (set now place (input_after_key other.key (input_at now place)), passed now left, passing_more was now place other (in_now now left) (stood_at now left) (behind_rises now left) entry newer passing key newest.0 newest.1 newest.2)

  pub go_on_conflict : (was : List Coming) (entry : Triple) → ArePassing was inputs firsts entry → other.key ≡ entry.key → entry.point ≡ other.point → (entry.content ≡ other.content → ⊥) → IsCause was Conflict
  go_on_conflict was entry (now, left, passing) key point differ = passing_conflict was now place other (in_now now left) (stood_at now left) (behind_rises now left) entry entry passing key point differ

  pub begin : (was : List Coming) → all_left inputs firsts ≡ Some was → ArePassing was inputs_now firsts_now other
  begin was left = (set was place (input_after_key other.key (input_at was place)), passed was left, passing_begins was was place other (in_now was left) (stood_at was left) (behind_rises was left) refl)

-- a cause in what is left is one in what was
pub cause_on : (inputs : List (Option Coming)) (firsts : List (Option Triple)) (was : List Coming) (entry : Triple) (why : Refusal) → ArePassing was inputs firsts entry → HasCause inputs firsts why → IsCause was why
cause_on inputs firsts was entry why (now, left, passing) cause = cause_before was now passing.rests why (cause now left)

-- the newest of two of one key is of that key
pub newer_key : (entry other newer : Triple) → other.key ≡ entry.key → (newer ≡ entry) ⊎ (newer ≡ other) → newer.key ≡ entry.key
newer_key entry other newer key (inl is) = ap (λ (t : Triple). t.key) is
newer_key entry other newer key (inr is) = ap (λ (t : Triple). t.key) is ∙ key

-- fewer places have the key
pub fewer : (firsts firsts_now : List (Option Triple)) (place : ℕ) (entry other newer : Triple) → Passes firsts firsts_now place other → other.key ≡ entry.key → newer.key ≡ entry.key → having newer.key firsts_now < having entry.key firsts
fewer firsts firsts_now place entry other newer passes key same =
    let less = having_less entry.key firsts place other passes.next passes.first key (below_same other.key entry.key passes.next key passes.rises) in
    rw (same, passes.stands) less
