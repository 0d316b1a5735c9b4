-- Each step of a pass keeps the rule, and tells its call.
use Rattle.std.proofs.Common.{◌≡◌, ◌≢◌, ℕ, ◌+◌, ◌%◌, ◌^◌, ◌<◌, ◌≤◌, max, List, [], ◌∷◌, ◌++◌, set, refl, ap, sym, ◌∙◌, subst, ⊎_elim, arith}
use Rattle.std.specs.Prelude.{slice_index}
use Rattle.std.proofs.Math.Nat.{mod-eq_of_lt}
use Rattle.std.proofs.lemmas.List.Elements.{All-append, All-cons}
use Rattle.std.proofs.lemmas.List.{append-nil}
use mathlib.Core.Option.{none, some}
use lib.ListN.{get_elem?}
use native.Mathlib.Decide.{ℕ_discrete}
use Rattle.atomic_table.specs.Table.{State, Me, step, keeps, Allows}
use Rattle.atomic_table.proofs.Lists.{at_set}
use Rattle.pc_types.specs.declared.limits.TheConstants.{MOST_CLAIMS, MOST_POINTS}
use Rattle.pc_board.specs.declared.calls.CallKind.TheVariants.{Claim, Publish, Look}
use Rattle.pc_board.specs.declared.calls.Call.{Call}
use Rattle.pc_board.specs.declared.sight.PassSight.{PassSight}
use Rattle.pc_board.specs.declared.sight.PassSight.TheVariants.{Dealer, Holder, Closer, Nobody}
use Rattle.pc_board.specs.Calls.{call, claims_in, calls_by, claims_of, greatest_of, AnswersCall, AreLegalCalls}
use Rattle.pc_board.specs.Passes.{EndsWithCall}
use Rattle.pc_board.specs.Rules.{SpeaksFor, FitsPass, HasOneCallHistory, Claims, Publishes, Looks}
use Rattle.pc_board.proofs.Histories.{longer_is_legal, prefix_self, prefix_more, rest_none}
use Rattle.pc_board.proofs.Sums.{claims_of-append, greatest_of-append, calls_by-append, calls_by-other, claims_of-own, claims_bound}

-- a call of one pass is none of another
calls_by-more : (history : List Call) (c : Call) (number : ℕ) → c.by ≢ number → calls_by number (history ++ c ∷ []) ≡ calls_by number history
calls_by-more history c number other = calls_by-append number history (c ∷ []) ∙ (ap (λ cs. calls_by number history ++ cs) (calls_by-other number c other) ∙ append-nil (calls_by number history))

-- a call of a pass leaves what other seats know
module _ (history : List Call) (owner : ℕ → ℕ) (seat other : ℕ) (c : Call) (apart : other ≢ seat) (own : owner c.by ≡ seat) where
  not_by : (number : ℕ) → owner number ≡ other → c.by ≢ number
  not_by number theirs e = apart (sym theirs ∙ (ap owner (sym e) ∙ own))

  speaks_still : (number : ℕ) (seen : List Call) → SpeaksFor history owner other number seen → SpeaksFor (history ++ c ∷ []) owner other number seen
  speaks_still number seen s = (s.0, prefix_more seen history (c ∷ []) s.1, calls_by-more history c number (not_by number s.0) ∙ s.2)

  fits_still : (passes : ℕ) (sight : PassSight) → FitsPass passes history owner other sight → FitsPass passes (history ++ c ∷ []) owner other sight
  fits_still passes (Dealer next) f = λ number le lt. let g = f number le lt in (g.0, calls_by-more history c number (not_by number g.0) ∙ g.1)
  fits_still passes (Holder number seen) f = (f.0, speaks_still number seen f.1)
  fits_still passes (Closer accounts) f = λ k x e. speaks_still x.by x.seen (f k x e)
  fits_still passes Nobody f = tt

-- if one seat's sight is set, what each seat knows fits if that one's does, and if the others' did
pub fits_set : (passes : ℕ) (history : List Call) (owner : ℕ → ℕ) (sights : List PassSight) (seat : ℕ) (sight : PassSight)
    → ((other : ℕ) (u : PassSight) → other ≢ seat → get_elem? sights other ≡ some u → FitsPass passes history owner other u) → FitsPass passes history owner seat sight
    → (other : ℕ) (u : PassSight) → get_elem? (set sights seat sight) other ≡ some u → FitsPass passes history owner other u
fits_set passes history owner sights seat sight others mine other u e =
    ⊎_elim (λ (x : (other ≡ seat) × (sight ≡ u)). subst (λ (y : ℕ × PassSight). FitsPass passes history owner y.0 y.1) (λ i. (sym x.0 i, x.1 i)) mine)
    (λ (x : (other ≢ seat) × (get_elem? sights other ≡ some u)). others other u x.0 x.1) (at_set sights seat other sight u e)

-- no pass is past its limit after a call for which its pass had room
limits_still : (history : List Call) (c : Call) → ((number : ℕ) → claims_of (calls_by number history) ≤ MOST_CLAIMS) → claims_of (calls_by c.by history) + claims_in c.kind ≤ MOST_CLAIMS
    → (number : ℕ) → claims_of (calls_by number (history ++ c ∷ [])) ≤ MOST_CLAIMS
limits_still history c most room number = by_case (ℕ_discrete c.by number)
  where
    by_case : Dec (c.by ≡ number) → claims_of (calls_by number (history ++ c ∷ [])) ≤ MOST_CLAIMS
    by_case (yes e) = subst (λ (n : ℕ). claims_of (calls_by n (history ++ c ∷ [])) ≤ MOST_CLAIMS) e (omega (arith, claims_of-own history c))
    by_case (no ne) = subst (λ (cs : List Call). claims_of cs ≤ MOST_CLAIMS) (sym (calls_by-more history c number ne)) (most number)

module _ {S : Type 0} (passes seat number : ℕ) (seen : List Call) where
  -- the pass at the seat adds a call to the history
  adds : (s : State S PassSight) (r : HasOneCallHistory passes s) (c : Call) (words : List ℕ) → get_elem? s.views seat ≡ some (Holder number seen) → c.by ≡ number → AnswersCall c.kind r.history c.value
      → claims_of (calls_by number r.history) + claims_in c.kind ≤ MOST_CLAIMS → greatest_of (r.history ++ c ∷ []) ≤ MOST_POINTS
      → words ≡ claims_of (r.history ++ c ∷ []) ∷ greatest_of (r.history ++ c ∷ []) ∷ []
      → HasOneCallHistory passes (record { words = words; homes = s.homes; views = set s.views seat (Holder number (r.history ++ c ∷ [])) })
  adds s r c words at by right room points are =
      let mine = r.each seat (Holder number seen) at in
      let own : r.owner c.by ≡ seat = ap r.owner by ∙ mine.1.0 in
      let after = r.history ++ c ∷ [] in record {
        history = after;
        owner = r.owner;
        legal = longer_is_legal r.history c r.legal right;
        words = are;
        most_passes = r.most_passes;
        most_claims = limits_still r.history c r.most_claims (subst (λ (n : ℕ). claims_of (calls_by n r.history) + claims_in c.kind ≤ MOST_CLAIMS) (sym by) room);
        most_points = points;
        ours = All-append (λ (d : Call). d.by < passes) r.history (c ∷ []) r.ours (All-cons (λ (d : Call). d.by < passes) c [] (subst (λ (n : ℕ). n < passes) (sym by) mine.0) (λ k d lt. absurd (omega arith)));
        each = fits_set passes after r.owner s.views seat (Holder number after) (λ other u apart e. fits_still r.history r.owner seat other c apart own passes u (r.each other u e)) (mine.0, (mine.1.0, prefix_self after, refl));
      }

  -- what it tells of the call
  makes : (s : State S PassSight) (r : HasOneCallHistory passes s) (c : Call) → get_elem? s.views seat ≡ some (Holder number seen) → c.by ≡ number → AnswersCall c.kind r.history c.value
      → AreLegalCalls (r.history ++ c ∷ []) × EndsWithCall seen c (r.history ++ c ∷ [])
  makes s r c at by right =
      let mine = (r.each seat (Holder number seen) at).1 in
      let between = mine.1.0 in
      let whole : seen ++ between ≡ r.history = mine.1.1 in
      let same : calls_by number seen ++ calls_by number between ≡ calls_by number seen = sym (calls_by-append number seen between) ∙ (ap (calls_by number) whole ∙ mine.2) in
      (longer_is_legal r.history c r.legal right, (between, ap (λ cs. cs ++ c ∷ []) (sym whole), subst (λ (n : ℕ). calls_by n between ≡ []) (sym by) (rest_none (calls_by number seen) (calls_by number between) same)))

  claims : (slots : ℕ) → claims_of (calls_by number seen) < MOST_CLAIMS → Allows (HasOneCallHistory {S = S} passes) slots seat (Holder number seen, []) 0 (λ x. (x + 1) % 2 ^ 64) (Claims (step slots 0 1 0 none) (Holder number seen, []))
  claims slots room s r _ at _ =
      let found = slice_index s.words 0 in
      let first : found ≡ claims_of r.history = ap (λ ws. slice_index ws 0) r.words in
      let c : Call = call number Claim found in
      let after = r.history ++ c ∷ [] in
      let bound = claims_bound passes MOST_CLAIMS r.history r.ours r.most_claims in
      let most = r.most_passes in
      let fits : found + 1 < 2 ^ 64 = omega arith in
      let count : (found + 1) % 2 ^ 64 ≡ claims_of after = mod-eq_of_lt fits ∙ omega (arith, claims_of-append r.history (c ∷ [])) in
      let greatest : greatest_of r.history ≡ greatest_of after = omega (arith, greatest_of-append r.history (c ∷ [])) in
      let own : claims_of (calls_by number r.history) ≡ claims_of (calls_by number seen) = ap claims_of (r.each seat (Holder number seen) at).1.2 in (
        Holder number after,
        keeps,
        tt,
        adds s r c (set s.words 0 ((found + 1) % 2 ^ 64)) at refl first (omega arith) (omega (arith, r.most_points))
            (ap (λ ws. set ws 0 ((found + 1) % 2 ^ 64)) r.words ∙ (λ i. count i ∷ greatest i ∷ [])),
        (let m = makes s r c at refl first in (after, refl, m.0, m.1)),
      )

  publishes : (slots point : ℕ) → point ≤ MOST_POINTS → Allows (HasOneCallHistory {S = S} passes) slots seat (Holder number seen, []) 1 (λ x. max x point) (Publishes (step slots 1 point 0 none) (Holder number seen, []))
  publishes slots point lawful s r _ at _ =
      let found = slice_index s.words 1 in
      let second : found ≡ greatest_of r.history = ap (λ ws. slice_index ws 1) r.words in
      let c : Call = call number Publish point in
      let after = r.history ++ c ∷ [] in
      let count : claims_of r.history ≡ claims_of after = omega (arith, claims_of-append r.history (c ∷ [])) in
      let greatest : max found point ≡ greatest_of after = omega (arith, greatest_of-append r.history (c ∷ [])) in (
        Holder number after,
        keeps,
        tt,
        adds s r c (set s.words 1 (max found point)) at refl tt (omega (arith, r.most_claims number)) (omega (arith, r.most_points))
            (ap (λ ws. set ws 1 (max found point)) r.words ∙ (λ i. count i ∷ greatest i ∷ [])),
        (let m = makes s r c at refl tt in (after, refl, m.0, m.1)),
      )

  looks : (slots : ℕ) → Allows (HasOneCallHistory {S = S} passes) slots seat (Holder number seen, []) 1 (λ x. x) (Looks (step slots 1 0 0 none) (Holder number seen, []))
  looks slots s r _ at _ =
      let found = slice_index s.words 1 in
      let second : found ≡ greatest_of r.history = ap (λ ws. slice_index ws 1) r.words in
      let c : Call = call number Look found in
      let after = r.history ++ c ∷ [] in
      let count : claims_of r.history ≡ claims_of after = omega (arith, claims_of-append r.history (c ∷ [])) in
      let greatest : found ≡ greatest_of after = omega (arith, greatest_of-append r.history (c ∷ [])) in (
        Holder number after,
        keeps,
        tt,
        adds s r c (set s.words 1 found) at refl second (omega (arith, r.most_claims number)) (omega (arith, r.most_points))
            (ap (λ ws. set ws 1 found) r.words ∙ (λ i. count i ∷ greatest i ∷ [])),
        (let m = makes s r c at refl second in ((after, refl, m.0, m.1), omega (arith, r.most_points))),
      )

-- the same at a seat that is known to be a pass's
module _ {S : Type 0} (passes seat number slots : ℕ) (seen : List Call) (me : Me S PassSight) (is : me ≡ (Holder number seen, [])) where
  pub claims_as : claims_of (calls_by number seen) < MOST_CLAIMS → Allows (HasOneCallHistory {S = S} passes) slots seat me 0 (λ x. (x + 1) % 2 ^ 64) (Claims (step slots 0 1 0 none) me)
  claims_as room = subst (λ (m : Me S PassSight). Allows (HasOneCallHistory {S = S} passes) slots seat m 0 (λ x. (x + 1) % 2 ^ 64) (Claims (step slots 0 1 0 none) m)) (sym is) (claims passes seat number seen slots room)

  pub publishes_as : (point : ℕ) → point ≤ MOST_POINTS → Allows (HasOneCallHistory {S = S} passes) slots seat me 1 (λ x. max x point) (Publishes (step slots 1 point 0 none) me)
  publishes_as point lawful =
      subst (λ (m : Me S PassSight). Allows (HasOneCallHistory {S = S} passes) slots seat m 1 (λ x. max x point) (Publishes (step slots 1 point 0 none) m)) (sym is) (publishes passes seat number seen slots point lawful)

  pub looks_as : Allows (HasOneCallHistory {S = S} passes) slots seat me 1 (λ x. x) (Looks (step slots 1 0 0 none) me)
  looks_as = subst (λ (m : Me S PassSight). Allows (HasOneCallHistory {S = S} passes) slots seat m 1 (λ x. x) (Looks (step slots 1 0 0 none) m)) (sym is) (looks passes seat number seen slots)
