-- Seats that are dealt and handed in keep the rule.
use Rattle.std.proofs.Common.{◌≡◌, ◌≢◌, ◌⊎◌, eqb, ℕ, zero, suc, ◌+◌, ◌<◌, ◌≤◌, Bool, true, false, cond, List, [], ◌∷◌, ◌++◌, length, set, refl, ap, sym, ◌∙◌, subst, ⊎_elim, arith, inl, inr, eq-eqb, ne_eqb}
use mathlib.Core.Option.{Option, some, some-injective, some-ne-none}
use lib.ListN.{get_elem?}
use Rattle.atomic_table.specs.Table.{State, Splits, Joins, Enters}
use Rattle.atomic_table.proofs.Lists.{at_set}
use Rattle.pc_types.specs.declared.limits.TheConstants.{MOST_PASSES}
use Rattle.pc_board.specs.declared.calls.Call.{Call}
use Rattle.pc_board.specs.declared.sight.Account.{Account}
use Rattle.pc_board.specs.declared.sight.PassSight.{PassSight}
use Rattle.pc_board.specs.declared.sight.PassSight.TheVariants.{Dealer, Holder, Closer, Nobody}
use Rattle.pc_board.specs.Rules.{SpeaksFor, FitsPass, HasOneCallHistory, account, dealer_after, next_holder, closer_after}
use Rattle.pc_board.proofs.Histories.{none_is_legal, prefix_none}
use Rattle.pc_board.proofs.Steps.{fits_set}

-- the pass of this number has got a new owner
abbrev with_owner : (ℕ → ℕ) → ℕ → ℕ → ℕ → ℕ
with_owner owner number seat n = cond (eqb n number) seat (owner n)

owner_is : (owner : ℕ → ℕ) (number seat : ℕ) → with_owner owner number seat number ≡ seat
owner_is owner number seat = ap (λ (b : Bool). cond b seat (owner number)) (eq-eqb number number refl)

owner_stays : (owner : ℕ → ℕ) (number seat n : ℕ) → n ≢ number → with_owner owner number seat n ≡ owner n
owner_stays owner number seat n ne = ap (λ (b : Bool). cond b seat (owner n)) (ne_eqb n number ne)

owner_is_either : (owner : ℕ → ℕ) (seat number n : ℕ) → owner n ≡ seat → with_owner owner number seat n ≡ seat
owner_is_either owner seat number n e = elim (eqb n number) as (λ b. cond b seat (owner n) ≡ seat) [ true ↦ refl | false ↦ e ]

-- an item of a list that is one longer is one of the shorter list's, or the last one
at_longer : {A : Type 0} (items : List A) (last item : A) (k : ℕ) → get_elem? (items ++ last ∷ []) k ≡ some item → (get_elem? items k ≡ some item) ⊎ ((k ≡ length items) × (last ≡ item))
at_longer [] last item zero e = inr (refl, some-injective last item e)
at_longer [] last item (suc k) e = absurd (some-ne-none item (sym e))
at_longer (x ∷ xs) last item zero e = inl e
at_longer (x ∷ xs) last item (suc k) e = ⊎_elim (λ t. inl t) (λ t. inr (ap suc t.0, t.1)) (at_longer xs last item k e)

-- what a seat knows fits if another seat's pass gets a new owner
module _ (passes : ℕ) (history : List Call) (owner : ℕ → ℕ) (number seat other : ℕ) (apart : other ≢ owner number) where
  keeps_owner : (n : ℕ) → owner n ≡ other → with_owner owner number seat n ≡ other
  keeps_owner n e = owner_stays owner number seat n (λ same. apart (sym e ∙ ap owner same)) ∙ e

  still_fits : (sight : PassSight) → FitsPass passes history owner other sight → FitsPass passes history (with_owner owner number seat) other sight
  still_fits (Dealer next) f = λ n le lt. let g = f n le lt in (keeps_owner n g.0, g.1)
  still_fits (Holder n seen) f = (f.0, (keeps_owner n f.1.0, f.1.1, f.1.2))
  still_fits (Closer accounts) f = λ k x e. let g = f k x e in (keeps_owner x.by g.0, g.1, g.2)
  still_fits Nobody f = tt

-- the closer's accounts, with that of one more pass
accounts_fit : (passes : ℕ) (history : List Call) (owner : ℕ → ℕ) (seat other : ℕ) (accounts : List Account) (number : ℕ) (seen : List Call) → FitsPass passes history owner seat (Closer accounts)
    → SpeaksFor history owner other number seen → FitsPass passes history (with_owner owner number seat) seat (Closer (accounts ++ account number seen ∷ []))
accounts_fit passes history owner seat other accounts number seen f s k x e =
    ⊎_elim (λ earlier. let g = f k x earlier in (owner_is_either owner seat number x.by g.0, g.1, g.2))
    (λ (t : (k ≡ length accounts) × (account number seen ≡ x)). subst (λ (y : Account). SpeaksFor history (with_owner owner number seat) seat y.by y.seen) t.1 (owner_is owner number seat, s.1, s.2))
    (at_longer accounts (account number seen) x k e)

-- as fits_set, of all seats but one
fits_set_but : (passes : ℕ) (history : List Call) (owner : ℕ → ℕ) (sights : List PassSight) (seat but : ℕ) (sight : PassSight)
    → ((k : ℕ) (u : PassSight) → k ≢ seat → k ≢ but → get_elem? sights k ≡ some u → FitsPass passes history owner k u) → FitsPass passes history owner seat sight
    → (k : ℕ) (u : PassSight) → k ≢ but → get_elem? (set sights seat sight) k ≡ some u → FitsPass passes history owner k u
fits_set_but passes history owner sights seat but sight others mine k u near e =
    ⊎_elim (λ (t : (k ≡ seat) × (sight ≡ u)). subst (λ (y : ℕ × PassSight). FitsPass passes history owner y.0 y.1) (λ i. (sym t.0 i, t.1 i)) mine)
    (λ (t : (k ≢ seat) × (get_elem? sights k ≡ some u)). others k u t.0 near t.1) (at_set sights seat k sight u e)

module _ {S : Type 0} (passes : ℕ) where
  -- the same history, with other seats or owners
  reseats : (s : State S PassSight) (r : HasOneCallHistory passes s) (owner : ℕ → ℕ) (sights : List PassSight) → ((k : ℕ) (sight : PassSight) → get_elem? sights k ≡ some sight → FitsPass passes r.history owner k sight)
      → HasOneCallHistory passes (record { words = s.words; homes = s.homes; views = sights })
  reseats s r owner sights fit = record {
    history = r.history;
    owner = owner;
    legal = r.legal;
    words = r.words;
    most_passes = r.most_passes;
    most_claims = r.most_claims;
    most_points = r.most_points;
    ours = r.ours;
    each = fit;
  }

  -- the first seat of a new table
  pub begins : (homes : List (Option S)) → passes ≤ MOST_PASSES → HasOneCallHistory {S = S} passes (record { words = 0 ∷ 0 ∷ []; homes = homes; views = Dealer 0 ∷ [] })
  begins homes few = record {
    history = [];
    owner = λ _. 0;
    legal = none_is_legal;
    words = refl;
    most_passes = few;
    most_claims = λ n. omega arith;
    most_points = omega arith;
    ours = λ k d lt. absurd (omega arith);
    each = fits_set passes [] (λ _. 0) (Dealer 0 ∷ []) 0 (Dealer 0) alone (λ n le lt. (refl, refl));
  }
    where
      alone : (k : ℕ) (u : PassSight) → k ≢ 0 → get_elem? (Dealer 0 ∷ []) k ≡ some u → FitsPass passes [] (λ _. 0) k u
      alone zero u apart e = absurd (apart refl)
      alone (suc k) u apart e = absurd (some-ne-none u (sym e))

  -- the dealer gives out the next pass
  deals : (seat next : ℕ) → next < passes → Splits (HasOneCallHistory {S = S} passes) seat (Dealer next) (Dealer (next + 1)) (Holder next [])
  deals seat next lt s r at =
      let mine = r.each seat (Dealer next) at in
      let here = mine next (omega arith) lt in
      let rest = set s.views seat (Dealer (next + 1)) in
      let new = length rest in
      let owner = with_owner r.owner next new in
      reseats s r owner (rest ++ Holder next [] ∷ []) (λ k u e.
      ⊎_elim (fits_set passes r.history owner s.views seat (Dealer (next + 1)) (λ other v apart e'. still_fits passes r.history r.owner next new other (λ same. apart (same ∙ here.0)) v (r.each other v e'))
      (λ n le lt'. let m = mine n (omega arith) lt' in (owner_stays r.owner next new n (λ same. absurd (omega arith)) ∙ m.0, m.1)) k u)
      (λ (t : (k ≡ new) × (Holder next [] ≡ u)). subst (λ (y : ℕ × PassSight). FitsPass passes r.history owner y.0 y.1) (λ i. (sym t.0 i, t.1 i)) (lt, (owner_is r.owner next new, prefix_none r.history, here.1)))
      (at_longer rest (Holder next []) u k e))

  -- a closer takes a seat
  pub sits : (slots word : ℕ) → Enters (HasOneCallHistory {S = S} passes) slots word (λ found sight. sight ≡ Closer [])
  sits slots word s r _ _ = (
    Closer [],
    reseats s r r.owner (s.views ++ Closer [] ∷ []) (λ k u e.
        ⊎_elim (r.each k u) (λ (t : (k ≡ length s.views) × (Closer [] ≡ u)). subst (λ (y : PassSight). FitsPass passes r.history r.owner k y) t.1 (λ n x e'. absurd (some-ne-none x (sym e'))))
        (at_longer s.views (Closer []) u k e)),
    refl,
  )

  -- the closer takes in a pass
  takes_in : (seat : ℕ) (accounts : List Account) (other number : ℕ) (seen : List Call) →
      Joins (HasOneCallHistory {S = S} passes) seat (Closer accounts) other (Holder number seen) (Closer (accounts ++ account number seen ∷ [])) Nobody
  takes_in seat accounts other number seen s r at apart there =
      let both = Closer (accounts ++ account number seen ∷ []) in
      let theirs = ⊎_elim (λ (t : (other ≡ seat) × (both ≡ Holder number seen)). absurd (apart t.0))
      (λ (t : (other ≢ seat) × (get_elem? s.views other ≡ some (Holder number seen))). r.each other (Holder number seen) t.1) (at_set s.views seat other both (Holder number seen) there) in
      let owner = with_owner r.owner number seat in
      let mine = accounts_fit passes r.history r.owner seat other accounts number seen (r.each seat (Closer accounts) at) theirs.1 in
      reseats s r owner (set (set s.views seat both) other Nobody) (λ k u e.
      ⊎_elim (λ (t : (k ≡ other) × (Nobody ≡ u)). subst (λ (y : PassSight). FitsPass passes r.history owner k y) t.1 tt)
      (λ (t : (k ≢ other) × (get_elem? (set s.views seat both) k ≡ some u)).
      fits_set_but passes r.history owner s.views seat other both (λ i v far near e'. still_fits passes r.history r.owner number seat i (λ same. near (same ∙ theirs.1.0)) v (r.each i v e')) mine k u t.0 t.1)
      (at_set (set s.views seat both) other k Nobody u e))

  pub deals_as : (seat next : ℕ) (sight : PassSight) → sight ≡ Dealer next → next < passes → Splits (HasOneCallHistory {S = S} passes) seat sight (dealer_after sight) (next_holder sight)
  deals_as seat next sight is lt = subst (λ (u : PassSight). Splits (HasOneCallHistory {S = S} passes) seat u (dealer_after u) (next_holder u)) (sym is) (deals seat next lt)

  pub takes_in_as : (seat : ℕ) (accounts : List Account) (closer : PassSight) (other number : ℕ) (seen : List Call) (pass : PassSight) → closer ≡ Closer accounts → pass ≡ Holder number seen
      → Joins (HasOneCallHistory {S = S} passes) seat closer other pass (closer_after closer pass) Nobody
  takes_in_as seat accounts closer other number seen pass is there =
      subst (λ (u : PassSight × PassSight). Joins (HasOneCallHistory {S = S} passes) seat u.0 other u.1 (closer_after u.0 u.1) Nobody) (λ i. (sym is i, sym there i)) (takes_in seat accounts other number seen)
