-- The join of two files represents both.
use Rattle.std.proofs.Common.{◌≡◌, ◌≤◌, nat_lt, ◌||◌, Bool, true, false, cond, [], ◌∷◌, Some, None, Option, ◌⊎◌, inl, inr, ⊎_elim, refl, sym, ap, ◌∙◌, arith}
use Rattle.std.proofs.lemmas.Bool.{ltb-true, ltb-false}
use Rattle.pc_model.specs.Maps.{get}
use Rattle.pc_model.specs.Sets as set
use Rattle.pc_model.specs.Points.{AtPoint, later}
use Rattle.pc_model.specs.Files.{File, joined_file, conflict}
use Rattle.pc_model.proofs.ContentLaws.{contains-union}
use Rattle.pc_model.proofs.JoinLaws.{get-joined}
use Rattle.pc_collapse.specs.Worth.{Fact, FactHolds, MustStay, AreWorth}
use Rattle.pc_collapse.specs.Worth.Fact.{HasTriple, HasPoint, HasRun}
use Rattle.pc_collapse.proofs.KeyConflicts.{one_triple}

-- ---- the later of two

pub later_from : (x y : Option AtPoint) (t : AtPoint) → later x y ≡ Some t → (x ≡ Some t) ⊎ (y ≡ Some t)
later_from x None t e = inl e
later_from None (Some b) t e = inr e
later_from (Some a) (Some b) t e = by (nat_lt a.point b.point) e
  where
    by : (c : Bool) → Some (cond c b a) ≡ Some t → (Some a ≡ Some t) ⊎ (Some b ≡ Some t)
    by true e = inr e
    by false e = inl e

-- what is above the point is not there
abbrev IsMost : Option AtPoint → AtPoint → Type 0
IsMost x t = (a : AtPoint) → x ≡ Some a → a.point ≤ t.point

later_left : (x : AtPoint) (y : Option AtPoint) → IsMost y x → later (Some x) y ≡ Some x
later_left x None most = refl
later_left x (Some b) most = by (nat_lt x.point b.point) refl
  where
    by : (c : Bool) → nat_lt x.point b.point ≡ c → Some (cond c b x) ≡ Some x
    by true e = let less = ltb-true x.point b.point e in let no = most b refl in absurd (omega (arith, less, no))
    by false e = refl

later_right : (x : Option AtPoint) (y : AtPoint) → IsMost x y → ((a : AtPoint) → x ≡ Some a → a.point ≡ y.point → a ≡ y) → later x (Some y) ≡ Some y
later_right None y most one = refl
later_right (Some a) y most one = by (nat_lt a.point y.point) refl
  where
    by : (c : Bool) → nat_lt a.point y.point ≡ c → Some (cond c y a) ≡ Some y
    by true e = refl
    by false e = let not_less = ltb-false a.point y.point e in let le = most a refl in ap (λ (t : AtPoint). Some t) (one a refl (omega (arith, not_less, le)))

-- ---- one of two points

pub or_from : (s t : Bool) → (s || t) ≡ true → (s ≡ true) ⊎ (t ≡ true)
or_from true t e = inl refl
or_from false t e = inr e

pub or_right : (s t : Bool) → t ≡ true → (s || t) ≡ true
or_right true t e = refl
or_right false t e = e

pub or_left : (s t : Bool) → s ≡ true → (s || t) ≡ true
or_left true t e = refl
or_left false t e = cc

-- ---- the join

pub joined_from : (a b : File) (w : Fact) → FactHolds w (joined_file a b) → FactHolds w a ⊎ FactHolds w b
joined_from a b (HasTriple key x) h = later_from (get a.triples key) (get b.triples key) x (sym (get-joined a.triples b.triples key) ∙ h)
joined_from a b (HasPoint p) h = or_from (set.contains a.points p) (set.contains b.points p) (sym (contains-union a.points b.points p) ∙ h)
joined_from a b (HasRun r) h = inl h

pub join_worth : (a b : File) → a.run ≡ b.run → conflict a.triples b.triples ≡ false → AreWorth (a ∷ b ∷ []) (joined_file a b ∷ [])
join_worth a b run none = record {
  sound = λ w h. ⊎_elim (λ i. ⊎_elim (λ p. inl p) (λ q. inr (inl q)) (joined_from a b w i)) (λ e. absurd e) h;
  whole = λ w stays h. inl (whole w stays (⊎_elim (λ p. inl p) (λ r. ⊎_elim (λ q. inr q) (λ e. absurd e) r) h));
}
  where
    whole : (w : Fact) → MustStay w (a ∷ b ∷ []) → FactHolds w a ⊎ FactHolds w b → FactHolds w (joined_file a b)
    whole (HasTriple key x) stays (inl i) = get-joined a.triples b.triples key ∙ ap (λ y. later y (get b.triples key)) i ∙ later_left x (get b.triples key) (λ c e. stays c (inr (inl e)))
    whole (HasTriple key x) stays (inr i) = get-joined a.triples b.triples key ∙ ap (later (get a.triples key)) i
        ∙ later_right (get a.triples key) x (λ c e. stays c (inl e)) (λ c e. one_triple a.triples b.triples none key c x e i)
    whole (HasPoint p) stays (inl i) = contains-union a.points b.points p ∙ or_left (set.contains a.points p) (set.contains b.points p) i
    whole (HasPoint p) stays (inr i) = contains-union a.points b.points p ∙ or_right (set.contains a.points p) (set.contains b.points p) i
    whole (HasRun r) stays (inl i) = i
    whole (HasRun r) stays (inr i) = run ∙ i
