-- Facts of lists of files, and what lists represent.
use Rattle.std.proofs.Common.{◌≡◌, ℕ, ◌<◌, List, [], ◌∷◌, ◌++◌, length, take, drop, ◌⊎◌, inl, inr, ⊎_elim, refl, sym, ap, subst, ◌∙◌, arith}
use Rattle.std.specs.List.{Contains}
use Rattle.std.proofs.lemmas.List.{take-append-drop}
use Rattle.std.proofs.lemmas.List.Elements.{Contains-append_right, Contains-append_cases, Contains-push_cases}
use Rattle.pc_model.specs.Files.{File}
use Rattle.pc_collapse.specs.Worth.{Fact, FactHolds, Among, MustStay, AreFactsGiven, AreWorth}
use Rattle.pc_collapse.specs.Worth.Fact.{HasTriple, HasPoint, HasRun}

-- ---- facts of a list and of its parts

pub among_front : (w : Fact) (xs ys : List File) → Among w xs → Among w (xs ++ ys)
among_front w [] ys a = absurd a
among_front w (x ∷ xs) ys (inl i) = inl i
among_front w (x ∷ xs) ys (inr r) = inr (among_front w xs ys r)

pub among_back : (w : Fact) (xs ys : List File) → Among w ys → Among w (xs ++ ys)
among_back w [] ys a = a
among_back w (x ∷ xs) ys a = inr (among_back w xs ys a)

pub among_split : (w : Fact) (xs ys : List File) → Among w (xs ++ ys) → Among w xs ⊎ Among w ys
among_split w [] ys a = inr a
among_split w (x ∷ xs) ys (inl i) = inl (inl i)
among_split w (x ∷ xs) ys (inr r) = ⊎_elim (λ p. inl (inr p)) (λ q. inr q) (among_split w xs ys r)

-- what stays among many stays among some of them
pub stays_among : (w : Fact) (many few : List File) → AreFactsGiven many few → MustStay w many → MustStay w few
stays_among (HasTriple key x) many few sub stays = λ u a. stays u (sub (HasTriple key u) a)
stays_among (HasPoint p) many few sub stays = tt
stays_among (HasRun r) many few sub stays = tt

-- a fact of a list is one of a file of it, and back
pub among_file : (w : Fact) (fs : List File) → Among w fs → (one : File) × Contains fs one × FactHolds w one
among_file w [] h = absurd h
among_file w (f ∷ fs) (inl i) = (f, (0, omega arith, refl), i)
among_file w (f ∷ fs) (inr r) = let there = among_file w fs r in (there.0, Contains-append_right (f ∷ []) fs there.0 there.1, there.2)

pub file_among : (w : Fact) (fs : List File) (h : File) → Contains fs h → FactHolds w h → Among w fs
file_among w [] h there i = absurd (let bound = there.1 in omega arith)
file_among w (f ∷ fs) h there i = ⊎_elim (λ (same : Contains (f ∷ []) h). ⊎_elim (λ (none : Contains [] h). absurd (let bound = none.1 in omega arith)) (λ (is : f ≡ h). inl (subst (FactHolds w) (sym is) i)) (Contains-push_cases [] f h same))
    (λ (rest : Contains fs h). inr (file_among w fs h rest i)) (Contains-append_cases (f ∷ []) fs h there)

-- ---- what lists represent

pub sound_trans : (a b c : List File) → AreFactsGiven a b → AreFactsGiven b c → AreFactsGiven a c
sound_trans a b c p q = λ w h. p w (q w h)

pub sound_front : (xs ys : List File) → AreFactsGiven (xs ++ ys) xs
sound_front xs ys = λ w h. among_front w xs ys h

pub sound_back : (xs ys : List File) → AreFactsGiven (xs ++ ys) ys
sound_back xs ys = λ w h. among_back w xs ys h

-- lists with the same facts
pub worth_same : (a b : List File) → AreFactsGiven a b → AreFactsGiven b a → AreWorth a b
worth_same a b there back = record { sound = there; whole = λ w stays h. back w h }

pub worth_itself : (a : List File) → AreWorth a a
worth_itself a = worth_same a a (λ w h. h) (λ w h. h)

pub worth_trans : (a b c : List File) → AreWorth a b → AreWorth b c → AreWorth a c
worth_trans a b c p q = record { sound = sound_trans a b c p.sound q.sound; whole = λ w stays h. q.whole w (stays_among w a b p.sound stays) (p.whole w stays h) }

-- two lists, each for another
pub worth_append : (a b c d : List File) → AreWorth a b → AreWorth c d → AreWorth (a ++ c) (b ++ d)
worth_append a b c d p q = record {
  sound = λ w h. ⊎_elim (λ i. among_front w a c (p.sound w i)) (λ i. among_back w a c (q.sound w i)) (among_split w b d h);
  whole = λ w stays h. ⊎_elim (λ i. among_front w b d (p.whole w (stays_among w (a ++ c) a (sound_front a c) stays) i))
      (λ i. among_back w b d (q.whole w (stays_among w (a ++ c) c (sound_back a c) stays) i)) (among_split w a c h);
}

-- files that represent something are some
pub worth_some : (given files : List File) → 0 < length given → AreWorth given files → 0 < length files
worth_some [] files some worth = absurd (omega (arith, some))
worth_some (f ∷ fs) [] some worth = absurd (worth.whole (HasRun f.run) tt (inl refl))
worth_some (f ∷ fs) (x ∷ xs) some worth = omega arith

-- the two halves of a list
pub sound_halves : (half : ℕ) (all front back : List File) → front ≡ take half all → back ≡ drop half all → AreFactsGiven all front × AreFactsGiven all back × (all ≡ front ++ back)
sound_halves half all front back is_front is_back =
    let whole : all ≡ front ++ back = sym (ap (λ l. l ++ back) is_front ∙ ap (λ l. take half all ++ l) is_back ∙ take-append-drop half all) in (
      subst (λ (l : List File). AreFactsGiven l front) (sym whole) (sound_front front back),
      subst (λ (l : List File). AreFactsGiven l back) (sym whole) (sound_back front back),
      whole,
    )
