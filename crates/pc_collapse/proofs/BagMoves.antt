-- Each step of a collapser keeps the rule of the bag.
use Rattle.std.proofs.Common.{◌≡◌, ◌≢◌, ◌⊎◌, ℕ, zero, suc, ◌+◌, ◌-◌, ◌<◌, ◌≤◌, List, [], ◌∷◌, ◌++◌, length, set, refl, ap, sym, ◌∙◌, subst, ⊎_elim, arith, inl, inr, length-append, append-nil}
use mathlib.Core.Option.{some, some-injective, some-ne-none}
use lib.ListN.{get_elem?}
use Rattle.crossbeam_queue.specs.Fifo.{Pushes, Pops, Learns, Forks, Merges}
use Rattle.crossbeam_queue.proofs.Lists.{at_set, at_snoc}
use Rattle.pc_model.specs.Files.{File}
use Rattle.pc_collapse.specs.declared.rule.Hand.{Hand}
use Rattle.pc_collapse.specs.Bags.{hand, all_parts, held_by, parts_of, Bagged, held_without_last}
use Rattle.pc_collapse.specs.Worth.{Fact, FactHolds, Among, MustStay, AreFactsGiven, AreWorth}
use Rattle.pc_collapse.proofs.FactLists.{among_front, among_back, among_split, stays_among, worth_itself}

-- ---- hands

held_at : (l : List Hand) (i : ℕ) (a : Hand) (w : Fact) → get_elem? l i ≡ some a → Among w a.held → Among w (held_by l)
held_at [] i a w e h = absurd (some-ne-none a (sym e))
held_at (x ∷ xs) zero a w e h = among_front w x.held (held_by xs) (subst (λ (u : Hand). Among w u.held) (sym (some-injective x a e)) h)
held_at (x ∷ xs) (suc i) a w e h = among_back w x.held (held_by xs) (held_at xs i a w e h)

-- what hands hold once one of them has changed
held_after : (l : List Hand) (i : ℕ) (b : Hand) (w : Fact) → Among w (held_by (set l i b)) → Among w b.held ⊎ Among w (held_by l)
held_after [] i b w h = absurd h
held_after (x ∷ xs) zero b w h = ⊎_elim (λ p. inl p) (λ q. inr (among_back w x.held (held_by xs) q)) (among_split w b.held (held_by xs) h)
held_after (x ∷ xs) (suc i) b w h = ⊎_elim (λ p. inr (among_front w x.held (held_by xs) p))
    (λ q. ⊎_elim (λ p. inl p) (λ r. inr (among_back w x.held (held_by xs) r)) (held_after xs i b w q)) (among_split w x.held (held_by (set xs i b)) h)

-- what they held before, but for that one
held_before : (l : List Hand) (i : ℕ) (a b : Hand) (w : Fact) → get_elem? l i ≡ some a → Among w (held_by l) → Among w a.held ⊎ Among w (held_by (set l i b))
held_before [] i a b w e h = absurd h
held_before (x ∷ xs) zero a b w e h = ⊎_elim (λ p. inl (subst (λ (u : Hand). Among w u.held) (some-injective x a e) p)) (λ q. inr (among_back w b.held (held_by xs) q)) (among_split w x.held (held_by xs) h)
held_before (x ∷ xs) (suc i) a b w e h = ⊎_elim (λ p. inr (among_front w x.held (held_by (set xs i b)) p))
    (λ q. ⊎_elim (λ p. inl p) (λ r. inr (among_back w x.held (held_by (set xs i b)) r)) (held_before xs i a b w e q)) (among_split w x.held (held_by xs) h)

held_new : (l : List Hand) (i : ℕ) (a b : Hand) (w : Fact) → get_elem? l i ≡ some a → Among w b.held → Among w (held_by (set l i b))
held_new [] i a b w e h = absurd (some-ne-none a (sym e))
held_new (x ∷ xs) zero a b w e h = among_front w b.held (held_by xs) h
held_new (x ∷ xs) (suc i) a b w e h = among_back w x.held (held_by (set xs i b)) (held_new xs i a b w e h)

len_set : (l : List Hand) (i : ℕ) (a b : Hand) → get_elem? l i ≡ some a → length (held_by (set l i b)) + length a.held ≡ length (held_by l) + length b.held
len_set [] i a b e = absurd (some-ne-none a (sym e))
len_set (x ∷ xs) zero a b e = let same : length x.held ≡ length a.held = ap (λ (h : Hand). length h.held) (some-injective x a e) in omega (arith, same, length-append x.held (held_by xs), length-append b.held (held_by xs))
len_set (x ∷ xs) (suc i) a b e = let r = len_set xs i a b e in omega (arith, r, length-append x.held (held_by xs), length-append x.held (held_by (set xs i b)))

parts_set : (l : List Hand) (i : ℕ) (a b : Hand) → get_elem? l i ≡ some a → parts_of (set l i b) + a.parts ≡ parts_of l + b.parts
parts_set [] i a b e = absurd (some-ne-none a (sym e))
parts_set (x ∷ xs) zero a b e = let same : x.parts ≡ a.parts = ap (λ (h : Hand). h.parts) (some-injective x a e) in omega (arith, same)
parts_set (x ∷ xs) (suc i) a b e = let r = parts_set xs i a b e in omega (arith, r)

parts_some : (l : List Hand) (i : ℕ) (a : Hand) → get_elem? l i ≡ some a → a.parts ≤ parts_of l
parts_some [] i a e = absurd (some-ne-none a (sym e))
parts_some (x ∷ xs) zero a e = let same : x.parts ≡ a.parts = ap (λ (h : Hand). h.parts) (some-injective x a e) in omega (arith, same)
parts_some (x ∷ xs) (suc i) a e = let r = parts_some xs i a e in omega (arith, r)

len_some : (l : List Hand) (i : ℕ) (a : Hand) → get_elem? l i ≡ some a → length a.held ≤ length (held_by l)
len_some [] i a e = absurd (some-ne-none a (sym e))
len_some (x ∷ xs) zero a e = let same : length x.held ≡ length a.held = ap (λ (h : Hand). length h.held) (some-injective x a e) in omega (arith, same, length-append x.held (held_by xs))
len_some (x ∷ xs) (suc i) a e = let r = len_some xs i a e in omega (arith, r, length-append x.held (held_by xs))

abbrev Idle : List Hand → Type 0
Idle views = (pass : ℕ) (v : Hand) → get_elem? views pass ≡ some v → v.parts ≡ 0 → v.held ≡ []

idle_set : (views : List Hand) (i : ℕ) (w : Hand) → (w.parts ≡ 0 → w.held ≡ []) → Idle views → Idle (set views i w)
idle_set views i w own idle j u e none = ⊎_elim (λ (s : (j ≡ i) × (w ≡ u)). subst (λ (x : Hand). x.held ≡ []) s.1 (own (ap (λ (x : Hand). x.parts) s.1 ∙ none)))
    (λ (s : (j ≢ i) × (get_elem? views j ≡ some u)). idle j u s.1 none) (at_set views i j w u e)

-- ---- steps

module _ (given : List File) where
  -- files that represent the given ones stay so if no fact is new and none is lost that has to stay
  worth_after : (old new : List File) → AreWorth given old → ((w : Fact) → Among w new → Among w old) → ((w : Fact) → MustStay w given → Among w old → Among w new) → AreWorth given new
  worth_after old new h sub keep = record { sound = λ w a. h.sound w (sub w a); whole = λ w stays a. keep w stays (h.whole w stays a) }

  module _ (pass : ℕ) (v : Hand) where
    takes_to : (held : File → List File) → ((x : File) (w : Fact) → Among w (held x) → FactHolds w x ⊎ Among w v.held) → ((x : File) (w : Fact) → FactHolds w x ⊎ Among w v.held → Among w (held x)) →
        ((x : File) → length (held x) ≡ length v.held + 1) → 0 < v.parts → Pops (Bagged given) pass v (λ x w. w ≡ hand v.parts (held x))
    takes_to held from to count own x items views b at = let w : Hand = hand v.parts (held x) in (
      w,
      record {
        worth = worth_after (x ∷ items ++ held_by views) (items ++ held_by (set views pass w)) b.worth
            (λ f a. ⊎_elim (λ p. inr (among_front f items (held_by views) p))
            (λ q. ⊎_elim (λ r. ⊎_elim (λ i. inl i) (λ i. inr (among_back f items (held_by views) (held_at views pass v f at i))) (from x f r)) (λ r. inr (among_back f items (held_by views) r)) (held_after views pass w f q))
            (among_split f items (held_by (set views pass w)) a))
            (λ f stays a. ⊎_elim (λ i. among_back f items (held_by (set views pass w)) (held_new views pass v w f at (to x f (inl i))))
            (λ r. ⊎_elim (λ p. among_front f items (held_by (set views pass w)) p)
            (λ q. among_back f items (held_by (set views pass w)) (⊎_elim (λ i. held_new views pass v w f at (to x f (inr i))) (λ i. i) (held_before views pass v w f at q)))
            (among_split f items (held_by views) r)) a);
        few = (let s = len_set views pass v w at in let f = b.few in let c = count x in omega (arith, s, f, c));
        parts = (let s = parts_set views pass v w at in let p = b.parts in omega (arith, s, p));
        idle = idle_set views pass w (λ none. absurd (omega (arith, own, none))) b.idle;
      },
      refl,
    )

    -- what is held once a file is taken is of the given files
    pub takes : 0 < v.parts → Pops (Bagged given) pass v (λ x w. (w ≡ hand v.parts (x ∷ v.held)) × AreFactsGiven given (x ∷ v.held))
    takes own x items views b at = let taken = takes_to (λ x. x ∷ v.held) (λ x w a. a) (λ x w a. a) (λ x. omega arith) own x items views b at in (
      taken.0,
      taken.1,
      (taken.2, λ w a. b.worth.sound w (⊎_elim (λ i. inl i) (λ h. inr (among_back w items (held_by views) (held_at views pass v w at h))) a)),
    )

    pub drains : 0 < v.parts → Pops (Bagged given) pass v (λ x w. w ≡ hand v.parts (v.held ++ x ∷ []))
    drains own = takes_to (λ x. v.held ++ x ∷ [])
        (λ x w a. ⊎_elim (λ p. inr p) (λ q. ⊎_elim (λ i. inl i) (λ e. absurd e) q) (among_split w v.held (x ∷ []) a))
        (λ x w a. ⊎_elim (λ i. among_back w v.held (x ∷ []) (inl i)) (λ p. among_front w v.held (x ∷ []) p) a)
        (λ x. length-append v.held (x ∷ [])) own

    -- some of what is held is put back as one file
    puts_some : (n : ℕ) (x : File) (out rest : List File) → 0 < v.parts → v.held ≡ out ++ rest → 0 < length out → AreWorth out (x ∷ []) → Pushes (Bagged given) n pass v x (λ w. w ≡ hand v.parts rest)
    puts_some n x out rest own is some_held join items views room b at =
        let w : Hand = hand v.parts rest in
        let held : (f : Fact) → Among f (out ++ rest) → Among f (held_by views) = λ f a. held_at views pass v f at (subst (Among f) (sym is) a) in
        let old = items ++ held_by views in
        let new = (items ++ x ∷ []) ++ held_by (set views pass w) in (
          w,
          record {
            worth = worth_after old new b.worth
                (λ f a. ⊎_elim
                (λ p. ⊎_elim (λ q. among_front f items (held_by views) q) (λ q. among_back f items (held_by views) (held f (among_front f out rest (join.sound f q)))) (among_split f items (x ∷ []) p))
                (λ p. among_back f items (held_by views) (⊎_elim (λ q. held f (among_back f out rest q)) (λ q. q) (held_after views pass w f p)))
                (among_split f (items ++ x ∷ []) (held_by (set views pass w)) a))
                (λ f stays a. ⊎_elim (λ p. among_front f (items ++ x ∷ []) (held_by (set views pass w)) (among_front f items (x ∷ []) p))
                (λ p. ⊎_elim
                (λ q. ⊎_elim
                (λ r. among_front f (items ++ x ∷ []) (held_by (set views pass w)) (among_back f items (x ∷ []) (join.whole f
                (stays_among f given out (λ u m. b.worth.sound u (among_back u items (held_by views) (held u (among_front u out rest m)))) stays) r)))
                (λ r. among_back f (items ++ x ∷ []) (held_by (set views pass w)) (held_new views pass v w f at r))
                (among_split f out rest (subst (Among f) is q)))
                (λ q. among_back f (items ++ x ∷ []) (held_by (set views pass w)) q)
                (held_before views pass v w f at p))
                (among_split f items (held_by views) a));
            few = (let s = len_set views pass v w at in let f = b.few in omega (arith, s, f, some_held, ap length is, length-append out rest, length-append items (x ∷ [])));
            parts = (let s = parts_set views pass v w at in let p = b.parts in omega (arith, s, p));
            idle = idle_set views pass w (λ none. absurd (omega (arith, own, none))) b.idle;
          },
          refl,
        )

    pub puts : (n : ℕ) (x : File) → 0 < v.parts → 0 < length v.held → AreWorth v.held (x ∷ []) → Pushes (Bagged given) n pass v x (λ w. w ≡ hand v.parts [])
    puts n x own some_held join = puts_some n x v.held [] own (sym (append-nil v.held)) some_held join

    pub puts_back : (n : ℕ) (x : File) (rest : List File) → 0 < v.parts → v.held ≡ x ∷ rest → Pushes (Bagged given) n pass v x (λ w. w ≡ hand v.parts (held_without_last v.held))
    puts_back n x rest own is = subst (λ (r : List File). Pushes (Bagged given) n pass v x (λ w. w ≡ hand v.parts r)) (sym (ap held_without_last is)) (puts_some n x (x ∷ []) rest own is (omega arith) (worth_itself (x ∷ [])))

    -- who holds a file finds room for it
    pub finds_room : 0 < length v.held → Learns (Bagged given) pass v (λ items. length items < length given)
    finds_room some_held items views b at = let f = b.few in let s = len_some views pass v at in omega (arith, some_held, f, s)

-- who has taken two holds them
pub took_two : (v0 v1 v2 : Hand) (a b c : File) → v0 ≡ hand 1 [] → v1 ≡ hand v0.parts (a ∷ v0.held) → v2 ≡ hand v1.parts (b ∷ v1.held) → c ≡ b → (v2.held ≡ c ∷ a ∷ []) × (0 < v2.parts)
took_two v0 v1 v2 a b c e0 e1 e2 e3 = rw (e2, e1, e0, e3) (refl, omega arith)

pub sound_two : (given : List File) (v0 v1 : Hand) (a b : File) → v0 ≡ hand 1 [] → v1 ≡ hand v0.parts (a ∷ v0.held) → AreFactsGiven given (b ∷ v1.held) → AreFactsGiven given (b ∷ a ∷ [])
sound_two given v0 v1 a b e0 e1 = subst (λ (held : List File). AreFactsGiven given (b ∷ held)) (ap (λ (h : Hand). h.held) e1 ∙ ap (λ (h : Hand). a ∷ h.held) e0)

held_same : (l : List Hand) (i : ℕ) (a b : Hand) → get_elem? l i ≡ some a → b.held ≡ a.held → held_by (set l i b) ≡ held_by l
held_same [] i a b e s = absurd (some-ne-none a (sym e))
held_same (x ∷ xs) zero a b e s = ap (λ (h : List File). h ++ held_by xs) (s ∙ ap (λ (h : Hand). h.held) (sym (some-injective x a e)))
held_same (x ∷ xs) (suc i) a b e s = ap (λ (h : List File). x.held ++ h) (held_same xs i a b e s)

held_snoc : (l : List Hand) (n : ℕ) → held_by (l ++ hand n [] ∷ []) ≡ held_by l
held_snoc [] n = refl
held_snoc (x ∷ xs) n = ap (λ (h : List File). x.held ++ h) (held_snoc xs n)

parts_snoc : (l : List Hand) (n : ℕ) → parts_of (l ++ hand n [] ∷ []) ≡ parts_of l + n
parts_snoc [] n = omega arith
parts_snoc (x ∷ xs) n = let r = parts_snoc xs n in omega (arith, r)

module _ (given : List File) where
  pub begins : Bagged given [] (hand all_parts given ∷ [])
  begins = record {
    worth = subst (AreWorth given) (sym (append-nil given)) (record { sound = λ w a. a; whole = λ w stays a. a });
    few = (let l = ap (λ (h : List File). length h) (append-nil given) in omega (arith, l));
    parts = refl;
    idle = λ j u e none. absurd (only j u e none);
  }
    where
      only : (j : ℕ) (u : Hand) → get_elem? (hand all_parts given ∷ []) j ≡ some u → u.parts ≡ 0 → ⊥
      only zero u e none = let p : all_parts ≡ u.parts = ap (λ (h : Hand). h.parts) (some-injective (hand all_parts given) u e) in omega (arith, p, none)
      only (suc j) u e none = some-ne-none u (sym e)

  pub forks : (pass : ℕ) (v : Hand) → 1 < v.parts → Forks (Bagged given) pass v (hand (v.parts - 1) v.held) (hand 1 [])
  forks pass v own items views b at =
      let left : Hand = hand (v.parts - 1) v.held in
      let same = held_snoc (set views pass left) 1 ∙ held_same views pass v left at refl in
      record {
        worth = subst (λ (h : List File). AreWorth given (items ++ h)) (sym same) b.worth;
        few = (let l = ap (λ (h : List File). length h) same in let f = b.few in omega (arith, l, f));
        parts = (let s = parts_set views pass v left at in let t = parts_snoc (set views pass left) 1 in let p = b.parts in omega (arith, s, t, p, own));
        idle = λ j u e none. ⊎_elim (λ i. idle_set views pass left (λ n. absurd (omega (arith, own, n))) b.idle j u i none) (λ (i : hand 1 [] ≡ u). ap (λ (h : Hand). h.held) (sym i)) (at_snoc (set views pass left) (hand 1 []) u j e);
      }

  pub merges : (pass : ℕ) (v : Hand) (other : ℕ) (w : Hand) → w.held ≡ [] → Merges (Bagged given) pass v other w (hand (v.parts + w.parts) v.held) (hand 0 [])
  merges pass v other w none items views b at apart at_other =
      let both : Hand = hand (v.parts + w.parts) v.held in
      let spent : Hand = hand 0 [] in
      let same = held_same (set views pass both) other w spent at_other (sym none) ∙ held_same views pass v both at refl in
      record {
        worth = subst (λ (h : List File). AreWorth given (items ++ h)) (sym same) b.worth;
        few = (let l = ap (λ (h : List File). length h) same in let f = b.few in omega (arith, l, f));
        parts = (let s = parts_set views pass v both at in let t = parts_set (set views pass both) other w spent at_other in let p = b.parts in omega (arith, s, t, p));
        idle = idle_set (set views pass both) other spent (λ n. refl) (idle_set views pass both (λ n. b.idle pass v at (omega (arith, n))) b.idle);
      }

  -- who has every part knows the whole
  pub learns : (pass : ℕ) (v : Hand) → v.parts ≡ all_parts → Learns (Bagged given) pass v (λ items. AreWorth given (items ++ v.held))
  learns pass v all items views b at = worth_after given (items ++ held_by views) (items ++ v.held) b.worth
      (λ w a. ⊎_elim (λ p. among_front w items (held_by views) p) (λ q. among_back w items (held_by views) (held_at views pass v w at q)) (among_split w items v.held a))
      (λ w stays a. ⊎_elim (λ p. among_front w items v.held p) (λ q. among_back w items v.held (mine views pass at (let p = b.parts in omega (arith, p, all)) b.idle w q)) (among_split w items (held_by views) a))
    where
      none_held : (l : List Hand) → parts_of l ≡ 0 → Idle l → (w : Fact) → Among w (held_by l) → ⊥
      none_held [] none idle w a = a
      none_held (x ∷ xs) none idle w a = ⊎_elim
          (λ p. subst (Among w) (idle 0 x refl (omega (arith, none))) p)
          (λ q. none_held xs (omega (arith, none)) (λ j u e. idle (suc j) u e) w q) (among_split w x.held (held_by xs) a)

      mine : (l : List Hand) (i : ℕ) → get_elem? l i ≡ some v → parts_of l ≡ v.parts → Idle l → (w : Fact) → Among w (held_by l) → Among w v.held
      mine [] i e all idle w a = absurd a
      mine (x ∷ xs) zero e all idle w a = ⊎_elim (λ p. subst (λ (h : Hand). Among w h.held) (some-injective x v e) p)
          (λ q. let same : x.parts ≡ v.parts = ap (λ (h : Hand). h.parts) (some-injective x v e) in absurd (none_held xs (omega (arith, same, all)) (λ j u e. idle (suc j) u e) w q)) (among_split w x.held (held_by xs) a)
      mine (x ∷ xs) (suc i) e all idle w a = let own = parts_some xs i v e in ⊎_elim
          (λ p. absurd (subst (Among w) (idle 0 x refl (omega (arith, own, all))) p))
          (λ q. mine xs i e (omega (arith, own, all)) (λ j u e. idle (suc j) u e) w q) (among_split w x.held (held_by xs) a)

-- a copy of the first of what is held is put in
pub put_first : (given : List File) (n pass : ℕ) (v : Hand) (x : File) (rest : List File) → v ≡ hand all_parts (x ∷ rest) → Pushes (Bagged given) n pass v x (λ w. w ≡ hand v.parts (held_without_last v.held))
put_first given n pass v x rest is = puts_back given pass v n x rest (let p = ap (λ (h : Hand). h.parts) is in omega (arith, p)) (ap (λ (h : Hand). h.held) is)

pub room_first : (given : List File) (pass : ℕ) (v : Hand) (x : File) (rest : List File) → v ≡ hand all_parts (x ∷ rest) → Learns (Bagged given) pass v (λ items. length items < length given)
room_first given pass v x rest is = finds_room given pass v (let p = ap (λ (h : Hand). length h.held) is in omega (arith, p))
