-- At one key: of a set of points the greatest that touched the key says what a file has there.
use Rattle.std.proofs.Common.{◌≡◌, ℕ, zero, suc, ◌+◌, ◌-◌, ◌<◌, ◌≤◌, Bool, true, false, refl, sym, ap, ◌∙◌, arith, List, Option, None, Some, cond, ◌||◌, ◌&&◌}
use Rattle.std.specs.Prelude.{nat_lt, nat_le}
use Rattle.std.proofs.lemmas.Bool.Decides.{nat_tests}
use Rattle.pc_model.specs.Points.{AtPoint, later, laid_at}

-- the greatest point of these that touched the key
pub record IsGreatest (touches points : ℕ → Bool) (m : ℕ) : Type 0 where
  pub inside : points m ≡ true
  pub touched : touches m ≡ true
  pub greatest : (p : ℕ) → points p ≡ true → touches p ≡ true → p ≤ m

-- the last of these points that touched the key, if one did
abbrev pub IsLatest : (ℕ → Bool) → (ℕ → Bool) → Option ℕ → Type 0
IsLatest touches points None = (p : ℕ) → points p ≡ true → touches p ≡ false
IsLatest touches points (Some m) = IsGreatest touches points m

-- the triple of that point
abbrev pub triple_at : (ℕ → Option (List ℕ)) → Option ℕ → Option AtPoint
triple_at states None = None
triple_at states (Some m) = Some (record { point = m; content = states m })

module _ (touches : ℕ → Bool) (states : ℕ → Option (List ℕ)) where
  -- of one point
  pub latest_of_one : (points : ℕ → Bool) (n : ℕ) → points n ≡ true → ((p : ℕ) → points p ≡ true → p ≡ n) →
      (o : Option ℕ) × IsLatest touches points o × (cond (touches n) (Some (record { point = n; content = states n })) None ≡ triple_at states o)
  latest_of_one points n own alone = by_touch (touches n) refl
    where
      by_touch : (b : Bool) → touches n ≡ b → (o : Option ℕ) × IsLatest touches points o × (cond b (Some (record { point = n; content = states n })) None ≡ triple_at states o)
      by_touch true is = (Some n, record { inside = own; touched = is; greatest = λ p inside _. let e = alone p inside in omega (arith, e) }, refl)
      by_touch false is = (None, λ p inside. ap touches (alone p inside) ∙ is, refl)

  -- of two sets together: the later one
  pub latest_of_both : (xs ys : ℕ → Bool) (o q : Option ℕ) → IsLatest touches xs o → IsLatest touches ys q →
      (r : Option ℕ) × IsLatest touches (λ p. xs p || ys p) r × (later (triple_at states o) (triple_at states q) ≡ triple_at states r)
  latest_of_both xs ys None None first second = (None, λ p inside. either p (xs p) refl inside, refl)
    where
      either : (p : ℕ) (b : Bool) → xs p ≡ b → (b || ys p) ≡ true → touches p ≡ false
      either p true is inside = first p is
      either p false is inside = second p inside
  latest_of_both xs ys None (Some m) first second =
      (Some m, record { inside = grind (arith, second.inside); touched = second.touched; greatest = λ p inside is. by_first p (xs p) refl inside is }, refl)
    where
      by_first : (p : ℕ) (b : Bool) → xs p ≡ b → (b || ys p) ≡ true → touches p ≡ true → p ≤ m
      by_first p true there inside is = absurd (let none = first p there in grind arith)
      by_first p false there inside is = second.greatest p inside is
  latest_of_both xs ys (Some m) None first second =
      (Some m, record { inside = grind (arith, first.inside); touched = first.touched; greatest = λ p inside is. by_first p (xs p) refl inside is }, refl)
    where
      by_first : (p : ℕ) (b : Bool) → xs p ≡ b → (b || ys p) ≡ true → touches p ≡ true → p ≤ m
      by_first p true there inside is = first.greatest p there is
      by_first p false there inside is = absurd (let none = second p inside in grind arith)
  latest_of_both xs ys (Some m) (Some n) first second = by_order (nat_lt m n) refl
    where
      by_first : (k p : ℕ) (b : Bool) → m ≤ k → n ≤ k → xs p ≡ b → (b || ys p) ≡ true → touches p ≡ true → p ≤ k
      by_first k p true low high there inside is = let most = first.greatest p there is in omega (arith, most)
      by_first k p false low high there inside is = let most = second.greatest p inside is in omega (arith, most)

      by_order : (b : Bool) → nat_lt m n ≡ b → (r : Option ℕ) × IsLatest touches (λ p. xs p || ys p) r ×
          (Some (cond b (record { point = n; content = states n }) (record { point = m; content = states m })) ≡ triple_at states r)
      by_order true less =
          let low : m ≤ n = grind (arith, nat_tests) in
          (Some n, record { inside = grind (arith, second.inside); touched = second.touched; greatest = λ p inside is. by_first n p (xs p) low (omega arith) refl inside is }, refl)
      by_order false more =
          let high : n ≤ m = grind (arith, nat_tests) in
          (Some m, record { inside = grind (arith, first.inside); touched = first.touched; greatest = λ p inside is. by_first m p (xs p) (omega arith) high refl inside is }, refl)

  -- the last point is one
  pub latest_same : (xs ys : ℕ → Bool) (o q : Option ℕ) → ((p : ℕ) → xs p ≡ ys p) → IsLatest touches xs o → IsLatest touches ys q → o ≡ q
  latest_same xs ys None None same first second = refl
  latest_same xs ys None (Some m) same first second = let none = first m (same m ∙ second.inside) in let is = second.touched in absurd (grind arith)
  latest_same xs ys (Some m) None same first second = let none = second m (sym (same m) ∙ first.inside) in let is = first.touched in absurd (grind arith)
  latest_same xs ys (Some m) (Some n) same first second =
      ap Some (omega (arith, first.greatest n (same n ∙ second.inside) second.touched, second.greatest m (sym (same m) ∙ first.inside) first.touched))

  -- the content stays over points that didn't touch the key
  unchanged : (top m d : ℕ) → ((p : ℕ) → p < top → touches (p + 1) ≡ false → states (p + 1) ≡ states p) → m + d ≤ top → ((p : ℕ) → m < p → p ≤ m + d → touches p ≡ false) → states (m + d) ≡ states m
  unchanged top m zero steps below none = ap states (omega arith)
  unchanged top m (suc d) steps below none =
      ap states (omega arith) ∙ steps (m + d) (omega arith) (none (m + d + 1) (omega arith) (omega arith))
      ∙ unchanged top m d steps (omega arith) (λ p low high. none p low (omega arith))

  -- what the points 1 to n say of the key, laid over the base, is what the key has at n
  pub laid_is : (n : ℕ) (points : ℕ → Bool) (o : Option ℕ) → ((p : ℕ) → p < n → touches (p + 1) ≡ false → states (p + 1) ≡ states p) → ((p : ℕ) → points p ≡ (nat_lt 0 p && nat_le p n)) →
      IsLatest touches points o → laid_at (states 0) 0 (triple_at states o) ≡ states n
  laid_is n points None steps all latest = sym (ap states (omega arith) ∙ unchanged n 0 n steps (omega arith) (λ p low high. latest p (all p ∙ grind (arith, nat_tests))))
  laid_is n points (Some m) steps all latest =
      let test : (nat_lt 0 m && nat_le m n) ≡ true = sym (all m) ∙ latest.inside in
      let low : 0 < m = grind (arith, nat_tests) in
      let high : m ≤ n = grind (arith, nat_tests) in
      let is_low : nat_lt 0 m ≡ true = grind (arith, nat_tests) in
      rw is_low (sym (ap states (omega arith) ∙ unchanged n m (n - m) steps (omega arith) (λ p more less. none_above p (touches p) refl (latest.greatest p (all p ∙ grind (arith, nat_tests))) more)))
    where
      none_above : (p : ℕ) (b : Bool) → touches p ≡ b → (touches p ≡ true → p ≤ m) → m < p → touches p ≡ false
      none_above p true is most more = absurd (let less = most is in omega arith)
      none_above p false is most more = is

  -- what points say of the key, all from b + 1 to n among them and none above, laid over what the key has at b, is what
  -- it has at n
  pub laid_is_from : (b n : ℕ) (points : ℕ → Bool) (o : Option ℕ) → b ≤ n → ((p : ℕ) → p < n → touches (p + 1) ≡ false → states (p + 1) ≡ states p) → ((p : ℕ) → points p ≡ true → p ≤ n)
      → ((p : ℕ) → b < p → p ≤ n → points p ≡ true) → IsLatest touches points o → laid_at (states b) b (triple_at states o) ≡ states n
  laid_is_from b n points None le steps most all latest = sym (ap states (omega arith) ∙ unchanged n b (n - b) steps (omega arith) (λ p low high. latest p (all p low (omega arith))))
  laid_is_from b n points (Some m) le steps most all latest = by_order (nat_lt b m) refl
    where
      none_above : (p : ℕ) (t : Bool) → touches p ≡ t → (touches p ≡ true → p ≤ m) → m < p → touches p ≡ false
      none_above p true is most more = absurd (let less = most is in omega arith)
      none_above p false is most more = is

      by_order : (t : Bool) → nat_lt b m ≡ t → cond t (states m) (states b) ≡ states n
      by_order true above =
          let low : b < m = grind (arith, nat_tests) in
          let high : m ≤ n = most m latest.inside in
          sym (ap states (omega arith) ∙ unchanged n m (n - m) steps (omega arith) (λ p more less. none_above p (touches p) refl (latest.greatest p (all p (omega arith) (omega arith))) more))
      by_order false below =
          let low : m ≤ b = grind (arith, nat_tests) in
          sym (ap states (omega arith) ∙ unchanged n b (n - b) steps (omega arith) (λ p more less. none_above p (touches p) refl (latest.greatest p (all p more (omega arith))) (omega arith)))
