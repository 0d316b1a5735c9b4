-- The number of keys that a log has written, and how many a file of its points has.
use Rattle.std.proofs.Common.{◌≡◌, ℕ, ◌+◌, ◌-◌, ◌*◌, ◌≤◌, ◌||◌, eqb, Bool, true, false, cond, List, [], ◌∷◌, ◌++◌, length, length-append, Option, Some, None, is_some, All, refl, sym, ap, ◌∙◌, arith}
use Rattle.std.proofs.lemmas.List.Elements.{All-head, All-tail}
use Rattle.pc_types.specs.declared.Entry.{Entry}
use Rattle.pc_types.specs.declared.Entry.TheVariants.{Commit, Token}
use Rattle.pc_types.specs.declared.Write.{Write}
use Rattle.pc_types.specs.declared.limits.TheConstants.{MOST_WRITES}
use Rattle.pc_model.specs.Database.{Database}
use Rattle.pc_model.specs.FewWrites.{HasFewWrites}
use Rattle.pc_model.specs.Log.{log_after_point, front, has_token, is_token_of, state_at}
use Rattle.pc_model.specs.Maps.{get, len}
use Rattle.pc_model.specs.Points.{AtPoint, content, cycle, is_among, later, part_of, touched, with_key, with_keys, with_written}
use Rattle.pc_model.proofs.JoinLaws.{get-joined, get-triples_of, has_written, is_among-with_written}
use Rattle.pc_model.proofs.MapLaws.{get-empty}
use Rattle.pc_model.specs.Database.{key_order}
use Rattle.pc_outcomes.proofs.KeyCounts.{map_within}

one_key_more : (keys : List (List ℕ)) (key : List ℕ) → length (with_key keys key) ≤ length keys + 1
one_key_more keys key = by (is_among keys key)
  where
    by : (b : Bool) → length (cond b keys (keys ++ key ∷ [])) ≤ length keys + 1
    by true = omega arith
    by false = let both = length-append keys (key ∷ []) in omega (arith, both)

keys_more : (keys : List (List ℕ)) (ws : List Write) → length (with_keys keys ws) ≤ length keys + length ws
keys_more keys [] = omega arith
keys_more keys (w ∷ ws) = let one = one_key_more keys w.key in let rest = keys_more (with_key keys w.key) ws in omega (arith, one, rest)

-- as many keys as its entries may have written
written_more : (keys : List (List ℕ)) (log : List Entry) → All HasFewWrites log → length (with_written keys log) ≤ length keys + MOST_WRITES * length log
written_more keys [] few = omega arith
written_more keys (Commit s ws ∷ log) few =
    let own : length ws ≤ MOST_WRITES = All-head HasFewWrites (Commit s ws) log few in
    let one = keys_more keys ws in
    let rest = written_more (with_keys keys ws) log (All-tail HasFewWrites (Commit s ws) log few) in
    omega (arith, own, one, rest)
written_more keys (Token phase point ∷ log) few = let rest = written_more keys log (All-tail HasFewWrites (Token phase point) log few) in omega (arith, rest)

-- and fewer if one of them is a token
pub token_writes_none : (n : ℕ) (keys : List (List ℕ)) (log : List Entry) → All HasFewWrites log → has_token n log ≡ true → length (with_written keys log) + MOST_WRITES ≤ length keys + MOST_WRITES * length log
token_writes_none n keys [] few there = absurd (let bad : false ≡ true = there in cc)
token_writes_none n keys (Commit s ws ∷ log) few there =
    let own : length ws ≤ MOST_WRITES = All-head HasFewWrites (Commit s ws) log few in
    let one = keys_more keys ws in
    let rest = token_writes_none n (with_keys keys ws) log (All-tail HasFewWrites (Commit s ws) log few) there in
    omega (arith, own, one, rest)
token_writes_none n keys (Token phase point ∷ log) few there = let rest = written_more keys log (All-tail HasFewWrites (Token phase point) log few) in omega (arith, rest)

pub or_left : (a b : Bool) → a ≡ true → (a || b) ≡ true
or_left true b is = refl
or_left false b is = absurd (let bad : false ≡ true = is in cc)

pub or_right : (a b : Bool) → b ≡ true → (a || b) ≡ true
or_right true b is = refl
or_right false b is = is

pub split : {X : Type 0} (a b : Bool) → (a || b) ≡ true → (a ≡ true → X) → (b ≡ true → X) → X
split true b is first second = first refl
split false b is first second = second is

-- what a piece of the log wrote the log did
in_front : (n : ℕ) (log : List Entry) (q : List ℕ) → has_written (front n log) q ≡ true → has_written log q ≡ true
in_front n [] q is = is
in_front n (Commit s ws ∷ log) q is = split _ _ is (λ here. or_left _ _ here) (λ later. or_right _ _ (in_front n log q later))
in_front n (Token phase m ∷ log) q is = by (is_token_of n phase m) is (in_front n log q)
  where
    by : (b : Bool) → has_written (cond b [] (Token phase m ∷ front n log)) q ≡ true → (has_written (front n log) q ≡ true → has_written log q ≡ true) → has_written log q ≡ true
    by true none rest = absurd (let bad : false ≡ true = none in cc)
    by false there rest = rest there

in_behind : (n : ℕ) (log : List Entry) (q : List ℕ) → has_written (log_after_point n log) q ≡ true → has_written log q ≡ true
in_behind n [] q is = is
in_behind n (Commit s ws ∷ log) q is = or_right _ _ (in_behind n log q is)
in_behind n (Token phase m ∷ log) q is = by (is_token_of n phase m) is (in_behind n log q)
  where
    by : (b : Bool) → has_written (cond b log (log_after_point n log)) q ≡ true → (has_written (log_after_point n log) q ≡ true → has_written log q ≡ true) → has_written log q ≡ true
    by true there rest = there
    by false there rest = rest there

in_cycle : (n : ℕ) (log : List Entry) (q : List ℕ) → has_written (cycle n log) q ≡ true → has_written log q ≡ true
in_cycle n log q = by (eqb n 1)
  where
    by : (b : Bool) → has_written (cond b (front 1 log) (front n (log_after_point (n - 1) log))) q ≡ true → has_written log q ≡ true
    by true is = in_front 1 log q is
    by false is = in_behind (n - 1) log q (in_front n (log_after_point (n - 1) log) q is)

module _ (base : Database) (log : List Entry) where
  part_written : (n : ℕ) (q : List ℕ) → is_some (get (part_of base log n) q) ≡ true → has_written log q ≡ true
  part_written n q there = in_cycle n log q (sym (is_among-with_written [] (cycle n log) q) ∙ by (is_among (touched n log) q) (sym (ap is_some (get-triples_of n (state_at base log n) (touched n log) q)) ∙ there))
    where
      by : (b : Bool) → is_some {T = AtPoint} (cond b (Some (record { point = n; content = get (state_at base log n) q })) None) ≡ true → b ≡ true
      by true is = refl
      by false is = is

  -- a key that points have is one that the log wrote
  content_written : (points : List ℕ) (q : List ℕ) → is_some (get (content base log points) q) ≡ true → has_written log q ≡ true
  content_written [] q there = absurd (let bad : false ≡ true = sym (ap is_some (get-empty key_order q)) ∙ there in cc)
  content_written (n ∷ points) q there = by (get (part_of base log n) q) (get (content base log points) q) refl refl (sym (ap is_some (get-joined (part_of base log n) (content base log points) q)) ∙ there) (content_written points q)
    where
      by : (x y : Option AtPoint) → get (part_of base log n) q ≡ x → get (content base log points) q ≡ y → is_some (later x y) ≡ true → (is_some (get (content base log points) q) ≡ true → has_written log q ≡ true) → has_written log q ≡ true
      by None None one rest is behind = absurd (let bad : false ≡ true = is in cc)
      by (Some x) y one rest is behind = part_written n q (ap is_some one)
      by None (Some y) one rest is behind = behind (ap is_some rest)

  -- so they have no more keys than it wrote
  pub content_within : (points : List ℕ) → len (content base log points) ≤ length (with_written [] log)
  content_within points = map_within (content base log points) (with_written [] log) (λ q there. is_among-with_written [] log q ∙ content_written points q there)
