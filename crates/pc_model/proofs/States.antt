-- The states of points that follow each other.
use Rattle.std.proofs.Common.{◌≡◌, ℕ, zero, suc, ◌+◌, ◌-◌, List, [], ◌∷◌, refl, sym, ap, ◌∙◌, Bool, true, false, eqb, arith, inl, inr}
use Rattle.std.specs.Prelude.{if◌then◌else◌}
use Rattle.std.proofs.lemmas.Bool.Decides.{nat_tests}
use Rattle.pc_types.specs.declared.Entry.{Entry}
use Rattle.pc_types.specs.declared.Entry.TheVariants.{Commit, Token}
use Rattle.pc_model.specs.Maps.{get}
use Rattle.pc_model.specs.Database.{Database, applied_all}
use Rattle.pc_model.specs.Log.{after, front, log_after_point, has_token, is_token_of, state_at}
use Rattle.pc_model.specs.Standing.{PrecedesNext}
use Rattle.pc_model.specs.Points.{is_among, cycle, touched, part_of, laid, triples_at_point}
use Rattle.pc_model.proofs.JoinLaws.{one_piece, after_other, is_among-with_written}

-- if m's token is before n's, replay up to n's is replay up to m's and on from there
pub after_behind : (base : Database) (log : List Entry) (m n : ℕ) → has_token m (front n log) ≡ true → after (after base (front m log)) (front n (log_after_point m log)) ≡ after base (front n log)
after_behind base [] m n there = cc
after_behind base (Commit s ws ∷ log) m n there = after_behind (applied_all base ws) log m n there
after_behind base (Token phase j ∷ log) m n there = by_tokens (is_token_of n phase j) (is_token_of m phase j) refl there (after_behind base log m n)
  where
    by_tokens : (is_n is_m : Bool) → is_token_of m phase j ≡ is_m → has_token m (if is_n then [] else Token phase j ∷ front n log) ≡ true →
        (has_token m (front n log) ≡ true → after (after base (front m log)) (front n (log_after_point m log)) ≡ after base (front n log)) →
        after (after base (if is_m then [] else Token phase j ∷ front m log)) (front n (if is_m then log else log_after_point m log)) ≡ after base (if is_n then [] else Token phase j ∷ front n log)
    by_tokens true is_m e there later = cc
    by_tokens false true e there later = refl
    by_tokens false false e there later = later (rw e at there)

positive : (n : ℕ) → eqb (n + 1) 0 ≡ false
positive n = grind (arith, nat_tests)

-- the state of a point that isn't 0
pub state_next : (base : Database) (log : List Entry) (point : ℕ) → state_at base log (point + 1) ≡ after base (front (point + 1) log)
state_next base log point = rw (positive point) refl

above : (n : ℕ) → eqb (suc n) 0 ≡ false
above n = grind (arith, nat_tests)

state_above : (base : Database) (log : List Entry) (n : ℕ) → state_at base log (suc n) ≡ after base (front (suc n) log)
state_above base log n = rw (above n) refl

second : (n : ℕ) → eqb (suc n + 1) 1 ≡ false
second n = grind (arith, nat_tests)

before : (n : ℕ) → suc n + 1 - 1 ≡ suc n
before n = omega arith

-- the cycle of a point above 1 begins at the token before
pub cycle_next : (log : List Entry) (n : ℕ) → cycle (suc n + 1) log ≡ front (suc n + 1) (log_after_point (suc n) log)
cycle_next log n = rw (second n, before n) refl

-- the state of the next point is the replay of its cycle on the state of this point
pub cycle_makes : (base : Database) (log : List Entry) (point : ℕ) → PrecedesNext point log → after (state_at base log point) (cycle (point + 1) log) ≡ state_at base log (point + 1)
cycle_makes base log zero there = refl
cycle_makes base log (suc n) (inl e) = cc
cycle_makes base log (suc n) (inr there) =
    ap (λ db. after db (cycle (suc n + 1) log)) (state_above base log n)
    ∙ ap (after (after base (front (suc n) log))) (cycle_next log n)
    ∙ after_behind base log (suc n) (suc n + 1) there ∙ sym (state_next base log (suc n))

-- a key that no commit of the next point's cycle wrote has the same content at both points
pub untouched_stays : (base : Database) (log : List Entry) (point : ℕ) (key : List ℕ) → PrecedesNext point log → is_among (touched (point + 1) log) key ≡ false → get (state_at base log (point + 1)) key ≡ get (state_at base log point) key
untouched_stays base log point key there none =
    ap (λ db. get db key) (sym (cycle_makes base log point there))
    ∙ after_other (state_at base log point) (cycle (point + 1) log) key (sym (is_among-with_written [] (cycle (point + 1) log) key) ∙ none)

-- the state of this point with the next point's part applied to it is the state of the next point
pub part_makes : (base : Database) (log : List Entry) (point : ℕ) → PrecedesNext point log → laid (state_at base log point) point (part_of base log (point + 1)) ≡ state_at base log (point + 1)
part_makes base log point there =
    ap (λ db. laid (state_at base log point) point (triples_at_point (point + 1) db (touched (point + 1) log))) (sym (cycle_makes base log point there))
    ∙ one_piece (state_at base log point) (cycle (point + 1) log) point (point + 1) (omega arith)
    ∙ cycle_makes base log point there
