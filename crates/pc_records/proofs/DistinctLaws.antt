-- Writes of which no two have one key.
use Rattle.std.proofs.Common.{◌≡◌, ℕ, List, [], ◌∷◌, is_some, cond, true, false, Bool, eqb, ◌||◌, arith}
use Rattle.pc_types.specs.declared.Write.{Write}
use Rattle.pc_model.specs.Database.{written}
use Rattle.pc_model.specs.Points.{is_among, with_key, with_keys}
use Rattle.pc_model.specs.History.{History, Effect, effect, writes_of, writes_by}
use Rattle.pc_model.specs.History.Effect.{Begins, Reads, Writes, Adds, Waits, Dies, Commits, Aborts, Moves, Takes, Shelves, Joins, Nothing}
use Rattle.pc_model.proofs.DistinctWriteLaws.{distinct_with}
use Rattle.pc_model.proofs.OccupiedKeyLaws.{among_with_key}
use Rattle.pc_records.proofs.WrittenKeys.{written_first}
use Rattle.pc_model.specs.DistinctWrites.{AreDistinct}

either : (b : Bool) (vs ws : List Write) → AreDistinct vs → AreDistinct ws → AreDistinct (cond b vs ws)
either true vs ws d e = d
either false vs ws d e = e

distinct_by : (s : ℕ) (e : Effect) (ws : List Write) → AreDistinct ws → AreDistinct (writes_by s e ws)
distinct_by s (Begins t) ws d = elim (eqb t s) as (λ b. AreDistinct (cond b [] ws)) [ true ↦ tt | false ↦ d ]
distinct_by s (Writes t k v) ws d = either (eqb t s) _ ws (distinct_with ws _ d) d
distinct_by s (Adds t k x n) ws d = either (eqb t s) _ ws (distinct_with ws _ d) d
distinct_by s (Reads t k a) ws d = d
distinct_by s (Waits t k x) ws d = d
distinct_by s (Dies t k x) ws d = d
distinct_by s (Commits t) ws d = d
distinct_by s (Aborts t) ws d = d
distinct_by s (Moves p n) ws d = d
distinct_by s (Takes k c) ws d = d
distinct_by s (Shelves n) ws d = d
distinct_by s (Joins a b) ws d = d
distinct_by s Nothing ws d = d

-- a session's writes are distinct
pub distinct_writes : (s : ℕ) (h : History) → AreDistinct (writes_of s h)
distinct_writes s [] = tt
distinct_writes s (step ∷ h) = distinct_by s (effect step) (writes_of s h) (distinct_writes s h)

-- which keys a list has once those of the writes are added
pub among_with_keys : (keys : List (List ℕ)) (ws : List Write) (q : List ℕ) → is_among (with_keys keys ws) q ≡ (is_among keys q || is_some (written ws q))
among_with_keys keys [] q = grind arith
among_with_keys keys (w ∷ ws) q = grind (arith, among_with_keys (with_key keys w.key) ws q, among_with_key keys w.key q, written_first w ws q)
