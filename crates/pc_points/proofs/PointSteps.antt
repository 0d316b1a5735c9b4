-- The steps to a point's state are the rules.
use Rattle.std.proofs.Common.{◌≡◌, ◌≢◌, ◌⊎◌, inl, inr, ℕ, Bool, true, false, cond, List, [], Option, Some, Result, Ok, Err, Bor, refl, sym, ap, ◌∙◌}
use Rattle.std.specs.Prelude.{◌==◌, map}
use Rattle.pc_types.specs.declared.refusal.Refusal.{Refusal}
use Rattle.pc_types.specs.declared.refusal.Refusal.TheVariants.{OutOfMemory}
use Rattle.pc_io.specs.Fields.{◌>>=◌}
use Rattle.pc_model.specs.Database.{Database}
use Rattle.pc_model.specs.Files.{BaseFile}
use Rattle.pc_bases.specs.Reading.{base_at}
use Rattle.pc_log.specs.Reading.{LogRead}
use Rattle.pc_recover.specs.Recovery.{Recovery, IsOfRun, entries_after, recovery, recovery_on, decoded_files}
use Rattle.pc_restore.specs.Recoveries.{IsRulesRefusal}
use Rattle.pc_restore.proofs.RuleRefusals.{IsOfRules, of_rules, rules_base, rules_log_of, rules_recovery, rules_then}
use Rattle.pc_points.specs.Points.{log_state, parts_to, point_state, state_before, state_from}

module _ (n : ℕ) (base : List ℕ) (parts : List (List ℕ)) (log : List ℕ) where
  by_steps : point_state n base parts log ≡ (base_at base >>= λ b. recovery base (parts_to n parts) [] >>= λ found. state_from b.run n found log)
  unfolding point_state
  by_steps = refl

  base_refused : (e : Refusal) → base_at base ≡ Err e → recovery base (parts_to n parts) [] ≡ Err e
  unfolding recovery
  base_refused e is = ap (λ r. r >>= λ b. recovery_on b (decoded_files b.run (parts_to n parts)) []) is

  -- what recovery refuses is refused
  pub refused : (e : Refusal) → recovery base (parts_to n parts) [] ≡ Err e → point_state n base parts log ≡ Err e
  refused e refuses = by_steps ∙ by (base_at base) refl
    where
      by : (r : Result BaseFile Refusal) → base_at base ≡ r → (r >>= λ b. recovery base (parts_to n parts) [] >>= λ found. state_from b.run n found log) ≡ Err e
      by (Ok b) is = ap (λ r. r >>= λ found. state_from b.run n found log) refuses
      by (Err d) is = cc (base_refused d is, refuses)

  -- from what was recovered the state is made
  pub goes_on : (run : ℕ) (found : Recovery) → IsOfRun base run → recovery base (parts_to n parts) [] ≡ Ok found → point_state n base parts log ≡ state_from run n found log
  goes_on run found (b, read, is) recovered =
      by_steps
      ∙ ap (λ r. r >>= λ b. recovery base (parts_to n parts) [] >>= λ found. state_from b.run n found log) read
      ∙ ap (λ r. r >>= λ found. state_from b.run n found log) recovered
      ∙ ap (λ k. state_from k n found log) (sym is)

  module _ (run : ℕ) (found : Recovery) (of_run : IsOfRun base run) (recovered : recovery base (parts_to n parts) [] ≡ Ok found) where
    -- what was recovered is the state
    pub state_there : (found.point == n) ≡ true → point_state n base parts log ≡ Ok (Some found.pairs)
    state_there same = goes_on run found of_run recovered ∙ ap (λ t. cond t (Ok (Some found.pairs)) (log_state run found.point n found.pairs log)) same

    -- the log makes the state of it
    pub state_to_come : (point : ℕ) (db : Database) (state : Result (Option Database) Refusal) → point ≡ found.point → db ≡ found.pairs → (found.point == n) ≡ false → log_state run point n db log ≡ state → point_state n base parts log ≡ state
    state_to_come point db state point_is db_is other is =
        goes_on run found of_run recovered
        ∙ ap (λ t. cond t (Ok (Some found.pairs)) (log_state run found.point n found.pairs log)) other
        ∙ ap (λ p. log_state run p n found.pairs log) (sym point_is)
        ∙ ap (λ d. log_state run point n d log) (sym db_is)
        ∙ is

-- the parts that were kept are those up to the point
pub same_parts : (base : List ℕ) (n : ℕ) (parts : List (List ℕ)) (lent kept : List (Bor (List ℕ))) (r : Result Recovery Refusal) → lent ≡ kept → map (λ part. part.now) kept ≡ parts_to n parts
    → recovery base (map (λ part. part.now) lent) [] ≡ r → recovery base (parts_to n parts) [] ≡ r
same_parts base n parts lent kept r same is recovered = ap (λ ps. recovery base ps []) (sym (ap (λ (ps : List (Bor (List ℕ))). map (λ part. part.now) ps) same ∙ is)) ∙ recovered

-- ---- what it is refused with

rules_if : {X : Type 0} (test : Bool) (a b : Result X Refusal) → IsOfRules a → IsOfRules b → IsOfRules (cond test a b)
rules_if true a b is or = is
rules_if false a b is or = or

rules_state : (n : ℕ) (base : List ℕ) (parts : List (List ℕ)) (log : List ℕ) → IsOfRules (point_state n base parts log)
unfolding point_state
rules_state n base parts log = rules_then _ _ (rules_base base) (λ first. rules_then _ _ (rules_recovery base (parts_to n parts) []) (λ found.
    rules_if {X = Option Database} (found.point == n) (Ok (Some found.pairs)) (log_state first.run found.point n found.pairs log) tt
    (rules_then {Y = Option Database} _ (λ (read : LogRead). Ok (state_before n found.pairs (entries_after found.point read.entries))) (rules_log_of first.run log) (λ read. tt))))

-- the rules of recovery refuse with nothing else
pub state_refused : (n : ℕ) (base : List ℕ) (parts : List (List ℕ)) (log : List ℕ) (why : Refusal) → point_state n base parts log ≡ Err why → IsRulesRefusal why
state_refused n base parts log why is = of_rules (point_state n base parts log) why (rules_state n base parts log) is

-- a refusal is a failed allocation, or it isn't
pub memory_or : (why : Refusal) → (why ≡ OutOfMemory) ⊎ (why ≢ OutOfMemory)
memory_or OutOfMemory = inl refl
memory_or other = inr (λ e. cc)
