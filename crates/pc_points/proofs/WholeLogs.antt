-- A run's whole log, and its base without any part.
use Rattle.std.proofs.Common.{◌≡◌, ℕ, zero, suc, ◌≤◌, ◌<◌, true, false, cond, eqb, ltb, List, [], ◌∷◌, ◌++◌, length, Some, None, Result, Ok, Err, refl, sym, ap, subst, ◌∙◌, arith, length-append}
use Rattle.std.specs.Prelude.{◌^◌}
use Rattle.std.specs.List.{list_all, flat_map}
use Rattle.std.proofs.Math.Dec.{eqb-suc-zero}
use Rattle.std.proofs.lemmas.Bool.Decides.{nat_tests}
use Rattle.pc_types.specs.declared.limits.TheConstants.{MOST_POINTS}
use Rattle.pc_types.specs.declared.refusal.Refusal.{Refusal}
use Rattle.pc_types.specs.declared.refusal.Refusal.TheVariants.{OtherRun}
use Rattle.pc_types.specs.declared.Entry.{Entry}
use Rattle.pc_io.specs.Fields.{◌>>=◌, where_true}
use Rattle.pc_model.specs.Database.{Database}
use Rattle.pc_model.specs.Files.{BaseFile, numbers_to}
use Rattle.pc_model.specs.Log.{after, front, has_token}
use Rattle.pc_bases.specs.Reading.{base_at}
use Rattle.pc_log.specs.Laws.{IsLog, LogTextsAreRead}
use Rattle.pc_log.specs.Reading.{LogRead, log_at}
use Rattle.pc_log.specs.Texts.{header_text_in, entry_text_in, log_text_in, IsLogText}
use Rattle.pc_log.proofs.EntriesAgain.{header_length}
use Rattle.pc_recover.specs.Recovery.{Recovery, recovery, recovery_on, recovered_point, last_reached, is_covered, entries_after, log_of_run, read_after_crash}
use Rattle.pc_points.specs.Laws.{LogsGiveStates}
use Rattle.pc_points.specs.Points.{state_before}
use Rattle.pc_points.proofs.PointSteps.{state_to_come}

-- ---- no parts

none_covered : (points : List ℕ) (point : ℕ) → list_all (is_covered []) (points ++ point ∷ []) ≡ false
none_covered [] point = refl
none_covered (p ∷ points) point = refl

none_reached : (m : ℕ) → last_reached 0 [] m ≡ 0
none_reached zero = refl
none_reached (suc m) = rw (none_covered (numbers_to m) (suc m)) (none_reached m)

-- what is recovered of a base alone, where this is the point
abbrev base_alone : BaseFile → ℕ → Result Recovery Refusal
base_alone base point = Ok (record { pairs = after base.pairs (entries_after point []); point = point; entries = 0; skipped = []; fault = None })

on_none : (base : BaseFile) → recovery_on base [] [] ≡ base_alone base (recovered_point base.point [])
on_none base = refl

alone : (run : ℕ) (start : Database) (base : List ℕ) → base_at base ≡ Ok (record { run = run; point = 0; pairs = start }) → recovery base [] [] ≡ base_alone (record { run = run; point = 0; pairs = start }) 0
unfolding recovery
alone run start base read =
    ap (λ (r : Result BaseFile Refusal). r >>= λ b. recovery_on b [] []) read
    ∙ on_none (record { run = run; point = 0; pairs = start })
    ∙ ap (base_alone (record { run = run; point = 0; pairs = start })) (none_reached MOST_POINTS)

-- ---- the log

same_run : (run : ℕ) → eqb run run ≡ true
same_run run = grind (arith, nat_tests)

whole_log : LogTextsAreRead → (run : ℕ) (log : List Entry) (text : List ℕ) → run < 2 ^ 64 → IsLog log → IsLogText text run log → log_of_run run text ≡ Ok (record { run = run; entries = log; rest = 0; fault = None })
whole_log read run log text fits is_log (format, has, is) =
    let size : 20 ≤ length (log_text_in format run log) = omega (arith, length-append (header_text_in format run) (flat_map (entry_text_in format) log), header_length format run) in
    let long : ltb (length text) 20 ≡ false = subst (λ (t : List ℕ). ltb (length t) 20 ≡ false) (sym is) (grind (arith, nat_tests, size)) in
    ap (λ t. cond t (Ok (record { run = run; entries = []; rest = length text; fault = None })) (log_at text >>= λ (found : LogRead). where_true (eqb found.run run) OtherRun (read_after_crash text found))) long
    ∙ ap (λ (r : Result LogRead Refusal). r >>= λ (found : LogRead). where_true (eqb found.run run) OtherRun (read_after_crash text found)) (read text run log fits is_log.lawful is_log.in_order (format, has, is))
    ∙ ap (λ t. cond t (Ok (record { run = run; entries = log; rest = 0; fault = None })) (Err OtherRun)) (same_run run)

-- ---- both

pub logs_give_states : LogTextsAreRead → LogsGiveStates
logs_give_states read run start log zero base text fits is_log based is_text some = absurd (omega arith)
logs_give_states read run start log (suc n) base text fits is_log based is_text some =
    let other : eqb 0 (suc n) ≡ false = grind (arith, nat_tests) in
    let nonzero : eqb (suc n) 0 ≡ false = eqb-suc-zero n in
    state_to_come (suc n) base [] text run (record { pairs = start; point = 0; entries = 0; skipped = []; fault = None }) (record { run = run; point = 0; pairs = start }, based, refl) (alone run start base based) 0 start _ refl refl other
    (ap (λ (r : Result LogRead Refusal). r >>= λ (found : LogRead). Ok (state_before (suc n) start found.entries)) (whole_log read run log text fits is_log is_text)
    ∙ ap (λ b. Ok (cond (has_token (suc n) log) (Some (cond b start (after start (front (suc n) log)))) None)) (sym nonzero))
