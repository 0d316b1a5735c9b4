-- Why the store refuses a checkpointer.
use Rattle.std.proofs.Common.{◌≡◌, ◌⊎◌, inl, inr, ℕ, ◌+◌, ◌==◌, not, Bool, true, false, cond, List, [], ◌∷◌, refl, ap, sym, ◌∙◌, subst, arith}
use Rattle.std.specs.Prelude.{⊤, ◌<◌, ◌≤◌, Option, Some, None, MatchOption, length}
use Rattle.std.proofs.lemmas.Bool.Decides.{nat_tests}
use Rattle.pc_types.specs.Phases.{same_phase}
use Rattle.pc_types.specs.declared.Class.TheVariants.{Before, During, After}
use Rattle.pc_types.specs.declared.Event.TheVariants as asked
use Rattle.pc_types.specs.declared.Phase.{Phase}
use Rattle.pc_types.specs.declared.Phase.TheVariants.{Rest, Prepare, Resolve, Capture, Complete}
use Rattle.pc_types.specs.declared.Refusal.{Refusal}
use Rattle.pc_types.specs.declared.Refusal.TheVariants as why
use Rattle.pc_types.specs.declared.Reply.{Reply}
use Rattle.pc_types.specs.declared.Reply.TheVariants as told
use Rattle.pc_types.specs.declared.limits.TheConstants.{MOST_FILES, MOST_POINTS}
use Rattle.pc_model.specs.Files.{shelf}
use Rattle.pc_model.specs.History.{History, phase_of, point_of}
use Rattle.pc_model.specs.Points.{taken}
use Rattle.pc_model.specs.Replies.{Setting, IsLegal, TakesFirst, active_in_class, closed_set, first_refusal, is_empty, log_is_full, not_yet, or_else}
use Rattle.pc_latch.specs.Cycles.{next_event}
use Rattle.pc_latch.proofs.CycleLaws.{phase_known, point_known, shelf_known}
use Rattle.pc_workers.specs.Checkpointing.{IsFull, IsRefusal, Shows}

-- the refusals that are left, and when the last two of them are given
abbrev IsFullAt : Setting → History → Refusal → Type 0
IsFullAt st seen why.OutOfMemory = ⊤
IsFullAt st seen why.LogFull = ⊤
IsFullAt st seen why.ShelfFull = length (shelf st.run seen) ≡ MOST_FILES
IsFullAt st seen why.PointsFull = (phase_of seen ≡ Rest) × (point_of seen ≡ MOST_POINTS)
IsFullAt st seen other = ⊥

module _ (st : Setting) (seen : History) (given : Refusal) where
  -- the refusal is a reply that is due, or the answer, or a failed allocation
  abbrev Told : Option Reply → Type 0 → Type 0
  Told due answer = MatchOption due (answer ⊎ (told.Refused given ≡ told.Refused why.OutOfMemory)) (λ reply. told.Refused given ≡ reply)

  same : (other : Refusal) → told.Refused given ≡ told.Refused other → given ≡ other
  same other is = cc

  it_is : (other : Refusal) → IsFullAt st seen other → told.Refused given ≡ told.Refused other → IsFullAt st seen given
  it_is other full is = subst (IsFullAt st seen) (sym (same other is)) full

  memory : (answer : Type 0) → (answer → ⊥) → Told None answer → IsFullAt st seen given
  memory answer none (inl a) = absurd (none a)
  memory answer none (inr is) = it_is why.OutOfMemory tt is

  log : (c : Bool) (answer : Type 0) → (answer → ⊥) → Told (first_refusal ((c, why.LogFull) ∷ [])) answer → IsFullAt st seen given
  log true answer none is = it_is why.LogFull tt is
  log false answer none is = memory answer none is

  waits : (z : Bool) (n : ℕ) (rest : Option Reply) (answer : Type 0) → (Told rest answer → IsFullAt st seen given) → Told (or_else (cond z None (Some (told.NotYet n))) rest) answer → IsFullAt st seen given
  waits true n rest answer on is = on is
  waits false n rest answer on is = cc

  shelf_then_log : (b c : Bool) (answer : Type 0) → (b ≡ true → length (shelf st.run seen) ≡ MOST_FILES) → (answer → ⊥) → Told (first_refusal ((b, why.ShelfFull) ∷ (c, why.LogFull) ∷ [])) answer → IsFullAt st seen given
  shelf_then_log true c answer last none is = it_is why.ShelfFull (last refl) is
  shelf_then_log false c answer last none is = log c answer none is

  points_then_log : (b c : Bool) (answer : Type 0) → (b ≡ true → (phase_of seen ≡ Rest) × (point_of seen ≡ MOST_POINTS)) → (answer → ⊥) → Told (first_refusal ((b, why.PointsFull) ∷ (c, why.LogFull) ∷ [])) answer → IsFullAt st seen given
  points_then_log true c answer last none is = it_is why.PointsFull (last refl) is
  points_then_log false c answer last none is = log c answer none is

  left : (b : Bool) (answer : Type 0) → (answer → ⊥) → Told (cond b (Some told.NoneLeft) None) answer → IsFullAt st seen given
  left true answer none is = cc
  left false answer none is = memory answer none is

  -- in the right phase
  phase_is : (h : History) (phase : Phase) (rest : Option Reply) (answer : Type 0) → phase_of h ≡ phase → Told (or_else (first_refusal ((not (same_phase (phase_of h) phase), why.WrongPhase) ∷ [])) rest) answer
      → Told (or_else (first_refusal ((not (same_phase phase phase), why.WrongPhase) ∷ [])) rest) answer
  phase_is h phase rest answer is = subst (λ (p : Phase). Told (or_else (first_refusal ((not (same_phase p phase), why.WrongPhase) ∷ [])) rest) answer) is

  takes_none : (keys : List (List ℕ)) → TakesFirst keys (told.Refused given) → ⊥
  takes_none [] takes = takes
  takes_none (key ∷ keys) (content, is) = cc

  module _ (h : History) where
    -- ---- each event in its phase

    at_rest : phase_of h ≡ Rest → phase_of h ≡ phase_of seen → point_of h ≡ point_of seen → IsLegal st h asked.StartPoint (told.Refused given) → IsFullAt st seen given
    at_rest phase own point legal =
        let answer : Type 0 = told.Refused given ≡ told.Phase Prepare (point_of h + 1) in
        points_then_log (point_of h == MOST_POINTS) (log_is_full h) answer (λ last. let all : point_of h ≡ MOST_POINTS = grind (arith, nat_tests) in (sym own ∙ phase, sym point ∙ all)) (λ is. cc)
        (phase_is h Rest (first_refusal ((point_of h == MOST_POINTS, why.PointsFull) ∷ (log_is_full h, why.LogFull) ∷ [])) answer phase legal)

    at_prepare : phase_of h ≡ Prepare → IsLegal st h asked.Seal (told.Refused given) → IsFullAt st seen given
    at_prepare phase legal =
        let answer : Type 0 = told.Refused given ≡ told.Phase Resolve (point_of h) in
        let n = active_in_class st Before h in
        waits (n == 0) n (first_refusal ((log_is_full h, why.LogFull) ∷ [])) answer (log (log_is_full h) answer (λ is. cc))
        (phase_is h Prepare (or_else (not_yet n) (first_refusal ((log_is_full h, why.LogFull) ∷ []))) answer phase legal)

    at_resolve : phase_of h ≡ Resolve → IsLegal st h asked.OpenCapture (told.Refused given) → IsFullAt st seen given
    at_resolve phase legal =
        let answer : Type 0 = told.Refused given ≡ told.Phase Capture (point_of h) in
        let n = active_in_class st During h in
        waits (n == 0) n (first_refusal ((log_is_full h, why.LogFull) ∷ [])) answer (log (log_is_full h) answer (λ is. cc))
        (phase_is h Resolve (or_else (not_yet n) (first_refusal ((log_is_full h, why.LogFull) ∷ []))) answer phase legal)

    at_complete : phase_of h ≡ Complete → IsLegal st h asked.Rest (told.Refused given) → IsFullAt st seen given
    at_complete phase legal =
        let answer : Type 0 = told.Refused given ≡ told.Phase Rest (point_of h) in
        let n = active_in_class st After h in
        waits (n == 0) n (first_refusal ((log_is_full h, why.LogFull) ∷ [])) answer (log (log_is_full h) answer (λ is. cc))
        (phase_is h Complete (or_else (not_yet n) (first_refusal ((log_is_full h, why.LogFull) ∷ []))) answer phase legal)

    at_capture : phase_of h ≡ Capture → shelf st.run h ≡ shelf st.run seen → IsLegal st h asked.Done (told.Refused given) → IsFullAt st seen given
    at_capture phase files legal =
        let answer : Type 0 = told.Refused given ≡ told.PartDone (point_of h) (length (shelf st.run h) + 1) (length (taken h)) in
        let n = length (closed_set h) in
        let full : Bool = length (shelf st.run h) == MOST_FILES in
        let rest : Option Reply = first_refusal ((full, why.ShelfFull) ∷ (log_is_full h, why.LogFull) ∷ []) in
        waits (n == 0) n rest answer (shelf_then_log full (log_is_full h) answer (λ last. let all : length (shelf st.run h) ≡ MOST_FILES = grind (arith, nat_tests) in sym (ap length files) ∙ all) (λ is. cc)) (phase_is h Capture (or_else (not_yet n) rest) answer phase legal)

    of_take : phase_of h ≡ Capture → IsLegal st h asked.Take (told.Refused given) → IsFullAt st seen given
    of_take phase legal =
        let answer : Type 0 = TakesFirst (closed_set h) (told.Refused given) in
        let none : Bool = is_empty (closed_set h) in
        left none answer (takes_none (closed_set h)) (phase_is h Capture (cond none (Some told.NoneLeft) None) answer phase legal)

    of_next : (phase : Phase) → phase_of h ≡ phase → phase_of h ≡ phase_of seen → point_of h ≡ point_of seen → shelf st.run h ≡ shelf st.run seen → IsLegal st h (next_event phase) (told.Refused given) → IsFullAt st seen given
    of_next Rest is own point files legal = at_rest is own point legal
    of_next Prepare is own point files legal = at_prepare is legal
    of_next Resolve is own point files legal = at_resolve is legal
    of_next Capture is own point files legal = at_capture is files legal
    of_next Complete is own point files legal = at_complete is legal

full_at : (st : Setting) (seen : History) (given : Refusal) → IsRefusal st seen given → IsFullAt st seen given
full_at st seen given (inl (h, legal, has, answered)) = of_next st seen given h (phase_of seen) (phase_known h seen has) (phase_known h seen has) (point_known h seen has) (shelf_known st.run h seen has) answered
full_at st seen given (inr (capture, (h, legal, has, answered))) = of_take st seen given h (phase_known h seen has ∙ capture) answered

at_last : (st : Setting) (seen shown : History) (last : ℕ) (given : Refusal) → (phase_of seen ≡ Rest → point_of seen < last) → Shows st seen given shown → IsFullAt st seen given → IsFull st seen shown last given
at_last st seen shown last why.OutOfMemory before shows full = tt
at_last st seen shown last why.LogFull before shows full = shows.log refl
at_last st seen shown last why.ShelfFull before shows full = full
at_last st seen shown last why.PointsFull before shows (rest, full) = let low : point_of seen < last = before rest in omega (arith, low, full)
at_last st seen shown last other before shows full = absurd full

-- a refusal of a checkpointer for which at rest the point before the last of those due has come at most
pub is_full : (st : Setting) (seen shown : History) (last : ℕ) (given : Refusal) → (phase_of seen ≡ Rest → point_of seen < last) → Shows st seen given shown → IsRefusal st seen given → IsFull st seen shown last given
is_full st seen shown last given before shows refused = at_last st seen shown last given before shows (full_at st seen given refused)

-- it is as full if more points are due
pub full_to : (st : Setting) (seen shown : History) (last more : ℕ) (given : Refusal) → last ≤ more → IsFull st seen shown last given → IsFull st seen shown more given
full_to st seen shown last more why.OutOfMemory low full = tt
full_to st seen shown last more why.LogFull low full = full
full_to st seen shown last more why.ShelfFull low full = full
full_to st seen shown last more why.PointsFull low full = omega (arith, low, full)
full_to st seen shown last more other low full = absurd full

-- in a cycle's other phases
pub is_full_in : (st : Setting) (seen shown : History) (phase : Phase) (last : ℕ) (given : Refusal) → (phase ≡ Rest → ⊥) → phase_of seen ≡ phase → Shows st seen given shown → IsRefusal st seen given → IsFull st seen shown last given
is_full_in st seen shown phase last given other is shows refused = is_full st seen shown last given (λ rest. absurd (other (sym is ∙ rest))) shows refused
