-- Whole cycles, in order, and the points whose parts were put on the shelf.
use Rattle.std.proofs.Common.{◌≡◌, ℕ, zero, suc, ◌+◌, ◌-◌, ◌<◌, ◌≤◌, eqb, Bool, true, false, cond, List, [], ◌∷◌, ◌++◌, length, length-append, refl, ap, sym, ◌∙◌, subst, arith, append_assoc}
use Rattle.std.specs.Prelude.{Some, None, slice_get}
use Rattle.std.proofs.lemmas.Bool.Decides.{nat_tests}
use Rattle.std.proofs.lemmas.List.{append-nil}
use Rattle.pc_types.specs.declared.Phase.{Phase}
use Rattle.pc_types.specs.declared.Phase.TheVariants.{Rest, Prepare, Resolve, Capture, Complete}
use Rattle.pc_types.specs.declared.Refusal.{Refusal}
use Rattle.pc_types.specs.declared.Refusal.TheVariants as why
use Rattle.pc_model.specs.History.{History, Effect, effect, phase_of, point_of}
use Rattle.pc_model.specs.History.Effect.{Moves, Shelves}
use Rattle.pc_model.specs.Files.{File, shelf, shelved_by, file_at}
use Rattle.pc_model.specs.LegalEffects.{Fits}
use Rattle.pc_model.specs.Replies.{Setting, IsLegalHistory}
use Rattle.pc_model.proofs.LegalEffectLaws.{legal_fits}
use Rattle.pc_board.specs.Passes.{Pass}
use Rattle.pc_latch.specs.Cycles.{entered_by, phases_entered, done_among, points_done}
use Rattle.pc_latch.specs.Tickets.{IsNoTicket}
use Rattle.pc_workers.specs.Checkpointing.{whole_cycle, whole_cycles, HasReached, HasStood, HasTurned, HasCycled, HasPublished, HasBrokenOff}
use Rattle.pc_workers.proofs.BoardCalls.{published_on, done_append}
use Rattle.pc_workers.proofs.Cycling.{reached_on, reached_stood, reached_turned, stood_still}

module _ (st : Setting) where
  -- at rest no phase of a cycle was entered
  pub at_rest : (a : History) → phase_of a ≡ Rest → HasReached st [] Rest (point_of a) a a
  at_rest a rest = subst (λ (p : Phase). HasReached st [] p (point_of a) a a) rest (stood_still st a)

  -- then prepare, resolve and capture
  pub to_prepare : (a b : History) → phase_of a ≡ Rest → HasTurned st a b → HasReached st ((Prepare, point_of a + 1) ∷ []) Prepare (point_of a + 1) a b
  to_prepare a b rest x = reached_turned st [] Rest (point_of a) a a b (at_rest a rest) x

  pub to_resolve : (a b c : History) → phase_of a ≡ Rest → HasTurned st a b → HasTurned st b c → HasReached st ((Prepare, point_of a + 1) ∷ (Resolve, point_of a + 1) ∷ []) Resolve (point_of a + 1) a c
  to_resolve a b c rest x y = let m = point_of a in reached_turned st ((Prepare, m + 1) ∷ []) Prepare (m + 1) a b c (to_prepare a b rest x) y

  pub to_capture : (a b c d : History) → phase_of a ≡ Rest → HasTurned st a b → HasTurned st b c → HasTurned st c d
      → HasReached st ((Prepare, point_of a + 1) ∷ (Resolve, point_of a + 1) ∷ (Capture, point_of a + 1) ∷ []) Capture (point_of a + 1) a d
  to_capture a b c d rest x y z = let m = point_of a in reached_turned st ((Prepare, m + 1) ∷ (Resolve, m + 1) ∷ []) Resolve (m + 1) a c d (to_resolve a b c rest x y) z

  pub to_complete : (a d e f : History) → HasReached st ((Prepare, point_of a + 1) ∷ (Resolve, point_of a + 1) ∷ (Capture, point_of a + 1) ∷ []) Capture (point_of a + 1) a d → HasStood st d e → HasTurned st e f
      → HasReached st ((Prepare, point_of a + 1) ∷ (Resolve, point_of a + 1) ∷ (Capture, point_of a + 1) ∷ (Complete, point_of a + 1) ∷ []) Complete (point_of a + 1) a f
  to_complete a d e f r s t =
      let m = point_of a in
      let xs = (Prepare, m + 1) ∷ (Resolve, m + 1) ∷ (Capture, m + 1) ∷ [] in
      reached_turned st xs Capture (m + 1) a e f (reached_stood st xs Capture (m + 1) a d e r s) t

  pub to_rest : (a f g : History) → HasReached st ((Prepare, point_of a + 1) ∷ (Resolve, point_of a + 1) ∷ (Capture, point_of a + 1) ∷ (Complete, point_of a + 1) ∷ []) Complete (point_of a + 1) a f → HasTurned st f g
      → HasReached st (whole_cycle (point_of a + 1)) Rest (point_of a + 1) a g
  to_rest a f g r t = let m = point_of a in reached_turned st ((Prepare, m + 1) ∷ (Resolve, m + 1) ∷ (Capture, m + 1) ∷ (Complete, m + 1) ∷ []) Complete (m + 1) a f g r t

  -- no cycle yet
  pub cycled_none : (a : History) → phase_of a ≡ Rest → HasCycled st 0 a a
  cycled_none a rest = subst (λ n. HasReached st [] Rest n a a) (omega arith) (at_rest a rest)

  -- one more
  pub cycled_on : (k : ℕ) (a b c : History) → HasCycled st k a b → HasReached st (whole_cycle (point_of b + 1)) Rest (point_of b + 1) b c → HasCycled st (k + 1) a c
  cycled_on k a b c r s =
      let m = point_of a in
      let is : point_of b + 1 ≡ m + suc k = omega (arith, r.at_point) in
      let next : k + 1 ≡ suc k = omega arith in
      subst (λ j. HasReached st (whole_cycles m j) Rest (m + j) a c) (sym next)
      (reached_on st (whole_cycles m k) (whole_cycle (m + suc k)) Rest Rest (m + k) (m + suc k) a b c r (subst (λ n. HasReached st (whole_cycle n) Rest n b c) is s))

  pub cycle_published : (k : ℕ) (a b : History) (first middle last : Pass) → HasCycled st k a b → HasPublished (whole_cycles (point_of a) k) first middle → HasPublished (whole_cycle (point_of b + 1)) middle last
      → HasPublished (whole_cycles (point_of a) (k + 1)) first last
  cycle_published k a b first middle last r x y =
      let m = point_of a in
      let is : point_of b + 1 ≡ m + suc k = omega (arith, r.at_point) in
      let next : k + 1 ≡ suc k = omega arith in
      subst (λ j. HasPublished (whole_cycles m j) first last) (sym next) (published_on (whole_cycles m k) (whole_cycle (m + suc k)) first middle last x (subst (λ n. HasPublished (whole_cycle n) middle last) is y))

  more_cycles : (m j d n : ℕ) → n ≡ d + j → (more : List (Phase × ℕ)) × (whole_cycles m j ++ more ≡ whole_cycles m n)
  more_cycles m j zero n is = ([], append-nil (whole_cycles m j) ∙ ap (whole_cycles m) (let e : j ≡ n = omega (arith, is) in e))
  more_cycles m j (suc d) n is =
      let k : ℕ = d + j in
      let h = more_cycles m j d k refl in
      let e : suc k ≡ n = omega (arith, is) in
      (h.0 ++ whole_cycle (m + suc k), sym (append_assoc (whole_cycles m j) h.0 (whole_cycle (m + suc k))) ∙ (ap (λ l. l ++ whole_cycle (m + suc k)) h.1 ∙ ap (whole_cycles m) e))

  -- it is held up in one of the cycles that are due
  pub breaks_off_in : (k points : ℕ) (a b c : History) (first middle last : Pass) (given : Refusal) → k < points → HasCycled st k a b → HasPublished (whole_cycles (point_of a) k) first middle
      → HasBrokenOff st (whole_cycle (point_of b + 1)) b c middle last given → HasBrokenOff st (whole_cycles (point_of a) points) a c first last given
  breaks_off_in k points a b c first middle last given lt r published o =
      let m = point_of a in
      let is : point_of b + 1 ≡ m + suc k = omega (arith, r.at_point) in
      let xs = whole_cycles m k in
      let rest = more_cycles m (suc k) (points - suc k) points (omega (arith, lt)) in
      record {
        phases = xs ++ o.phases;
        phase = o.phase;
        point = o.point;
        first = (
          o.first.0 ++ rest.0,
          append_assoc xs o.phases (o.first.0 ++ rest.0)
              ∙ (ap (λ l. xs ++ l) (sym (append_assoc o.phases o.first.0 rest.0) ∙ ap (λ l. l ++ rest.0) (o.first.1 ∙ ap whole_cycle is))
              ∙ (sym (append_assoc xs (whole_cycle (m + suc k)) rest.0) ∙ rest.1)),
        );
        reached = reached_on st xs o.phases Rest o.phase (m + k) o.point a b c r o.reached;
        published = published_on xs o.phases first middle last published o.published;
        refusal = o.refusal;
      }

-- n cycles have n points
pub points_of_cycles : (m n : ℕ) → length (done_among (whole_cycles m n)) ≡ n
points_of_cycles m zero = refl
points_of_cycles m (suc n) =
    let before = points_of_cycles m n in
    ap length (done_append (whole_cycles m n) (whole_cycle (m + suc n))) ∙ (length-append (done_among (whole_cycles m n)) (done_among (whole_cycle (m + suc n))) ∙ omega (arith, before))

-- the parts that were put on the shelf since
pub done_since : (st : Setting) (phases : List (Phase × ℕ)) (p : Phase) (m : ℕ) (before after : History) → HasReached st phases p m before after → points_done after ≡ points_done before ++ done_among phases
done_since st phases p m before after r = ap done_among r.entered ∙ done_append (phases_entered before) phases

-- the shelf has a file for each point whose part was put there
more_files : (st : Setting) (h : History) (files : List File) (e : Effect) → Fits st h e → length (done_among (entered_by e)) ≤ length (shelved_by st.run e h files)
more_files st h files (Moves Rest n) f = omega arith
more_files st h files (Moves Prepare n) f = omega arith
more_files st h files (Moves Resolve n) f = omega arith
more_files st h files (Moves Capture n) f = omega arith
more_files st h files (Moves Complete n) f = absurd f
more_files st h files (Shelves n) f = omega arith
more_files st h files other f = omega arith

files_of_points : (st : Setting) (h : History) → IsLegalHistory st h → length (points_done h) ≤ length (shelf st.run h)
files_of_points st [] legal = omega arith
files_of_points st (c ∷ h) legal =
    let before = files_of_points st h legal.1 in
    let more = more_files st h (shelf st.run h) (effect c) (legal_fits st h c.event c.reply legal.0) in
    let new = ap length (done_append (phases_entered h) (entered_by (effect c))) ∙ length-append (points_done h) (done_among (entered_by (effect c))) in
    omega (arith, before, more, new, length-append (shelf st.run h) (shelved_by st.run (effect c) h (shelf st.run h)))

is_there : (files : List File) (k : ℕ) → k < length files → slice_get files k ≡ None → ⊥
is_there [] k lt none = absurd (omega (arith, lt))
is_there (f ∷ fs) zero lt none = no_file none
  where
    no_file : Some f ≡ None → ⊥
    no_file e = cc
is_there (f ∷ fs) (suc k) lt none = is_there fs k (omega (arith, lt)) none

has_file : (files : List File) (n : ℕ) → 1 ≤ n → n ≤ length files → file_at files n ≡ None → ⊥
has_file files n low high none = by_zero (eqb n 0) refl none
  where
    by_zero : (b : Bool) → eqb n 0 ≡ b → cond b None (slice_get files (n - 1)) ≡ None → ⊥
    by_zero true e at = let zero_is : n ≡ 0 = grind (arith, nat_tests) in absurd (omega (arith, low, zero_is))
    by_zero false e at = is_there files (n - 1) (omega (arith, low, high)) at

memory_alone : (st : Setting) (seen : History) (points point : ℕ) (given : Refusal) → IsLegalHistory st seen → points ≤ length (points_done seen) → 1 ≤ point → point ≤ points → IsNoTicket st seen point given → given ≡ why.OutOfMemory
memory_alone st seen points point why.NoFile legal done low high none =
    let files = files_of_points st seen legal in
    absurd (has_file (shelf st.run seen) point low (omega (arith, files, done, high)) none)
memory_alone st seen points point why.OutOfMemory legal done low high none = refl
memory_alone st seen points point other legal done low high none = absurd none

-- if the part of a point was put on the shelf only a failed allocation prevents a ticket of it
pub only_memory : (st : Setting) (h seen : History) (points point : ℕ) (given : Refusal) → h ≡ seen → IsLegalHistory st seen → points ≤ length (points_done seen) → 1 ≤ point → point ≤ points → IsNoTicket st h point given → given ≡ why.OutOfMemory
only_memory st h seen points point given same legal done low high none =
    memory_alone st seen points point given legal done low high (subst (λ (l : History). IsNoTicket st l point given) same none)
