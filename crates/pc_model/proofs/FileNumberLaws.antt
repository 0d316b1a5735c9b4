-- The numbers of files in a history without joins.
use Rattle.std.proofs.Common.{◌≡◌, ◌⊎◌, ℕ, zero, suc, ◌+◌, ◌-◌, ◌≤◌, eqb, Bool, true, false, cond, List, [], ◌∷◌, ◌++◌, length, length-append, refl, ap, sym, ◌∙◌, subst, inl, inr, arith}
use Rattle.std.specs.Prelude.{⊤, Some, None, slice_get}
use Rattle.std.proofs.lemmas.List.{append-nil}
use Rattle.std.proofs.lemmas.Option.{slice_get_within}
use Rattle.std.proofs.lemmas.Bool.Decides.{nat_tests}
use Rattle.pc_types.specs.declared.Phase.{Phase}
use Rattle.pc_types.specs.declared.Phase.TheVariants.{Rest, Prepare, Resolve, Capture, Complete}
use Rattle.pc_types.specs.declared.Event.{Event}
use Rattle.pc_types.specs.declared.Event.TheVariants as asked
use Rattle.pc_types.specs.declared.Reply.{Reply}
use Rattle.pc_model.specs.Sets as set
use Rattle.pc_model.specs.History.{History, Effect, effect, effect_of, phase_by, phase_of, point_by, point_of}
use Rattle.pc_model.specs.History.Effect.{Moves, Shelves, Joins}
use Rattle.pc_model.specs.Points.{taken}
use Rattle.pc_model.specs.Files.{File, shelf, shelved_by, file_at, triples_taken}
use Rattle.pc_model.specs.Standing.{HasLegalEffects}
use Rattle.pc_model.specs.Replies.{Setting}
use Rattle.pc_model.specs.LegalEffects.{Fits}
use Rattle.pc_model.proofs.EffectCases.{begin_case, get_case, write_case, commit_case, abort_case, move_case, take_case, done_case, add_case}
use Rattle.pc_model.proofs.LegalEffectLaws.{effect_fits}
use Rattle.pc_model.specs.SessionLaws.{IsNoJoin, HasNoJoins}

-- how many points have their part on the shelf
abbrev shelved : Phase → ℕ → ℕ
shelved Rest n = n
shelved Prepare n = n - 1
shelved Resolve n = n - 1
shelved Capture n = n - 1
shelved Complete n = n

-- outside rest a cycle has a point
abbrev Has : Phase → ℕ → Type 0
Has Rest n = ⊤
Has other n = 1 ≤ n

-- the shelf has a file of each point shelved
record Numbered (phase : Phase) (point : ℕ) (files : List File) : Type 0 where
  count : length files ≡ shelved phase point
  has : Has phase point
  each : (k : ℕ) (f : File) → slice_get files k ≡ Some f → f.points ≡ set.insert set.empty (k + 1)

abbrev IsNoJoined : Effect → Type 0
IsNoJoined (Joins a b) = ⊥
IsNoJoined other = ⊤

no_joined : (e : Event) (r : Reply) → IsNoJoin e → IsNoJoined (effect_of e r)
no_joined (asked.Begin s) r n = begin_case IsNoJoined tt s r (λ counts. tt)
no_joined (asked.Get s key) r n = get_case IsNoJoined tt s key r (λ answer counts. tt) tt tt
no_joined (asked.Put s key value) r n = write_case IsNoJoined tt s key (Some value) r (λ counts. tt) tt tt
no_joined (asked.Del s key) r n = write_case IsNoJoined tt s key None r (λ counts. tt) tt tt
no_joined (asked.Add s key delta) r n = add_case IsNoJoined tt s key delta r (λ sum counts. tt) tt tt
no_joined (asked.Commit s) r n = commit_case IsNoJoined tt s r (λ counts. tt)
no_joined (asked.Abort s) r n = abort_case IsNoJoined tt s r (λ counts. tt)
no_joined asked.StartPoint r n = move_case IsNoJoined tt r (λ phase point. tt)
no_joined asked.Seal r n = move_case IsNoJoined tt r (λ phase point. tt)
no_joined asked.OpenCapture r n = move_case IsNoJoined tt r (λ phase point. tt)
no_joined asked.Take r n = take_case IsNoJoined tt r (λ key content. tt)
no_joined asked.Done r n = done_case IsNoJoined tt r (λ point. tt)
no_joined asked.Rest r n = move_case IsNoJoined tt r (λ phase point. tt)
no_joined (asked.Join a b) r n = absurd n

pushed : {A : Type 0} (xs : List A) (x y : A) (k : ℕ) → slice_get (xs ++ x ∷ []) k ≡ Some y → (slice_get xs k ≡ Some y) ⊎ ((k ≡ length xs) × (x ≡ y))
pushed [] x y zero e = inr (refl, cc (e))
pushed [] x y (suc k) e = absurd (cc (e))
pushed (z ∷ xs) x y zero e = inl e
pushed (z ∷ xs) x y (suc k) e = elim (pushed xs x y k e) [ inl t ↦ inl t | inr t ↦ inr (ap suc t.0, t.1) ]

module _ (run : ℕ) (h : History) (files : List File) where
  same : (phase : Phase) (point : ℕ) → Numbered phase point files → Numbered phase point (files ++ [])
  same phase point x = subst (Numbered phase point) (sym (append-nil files)) x

  moved : (from : Phase) (point : ℕ) (to : Phase) (n : ℕ) → shelved to n ≡ shelved from point → Has to n → Numbered from point files → Numbered to n (files ++ [])
  moved from point to n is has x = same to n (record { count = x.count ∙ sym is; has = has; each = x.each })

  shelving : (point : ℕ) → Numbered Capture point files → Numbered Complete point (files ++ record { run = run; points = set.insert set.empty point; triples = triples_taken point (taken h) } ∷ [])
  shelving point x =
      let f : File = record { run = run; points = set.insert set.empty point; triples = triples_taken point (taken h) } in record {
        count = (let c = x.count in let p = x.has in omega (arith, length-append files (f ∷ []), c, p));
        has = x.has;
        each = λ k g is. elim (pushed files f g k is) [
          | inl t ↦ x.each k g t
          | inr t ↦ (let e : point ≡ k + 1 = (let c = x.count in let p = x.has in omega (arith, c, p, t.0)) in sym (ap (λ (q : File). q.points) t.1) ∙ ap (λ (m : ℕ). set.insert set.empty m) e)
        ];
      }

module _ (st : Setting) (h : History) (x : Numbered (phase_of h) (point_of h) (shelf st.run h)) where
  abbrev Then : Effect → Type 0
  Then e = Numbered (phase_by e (phase_of h)) (point_by e (point_of h)) (shelf st.run h ++ shelved_by st.run e h (shelf st.run h))

  from : (phase : Phase) → phase_of h ≡ phase → Numbered phase (point_of h) (shelf st.run h)
  from phase is = subst (λ (p : Phase). Numbered p (point_of h) (shelf st.run h)) is x

  by_move : (to : Phase) (n : ℕ) → Fits st h (Moves to n) → Then (Moves to n)
  by_move Rest n f = let y = from Complete f.0 in moved st.run h (shelf st.run h) Complete (point_of h) Rest n f.1 tt y
  by_move Prepare n f = let y = from Rest f.0 in moved st.run h (shelf st.run h) Rest (point_of h) Prepare n (omega (arith, f.1)) (omega (arith, f.1)) y
  by_move Resolve n f = let y = from Prepare f.0 in moved st.run h (shelf st.run h) Prepare (point_of h) Resolve n (ap (λ (m : ℕ). m - 1) f.1) (subst (λ (m : ℕ). 1 ≤ m) (sym f.1) y.has) y
  by_move Capture n f = let y = from Resolve f.0 in moved st.run h (shelf st.run h) Resolve (point_of h) Capture n (ap (λ (m : ℕ). m - 1) f.1) (subst (λ (m : ℕ). 1 ≤ m) (sym f.1) y.has) y
  by_move Complete n f = absurd f

  by_shelves : (n : ℕ) → Fits st h (Shelves n) → Then (Shelves n)
  by_shelves n f = subst (λ (m : ℕ). Then (Shelves m)) (sym f.1) (shelving st.run h (shelf st.run h) (point_of h) (from Capture f.0))

  then : (e : Effect) → Fits st h e → IsNoJoined e → Then e
  then (Moves to n) f none = by_move to n f
  then (Shelves n) f none = by_shelves n f
  then (Joins a b) f none = absurd none
  then other f none = same st.run h (shelf st.run h) (phase_of h) (point_of h) x

numbered : (st : Setting) (h : History) → HasLegalEffects st h → HasNoJoins h → Numbered (phase_of h) (point_of h) (shelf st.run h)
numbered st [] legal none = record { count = refl; has = tt; each = λ k f is. absurd (let lt = slice_get_within [] k f is in omega arith) }
numbered st (c ∷ h) legal none = then st h (numbered st h legal.1 none.1) (effect c) (effect_fits st h c.event c.reply legal.0) (no_joined c.event c.reply none.0)

pub files_numbered : (st : Setting) (h : History) (f : ℕ) (file : File) → HasLegalEffects st h → HasNoJoins h → file_at (shelf st.run h) f ≡ Some file → file.points ≡ set.insert set.empty f
files_numbered st h f file legal none is = by_zero (eqb f 0) refl is
  where
    by_zero : (b : Bool) → eqb f 0 ≡ b → cond b None (slice_get (shelf st.run h) (f - 1)) ≡ Some file → file.points ≡ set.insert set.empty f
    by_zero true e at = absurd (cc (at))
    by_zero false e at =
        let p : (f - 1) + 1 ≡ f = grind (arith, nat_tests) in
        (numbered st h legal none).each (f - 1) file at ∙ ap (λ (m : ℕ). set.insert set.empty m) p
