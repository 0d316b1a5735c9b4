-- The number of writes that each commit of a legal history has.
use Rattle.std.proofs.Common.{◌≡◌, ℕ, ◌+◌, ◌≤◌, ◌⊎◌, inl, inr, eqb, not, ◌&&◌, Bool, true, false, cond, List, [], ◌∷◌, ◌++◌, length, Option, Some, None, is_some, All, refl, sym, subst, arith}
use Rattle.std.proofs.lemmas.Bool.Decides.{nat_tests}
use Rattle.std.proofs.lemmas.List.Elements.{All-nil, All-cons, All-append}
use Rattle.pc_types.specs.Changes.{merged, change_to}
use Rattle.pc_types.specs.declared.Change.TheVariants.{Add}
use Rattle.pc_types.specs.declared.Entry.TheVariants.{Commit, Token}
use Rattle.pc_types.specs.declared.Event.{Event}
use Rattle.pc_types.specs.declared.Event.TheVariants as asked
use Rattle.pc_types.specs.declared.Phase.TheVariants.{Complete}
use Rattle.pc_types.specs.declared.Reply.{Reply}
use Rattle.pc_types.specs.declared.Refusal.TheVariants as why
use Rattle.pc_types.specs.declared.Write.{Write}
use Rattle.pc_types.specs.declared.limits.TheConstants.{MOST_WRITES}
use Rattle.pc_model.specs.Database.{same_bytes, with_write, write_of, written}
use Rattle.pc_model.specs.FewWrites.{HasFewWrites}
use Rattle.pc_model.specs.History.{History, Effect, effect, effect_of, entries_by, log_of, writes_by, writes_of}
use Rattle.pc_model.specs.History.Effect.{Begins, Writes, Commits, Moves, Shelves}
use Rattle.pc_model.specs.LegalEffects.{IsIdle}
use Rattle.pc_model.specs.Replies.{Setting, Answers, IsLegal, IsLegalHistory, add_causes, certain, first_refusal, is_full, too_many, transaction_causes, write_causes}
use Rattle.pc_model.proofs.EffectCases.{begin_case, get_case, write_case, add_case, commit_case, abort_case, move_case, take_case, done_case, join_case}
use Rattle.pc_model.proofs.EffectLaws.{no_first, no_firsts, no_others}
use Rattle.pc_model.proofs.LegalEffectLaws.{causes_idle, settled}

-- one write more, if its key is new
one_more : (ws : List Write) (w : Write) → length (with_write ws w) ≡ cond (is_some (written ws w.key)) (length ws) (length ws + 1)
one_more [] w = refl
one_more (v ∷ ws) w = by (same_bytes v.key w.key) (is_some (written ws w.key)) refl (one_more ws w)
  where
    by : (b c : Bool) → is_some (written ws w.key) ≡ c → length (with_write ws w) ≡ cond c (length ws) (length ws + 1)
        → length (cond b (write_of v.key (merged v.change w.change) ∷ ws) (v ∷ with_write ws w)) ≡ cond (is_some (cond b (Some v.change) (written ws w.key))) (length (v ∷ ws)) (length (v ∷ ws) + 1)
    by true c is rest = refl
    by false true is rest = rw is (omega (arith, rest))
    by false false is rest = rw is (omega (arith, rest))

module _ (st : Setting) (h : History) (few : (t : ℕ) → length (writes_of t h) ≤ MOST_WRITES) where
  -- each session has few writes after this effect
  abbrev Short : Effect → Type 0
  Short e = (t : ℕ) → length (writes_by t e (writes_of t h)) ≤ MOST_WRITES

  begins : (s : ℕ) → Short (Begins s)
  begins s t = by (eqb s t) (few t)
    where
      by : (b : Bool) → length (writes_of t h) ≤ MOST_WRITES → length (cond b [] (writes_of t h)) ≤ MOST_WRITES
      by true less = omega arith
      by false less = less

  -- a write of a key for which there is room
  written_in : (s : ℕ) (w : Write) → too_many s w.key h ≡ false → (t : ℕ) → length (cond (eqb s t) (with_write (writes_of t h) w) (writes_of t h)) ≤ MOST_WRITES
  written_in s w room t = by (eqb s t) refl (few t)
    where
      fits : (ws : List Write) (c : Bool) → is_some (written ws w.key) ≡ c → length ws ≤ MOST_WRITES → (c ≡ false → eqb (length ws) MOST_WRITES ≡ false) → length (with_write ws w) ≡ cond c (length ws) (length ws + 1) → length (with_write ws w) ≤ MOST_WRITES
      fits ws true is less new more = omega (arith, less, more)
      fits ws false is less new more = let apart = new refl in let below : length ws + 1 ≤ MOST_WRITES = grind (arith, nat_tests, apart, less) in omega (arith, below, more)

      no_room : (a c : Bool) → (a && not c) ≡ false → c ≡ false → a ≡ false
      no_room true true is absent = absurd (let bad : true ≡ false = absent in cc)
      no_room true false is absent = is
      no_room false c is absent = refl

      by : (b : Bool) → eqb s t ≡ b → length (writes_of t h) ≤ MOST_WRITES → length (cond b (with_write (writes_of t h) w) (writes_of t h)) ≤ MOST_WRITES
      by true is less =
          let same : s ≡ t = grind (arith, nat_tests, is) in
          subst (λ n. length (with_write (writes_of n h) w) ≤ MOST_WRITES) same
          (fits (writes_of s h) (is_some (written (writes_of s h) w.key)) refl (few s) (no_room (eqb (length (writes_of s h)) MOST_WRITES) (is_some (written (writes_of s h) w.key)) room) (one_more (writes_of s h) w))
      by false is less = less

  idle_short : (event : Event) (reply : Reply) → IsIdle reply → Short (effect_of event reply)
  idle_short event reply idle = subst Short (sym (idle event)) few

  room_for : (s : ℕ) (key : List ℕ) → first_refusal (write_causes st s key h) ≡ None → too_many s key h ≡ false
  room_for s key none =
      let full = (is_full st key h, why.Full) ∷ [] in
      no_first (too_many s key h, why.TooManyWrites) full (no_others (transaction_causes st s h) ((too_many s key h, why.TooManyWrites) ∷ full) none)

  put : (s : ℕ) (key : List ℕ) (value : Option (List ℕ)) → too_many s key h ≡ false → Short (Writes s key value)
  put s key value room = written_in s (write_of key (change_to value)) room

  pub short : (event : Event) (reply : Reply) → IsLegal st h event reply → Short (effect_of event reply)
  short (asked.Begin s) reply legal = begin_case Short few s reply (λ counts. begins s)
  short (asked.Get s key) reply legal = get_case Short few s key reply (λ answer counts. few) few few
  short (asked.Put s key value) reply legal = by (settled (certain st h (asked.Put s key value)) (Answers st h (asked.Put s key value) reply) reply (causes_idle (write_causes st s key h)) legal)
    where
      by : ((certain st h (asked.Put s key value) ≡ None) × Answers st h (asked.Put s key value) reply) ⊎ IsIdle reply → Short (effect_of (asked.Put s key value) reply)
      by (inl answered) = write_case Short few s key (Some value) reply (λ counts. put s key (Some value) (room_for s key answered.0)) few few
      by (inr idle) = idle_short (asked.Put s key value) reply idle
  short (asked.Del s key) reply legal = by (settled (certain st h (asked.Del s key)) (Answers st h (asked.Del s key) reply) reply (causes_idle (write_causes st s key h)) legal)
    where
      by : ((certain st h (asked.Del s key) ≡ None) × Answers st h (asked.Del s key) reply) ⊎ IsIdle reply → Short (effect_of (asked.Del s key) reply)
      by (inl answered) = write_case Short few s key None reply (λ counts. put s key None (room_for s key answered.0)) few few
      by (inr idle) = idle_short (asked.Del s key) reply idle
  short (asked.Add s key delta) reply legal = by (settled (certain st h (asked.Add s key delta)) (Answers st h (asked.Add s key delta) reply) reply (causes_idle (write_causes st s key h ++ add_causes st s key delta h)) legal)
    where
      by : ((certain st h (asked.Add s key delta) ≡ None) × Answers st h (asked.Add s key delta) reply) ⊎ IsIdle reply → Short (effect_of (asked.Add s key delta) reply)
      by (inl answered) = add_case Short few s key delta reply (λ sum counts. written_in s (write_of key (Add delta)) (room_for s key (no_firsts (write_causes st s key h) (add_causes st s key delta h) answered.0))) few few
      by (inr idle) = idle_short (asked.Add s key delta) reply idle
  short (asked.Commit s) reply legal = commit_case Short few s reply (λ counts. few)
  short (asked.Abort s) reply legal = abort_case Short few s reply (λ counts. few)
  short asked.StartPoint reply legal = move_case Short few reply (λ to point. few)
  short asked.Seal reply legal = move_case Short few reply (λ to point. few)
  short asked.OpenCapture reply legal = move_case Short few reply (λ to point. few)
  short asked.Take reply legal = take_case Short few reply (λ key content. few)
  short asked.Done reply legal = done_case Short few reply (λ point. few)
  short asked.Rest reply legal = move_case Short few reply (λ to point. few)
  short (asked.Join a b) reply legal = join_case Short few a b reply few

-- a session of a legal history has at most 256 writes
writes_within : (st : Setting) (h : History) → IsLegalHistory st h → (s : ℕ) → length (writes_of s h) ≤ MOST_WRITES
writes_within st [] legal s = omega arith
writes_within st (step ∷ h) legal s = short st h (writes_within st h legal.1) step.event step.reply legal.0 s

few_by : (e : Effect) (h : History) → ((s : ℕ) → length (writes_of s h) ≤ MOST_WRITES) → All HasFewWrites (entries_by e h)
few_by (Commits s) h few = All-cons HasFewWrites (Commit s (writes_of s h)) [] (few s) (All-nil HasFewWrites)
few_by (Moves to point) h few = All-cons HasFewWrites (Token to point) [] tt (All-nil HasFewWrites)
few_by (Shelves point) h few = All-cons HasFewWrites (Token Complete point) [] tt (All-nil HasFewWrites)
few_by other h few = All-nil HasFewWrites

-- so has each commit of its log
pub commits_within : (st : Setting) (h : History) → IsLegalHistory st h → All HasFewWrites (log_of h)
commits_within st [] legal = All-nil HasFewWrites
commits_within st (step ∷ h) legal = All-append HasFewWrites (log_of h) (entries_by (effect step) h) (commits_within st h legal.1) (few_by (effect step) h (writes_within st h legal.1))
