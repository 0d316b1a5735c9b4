-- A legal history never has more keys than there is room for.
use Rattle.std.proofs.Common.{◌≡◌, ℕ, ◌+◌, ◌≤◌, ◌⊎◌, inl, inr, ⊎_elim, eqb, not, ◌&&◌, ◌||◌, Bool, true, false, cond, List, [], ◌∷◌, ◌++◌, Some, None, is_some, refl, sym, ap, subst, ◌∙◌, arith}
use Rattle.std.specs.Prelude.{⊤, filter}
use Rattle.std.proofs.lemmas.Bool.Decides.{nat_tests}
use Rattle.std.proofs.lemmas.Cmp.{eq_by_cmp_equiv}
use Rattle.pc_types.specs.declared.Entry.{Entry}
use Rattle.pc_types.specs.declared.Entry.TheVariants.{Commit, Token}
use Rattle.pc_types.specs.declared.Event.{Event}
use Rattle.pc_types.specs.declared.Event.TheVariants as asked
use Rattle.pc_types.specs.declared.Mode.TheVariants.{Shared, Exclusive}
use Rattle.pc_types.specs.declared.Outcome.TheVariants.{Granted, Queued}
use Rattle.pc_types.specs.declared.Phase.TheVariants.{Rest, Prepare, Resolve, Capture, Complete}
use Rattle.pc_types.specs.declared.Reply.{Reply}
use Rattle.pc_types.specs.declared.Refusal.TheVariants as why
use Rattle.pc_types.specs.declared.Request.{Request}
use Rattle.pc_types.specs.declared.Step.{Step}
use Rattle.pc_types.specs.declared.Write.{Write}
use Rattle.pc_model.specs.Database.{Database, key_order, same_bytes, written}
use Rattle.pc_model.specs.History.{History, Effect, contents, effect, effect_of, entries_by, is_open, log_of, transaction_number_of, writes_of, has_died}
use Rattle.pc_model.specs.History.Effect.{Reads, Writes, Adds, Waits, Commits, Aborts, Moves, Takes, Shelves}
use Rattle.pc_model.specs.LegalEffects.{Fits, IsIdle, IsIdleIfAny, changes_closed}
use Rattle.pc_model.specs.Locks.{Queue, granted_behind, is_waiting, queue_after, queue_by, queue_of, queue_without, request_in}
use Rattle.pc_model.specs.Log.{after, front, has_token, is_token_of, state_at}
use Rattle.pc_model.specs.Maps.{get, len}
use Rattle.pc_model.specs.Points.{is_among}
use Rattle.pc_model.specs.Queues.{is_granted_as}
use Rattle.pc_model.specs.Replies.{Setting, Answers, IsLegal, IsLegalHistory, add_causes, certain, closed_set, first_refusal, is_empty, is_full, log_is_full, no_session, occupied, open_set, too_many, transaction_causes, write_causes, written_by}
use Rattle.pc_model.specs.SessionLocks.{Locked}
use Rattle.pc_model.specs.Sets as set
use Rattle.pc_model.specs.Standing.{HasLegalEffects}
use Rattle.pc_model.proofs.EffectCases.{begin_case, get_case, write_case, add_case, commit_case, abort_case, move_case, take_case, done_case, join_case}
use Rattle.pc_model.proofs.EffectLaws.{no_first, no_firsts, no_other, no_others}
use Rattle.pc_model.proofs.JoinLaws.{have_key, is_among-with_written, one_key}
use Rattle.pc_model.proofs.LegalEffectLaws.{causes_idle, effect_fits, legal_has_legal_effects, settled, turned}
use Rattle.pc_model.proofs.LogLaws.{after-append}
use Rattle.pc_model.proofs.LogPieceLaws.{front_kept, front_past}
use Rattle.pc_model.proofs.MapLaws.{get-insert}
use Rattle.pc_model.proofs.OccupiedKeyLaws.{occupied_is}
use Rattle.pc_model.proofs.RightReadLaws.{locked}
use Rattle.pc_model.proofs.SetLaws.{some_or}
use Rattle.pc_model.proofs.StandingLaws.{closed_stays, seal_closes, take_leaves}
use Rattle.pc_model.proofs.WrittenKeyLaws.{unwritten_stays}
use Rattle.pc_outcomes.proofs.WrittenCounts.{or_left, or_right, split}
use Rattle.pc_outcomes.proofs.KeyCounts.{keys_len, keys_of, has_keys, len_below, map_below, one_insert}

-- a queue that has something without a transaction's request had something
some_granted : (before rs : Queue) → not (is_empty (granted_behind before rs)) ≡ true → not (is_empty rs) ≡ true
some_granted before [] is = is
some_granted before (r ∷ rs) is = refl

some_filtered : (p : Request → Bool) (rs : Queue) → not (is_empty (filter p rs)) ≡ true → not (is_empty rs) ≡ true
some_filtered p [] is = is
some_filtered p (r ∷ rs) is = refl

some_without : (queue : Queue) (n : ℕ) → not (is_empty (queue_without queue n)) ≡ true → not (is_empty queue) ≡ true
some_without queue n is = some_filtered _ queue (some_granted [] _ is)

some_held : (queue : Queue) (n : ℕ) → is_granted_as Exclusive (request_in queue n) ≡ true → not (is_empty queue) ≡ true
some_held [] n is = absurd (let bad : false ≡ true = is in cc)
some_held (r ∷ rs) n is = refl

wrote : (ws : List Write) (q : List ℕ) → have_key ws q ≡ true → is_some (written ws q) ≡ true
wrote [] q is = is
wrote (w ∷ ws) q is = by (same_bytes w.key q) (sym ((eq_by_cmp_equiv key_order.total).symm q w.key)) (wrote ws q) is
  where
    by : (b : Bool) → b ≡ same_bytes q w.key → (have_key ws q ≡ true → is_some (written ws q) ≡ true) → (same_bytes q w.key || have_key ws q) ≡ true → is_some (cond b (Some w.change) (written ws q)) ≡ true
    by true same rest here = refl
    by false same rest here = rest (ap (λ b. b || have_key ws q) same ∙ here)

module _ (st : Setting) (h : History) where
  -- the key is occupied
  abbrev Was : List ℕ → Type 0
  Was q = set.contains (occupied st h) q ≡ true

  by_value : (q : List ℕ) → is_some (get (contents st.base h) q) ≡ true → Was q
  by_value q is = occupied_is st h q ∙ or_left _ _ is

  by_queue : (q : List ℕ) → not (is_empty (queue_of q h)) ≡ true → Was q
  by_queue q is = occupied_is st h q ∙ or_right (is_some (get (contents st.base h) q)) _ (or_left _ _ is)

  by_open : (q : List ℕ) → is_among (open_set h) q ≡ true → Was q
  by_open q is = occupied_is st h q ∙ or_right (is_some (get (contents st.base h) q)) _ (or_right (not (is_empty (queue_of q h))) _ (or_left _ _ is))

  by_closed : (q : List ℕ) → is_among (closed_set h) q ≡ true → Was q
  by_closed q is = occupied_is st h q ∙ or_right (is_some (get (contents st.base h) q)) _ (or_right (not (is_empty (queue_of q h))) _ (or_right (is_among (open_set h) q) _ is))

  -- what allows the effect: there is room for the key that is asked for, and a commit is of an open transaction
  abbrev May : Effect → Type 0
  May (Reads s key answer) = is_full st key h ≡ false
  May (Writes s key value) = is_full st key h ≡ false
  May (Adds s key delta sum) = is_full st key h ≡ false
  May (Waits s key mode) = is_full st key h ≡ false
  May (Commits s) = is_open s h ≡ true
  May other = ⊤

  -- the effect is a request of the key
  abbrev Asked : Effect → List ℕ → Type 0
  Asked (Reads s key answer) q = same_bytes key q ≡ true
  Asked (Writes s key value) q = same_bytes key q ≡ true
  Asked (Adds s key delta sum) q = same_bytes key q ≡ true
  Asked (Waits s key mode) q = same_bytes key q ≡ true
  Asked other q = ⊥

  idle_may : (event : Event) (reply : Reply) → IsIdle reply → May (effect_of event reply)
  idle_may event reply idle = subst May (sym (idle event)) tt

  settles : (event : Event) (reply : Reply) → IsIdleIfAny (certain st h event) → (certain st h event ≡ None → May (effect_of event reply)) → IsLegal st h event reply → May (effect_of event reply)
  settles event reply idle may legal = by (settled (certain st h event) (Answers st h event reply) reply idle legal)
    where
      by : ((certain st h event ≡ None) × Answers st h event reply) ⊎ IsIdle reply → May (effect_of event reply)
      by (inl answered) = may answered.0
      by (inr idle) = idle_may event reply idle

  room_for_write : (s : ℕ) (key : List ℕ) → first_refusal (write_causes st s key h) ≡ None → is_full st key h ≡ false
  room_for_write s key none =
      let full = (is_full st key h, why.Full) ∷ [] in
      no_first (is_full st key h, why.Full) [] (no_other (too_many s key h, why.TooManyWrites) full (no_others (transaction_causes st s h) ((too_many s key h, why.TooManyWrites) ∷ full) none))

  is_opened : (s : ℕ) → certain st h (asked.Commit s) ≡ None → is_open s h ≡ true
  is_opened s none =
      let full = (log_is_full h, why.LogFull) ∷ [] in
      let died = (has_died s h, why.MustAbort) ∷ full in
      let waits = (is_waiting s h, why.StillWaiting) ∷ died in
      let closed = (not (is_open s h), why.NoTransaction) ∷ waits in
      turned (is_open s h) (no_first (not (is_open s h), why.NoTransaction) waits (no_other (no_session st s, why.NoSession) closed none))

  pub may : (event : Event) (reply : Reply) → IsLegal st h event reply → May (effect_of event reply)
  may (asked.Begin s) reply legal = begin_case May tt s reply (λ counts. tt)
  may (asked.Get s key) reply legal =
      settles (asked.Get s key) reply (causes_idle (transaction_causes st s h ++ (is_full st key h, why.Full) ∷ []))
      (λ none. let room = no_first (is_full st key h, why.Full) [] (no_others (transaction_causes st s h) ((is_full st key h, why.Full) ∷ []) none) in get_case May tt s key reply (λ answer counts. room) room tt) legal
  may (asked.Put s key value) reply legal =
      settles (asked.Put s key value) reply (causes_idle (write_causes st s key h)) (λ none. let room = room_for_write s key none in write_case May tt s key (Some value) reply (λ counts. room) room tt) legal
  may (asked.Del s key) reply legal =
      settles (asked.Del s key) reply (causes_idle (write_causes st s key h)) (λ none. let room = room_for_write s key none in write_case May tt s key None reply (λ counts. room) room tt) legal
  may (asked.Add s key delta) reply legal =
      settles (asked.Add s key delta) reply (causes_idle (write_causes st s key h ++ add_causes st s key delta h))
      (λ none. let room = room_for_write s key (no_firsts (write_causes st s key h) (add_causes st s key delta h) none) in add_case May tt s key delta reply (λ sum counts. room) room tt) legal
  may (asked.Commit s) reply legal =
      settles (asked.Commit s) reply (causes_idle (transaction_causes st s h ++ (log_is_full h, why.LogFull) ∷ [])) (λ none. commit_case May tt s reply (λ counts. is_opened s none)) legal
  may (asked.Abort s) reply legal = abort_case May tt s reply (λ counts. tt)
  may asked.StartPoint reply legal = move_case May tt reply (λ to point. tt)
  may asked.Seal reply legal = move_case May tt reply (λ to point. tt)
  may asked.OpenCapture reply legal = move_case May tt reply (λ to point. tt)
  may asked.Take reply legal = take_case May tt reply (λ key content. tt)
  may asked.Done reply legal = done_case May tt reply (λ point. tt)
  may asked.Rest reply legal = move_case May tt reply (λ to point. tt)
  may (asked.Join a b) reply legal = join_case May tt a b reply tt

  module _ (locks : Locked h) (q : List ℕ) where
    held_key : (s : ℕ) → is_open s h ≡ true → is_some (written (writes_of s h) q) ≡ true → Was q
    held_key s opened there = by_queue q (some_held (queue_of q h) (transaction_number_of s h) (locks.writes s q opened there))

    -- a key that has a value after the effect
    value_after : (e : Effect) → May e → is_some (get (after (contents st.base h) (entries_by e h)) q) ≡ true → Was q
    value_after (Commits s) opened is = by (is_some (written (writes_of s h) q)) refl
      where
        by : (b : Bool) → is_some (written (writes_of s h) q) ≡ b → Was q
        by true there = held_key s opened there
        by false none = by_value q (sym (ap is_some (unwritten_stays (contents st.base h) (writes_of s h) q none)) ∙ is)
    value_after (Moves to point) opened is = by_value q is
    value_after (Shelves point) opened is = by_value q is
    value_after other opened is = by_value q is

    asked_or : {X : Type 0} (b : Bool) (now : Queue) → (b ≡ true → X) → not (is_empty (cond b now (queue_of q h))) ≡ true → (Was q) ⊎ X
    asked_or true now own is = inr (own refl)
    asked_or false now own is = inl (by_queue q is)

    -- one with a request
    queue_then : (e : Effect) → not (is_empty (queue_by q e h (queue_of q h))) ≡ true → (Was q) ⊎ Asked e q
    queue_then (Reads s key answer) is = asked_or (same_bytes key q) (queue_after (queue_of q h) (transaction_number_of s h) Shared Granted) (λ same. same) is
    queue_then (Writes s key value) is = asked_or (same_bytes key q) (queue_after (queue_of q h) (transaction_number_of s h) Exclusive Granted) (λ same. same) is
    queue_then (Adds s key delta sum) is = asked_or (same_bytes key q) (queue_after (queue_of q h) (transaction_number_of s h) Exclusive Granted) (λ same. same) is
    queue_then (Waits s key mode) is = asked_or (same_bytes key q) (queue_after (queue_of q h) (transaction_number_of s h) mode Queued) (λ same. same) is
    queue_then (Commits s) is = inl (by_queue q (some_without (queue_of q h) (transaction_number_of s h) is))
    queue_then (Aborts s) is = inl (by_queue q (some_without (queue_of q h) (transaction_number_of s h) is))
    queue_then other is = inl (by_queue q is)

    -- one of the open set
    open_then : (e : Effect) → May e → is_among (written_by e h (open_set h)) q ≡ true → Was q
    open_then (Commits s) opened is =
        split _ _ (sym (is_among-with_written (open_set h) (Commit s (writes_of s h) ∷ []) q) ∙ is) (λ old. by_open q old)
        (λ new. split _ _ new (λ here. held_key s opened (wrote (writes_of s h) q here)) (λ bad. let none : false ≡ true = bad in absurd cc))
    open_then (Moves Resolve point) opened is = absurd (let none : false ≡ true = is in cc)
    open_then (Moves Rest point) opened is = by_open q is
    open_then (Moves Prepare point) opened is = by_open q is
    open_then (Moves Capture point) opened is = by_open q is
    open_then (Moves Complete point) opened is = by_open q is
    open_then other opened is = by_open q is

    module _ (step : Step) (legal : HasLegalEffects st (step ∷ h)) where
      stays : changes_closed (effect step) ≡ false → is_among (closed_set (step ∷ h)) q ≡ true → Was q
      stays same is = by_closed q (sym (ap (λ keys. is_among keys q) (closed_stays st h step legal same)) ∙ is)

      -- one of the closed set
      closed_then : (e : Effect) → effect step ≡ e → Fits st h e → is_among (closed_set (step ∷ h)) q ≡ true → Was q
      closed_then (Takes key content) same fits is =
          let rest = sym (ap (λ keys. is_among keys q) (take_leaves st h step legal.1 key content fits.1 same fits.2)) ∙ is in
          by_closed q (ap (λ keys. is_among keys q) fits.2 ∙ or_right (same_bytes q key) _ rest)
      closed_then (Moves Resolve n) same fits is =
          let both = seal_closes st h step legal n same in
          by_open q (sym (ap (λ keys. is_among keys q) (both.0 ∙ both.1)) ∙ is)
      closed_then (Moves Rest n) same fits is = stays (ap changes_closed same) is
      closed_then (Moves Prepare n) same fits is = stays (ap changes_closed same) is
      closed_then (Moves Capture n) same fits is = stays (ap changes_closed same) is
      closed_then (Moves Complete n) same fits is = stays (ap changes_closed same) is
      closed_then other same fits is = stays (ap changes_closed same) is

      -- an occupied key was so, or it is asked for
      grows : May (effect step) → set.contains (occupied st (step ∷ h)) q ≡ true → (Was q) ⊎ Asked (effect step) q
      grows opened is =
          split _ _ (sym (occupied_is st (step ∷ h) q) ∙ is)
          (λ value. inl (value_after (effect step) opened (sym (ap (λ db. is_some (get db q)) (after-append st.base (log_of h) (entries_by (effect step) h))) ∙ value)))
          (λ others. split _ _ others (λ queue. queue_then (effect step) queue)
          (λ sets. split _ _ sets (λ opening. inl (open_then (effect step) opened opening))
          (λ closing. inl (closed_then (effect step) refl (effect_fits st h step.event step.reply legal.0) closing))))

  module _ (after_it : set.Set key_order) (few : set.len (occupied st h) ≤ st.capacity) where
    abbrev Fitting : Type 0
    Fitting = set.len after_it ≤ st.capacity

    no_key : ((q : List ℕ) → set.contains after_it q ≡ true → (Was q) ⊎ ⊥) → Fitting
    no_key sub = let less = len_below after_it (occupied st h) (λ q there. ⊎_elim (λ was. was) (λ bad. absurd bad) (sub q there)) in omega (arith, less, few)

    one_key_more : (key : List ℕ) → is_full st key h ≡ false → ((q : List ℕ) → set.contains after_it q ≡ true → (Was q) ⊎ (same_bytes key q ≡ true)) → Fitting
    one_key_more key room sub = by (set.contains (occupied st h) key) refl room
      where
        by : (b : Bool) → set.contains (occupied st h) key ≡ b → (not b && eqb (set.len (occupied st h)) st.capacity) ≡ false → Fitting
        by true there full =
            let less = len_below after_it (occupied st h) (λ q is. ⊎_elim (λ was. was) (λ same. subst Was (one_key key q same) there) (sub q is)) in
            omega (arith, less, few)
        by false new full =
            let below : set.len (occupied st h) + 1 ≤ st.capacity = grind (arith, nat_tests, full, few) in
            let has : (q : List ℕ) → set.contains (set.insert (occupied st h) key) q ≡ (same_bytes q key || set.contains (occupied st h) q) =
            λ q. ap is_some (get-insert (occupied st h) key tt q) ∙ some_or (same_bytes q key) _ in
            let less = len_below after_it (set.insert (occupied st h) key) (λ q is. has q ∙ ⊎_elim (λ was. or_right (same_bytes q key) _ was) (λ same. or_left (same_bytes q key) _ ((eq_by_cmp_equiv key_order.total).symm q key ∙ same)) (sub q is)) in
            let one = one_insert (occupied st h) key in
            omega (arith, less, one.1, below)

    fitting : (e : Effect) → May e → ((q : List ℕ) → set.contains after_it q ≡ true → (Was q) ⊎ Asked e q) → Fitting
    fitting (Reads s key answer) room sub = one_key_more key room sub
    fitting (Writes s key value) room sub = one_key_more key room sub
    fitting (Adds s key delta sum) room sub = one_key_more key room sub
    fitting (Waits s key mode) room sub = one_key_more key room sub
    fitting other room sub = no_key sub

-- no more keys are occupied than there is room for, if the base has no more
pub occupied_within : (st : Setting) (h : History) → len st.base ≤ st.capacity → IsLegalHistory st h → set.len (occupied st h) ≤ st.capacity
occupied_within st [] few legal = let less = len_below (occupied st []) (keys_of st.base) (λ q is. has_keys st.base q ∙ of_base q (sym (occupied_is st [] q) ∙ is)) in let same = keys_len st.base in omega (arith, less, same, few)
  where
    of_base : (q : List ℕ) → (is_some (get st.base q) || false) ≡ true → is_some (get st.base q) ≡ true
    of_base q is = split _ _ is (λ there. there) (λ bad. let none : false ≡ true = bad in absurd cc)
occupied_within st (step ∷ h) few legal =
    let effects = legal_has_legal_effects st (step ∷ h) legal in
    let stands = may st h step.event step.reply legal.0 in
    fitting st h (occupied st (step ∷ h)) (occupied_within st h few legal.1) (effect step) stands (λ q is. grows st h (locked st h effects.1) q step effects stands is)

-- so a legal history's contents are no more
pub contents_within : (st : Setting) (h : History) → len st.base ≤ st.capacity → IsLegalHistory st h → len (contents st.base h) ≤ st.capacity
contents_within st h few legal = let less = map_below (contents st.base h) (occupied st h) (λ q there. by_value st h q there) in let all = occupied_within st h few legal in omega (arith, less, all)

-- the entries of one effect, up to a token or all of them, leave what was there or what the effect does
one_by : (st : Setting) (h : History) (n : ℕ) (e : Effect) → len (contents st.base h) ≤ st.capacity → len (after (contents st.base h) (entries_by e h)) ≤ st.capacity → len (after (contents st.base h) (front n (entries_by e h))) ≤ st.capacity
one_by st h n (Commits s) old new = new
one_by st h n (Moves to point) old new = by (is_token_of n to point)
  where
    by : (b : Bool) → len (after (contents st.base h) (cond b [] (Token to point ∷ []))) ≤ st.capacity
    by true = old
    by false = old
one_by st h n (Shelves point) old new = by (is_token_of n Complete point)
  where
    by : (b : Bool) → len (after (contents st.base h) (cond b [] (Token Complete point ∷ []))) ≤ st.capacity
    by true = old
    by false = old
one_by st h n other old new = old

-- so is what its log makes of the base up to a token
front_within : (st : Setting) (h : History) (n : ℕ) → len st.base ≤ st.capacity → IsLegalHistory st h → len (after st.base (front n (log_of h))) ≤ st.capacity
front_within st [] n few legal = few
front_within st (step ∷ h) n few legal = by (has_token n (log_of h)) refl (front_within st h n few legal.1)
  where
    more : List Entry
    more = entries_by (effect step) h

    by : (b : Bool) → has_token n (log_of h) ≡ b → len (after st.base (front n (log_of h))) ≤ st.capacity → len (after st.base (front n (log_of h ++ more))) ≤ st.capacity
    by true there rest = subst (λ (log : List Entry). len (after st.base log) ≤ st.capacity) (sym (front_kept n (log_of h) more there)) rest
    by false none rest =
        subst (λ (log : List Entry). len (after st.base log) ≤ st.capacity) (sym (front_past n (log_of h) more none))
        (subst (λ (db : Database). len db ≤ st.capacity) (sym (after-append st.base (log_of h) (front n more)))
        (one_by st h n (effect step) (contents_within st h few legal.1)
        (subst (λ (db : Database). len db ≤ st.capacity) (after-append st.base (log_of h) more) (contents_within st (step ∷ h) few legal))))

-- and the state of a point
pub state_within : (st : Setting) (h : History) (n : ℕ) → len st.base ≤ st.capacity → IsLegalHistory st h → len (state_at st.base (log_of h) n) ≤ st.capacity
state_within st h n few legal = by (eqb n 0)
  where
    by : (b : Bool) → len (cond b st.base (after st.base (front n (log_of h)))) ≤ st.capacity
    by true = few
    by false = front_within st h n few legal
