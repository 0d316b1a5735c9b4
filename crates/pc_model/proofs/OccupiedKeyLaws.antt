-- Which keys are occupied, key by key. Only a key that was asked for has a request.
use Rattle.std.specs.Prelude.{ℤ}
use Rattle.std.proofs.Common.{◌≡◌, ℕ, List, [], ◌∷◌, ◌++◌, Option, Some, None, is_some, refl, sym, ap, ◌∙◌, cond, true, false, Bool, not, ◌||◌, ◌&&◌}
use Rattle.std.specs.List.{list_any}
use Rattle.std.specs.FinMap.Entries.{is_some-find}
use Rattle.std.proofs.lemmas.Cmp.{eq_by_cmp_equiv}
use Rattle.std.proofs.lemmas.List.Folds.{list_any-append}
use Rattle.std.proofs.lemmas.Map.Views.{any-filter_same}
use Rattle.pc_types.specs.declared.Event.{Event}
use Rattle.pc_types.specs.declared.Event.TheVariants as asked
use Rattle.pc_types.specs.declared.Reply.{Reply}
use Rattle.pc_types.specs.declared.Mode.TheVariants.{Shared, Exclusive}
use Rattle.pc_model.specs.Maps as map_of
use Rattle.pc_model.specs.Sets as set
use Rattle.pc_model.specs.Database.{Database, key_cmp, key_order, same_bytes}
use Rattle.pc_model.specs.Points.{is_among, with_key}
use Rattle.pc_model.specs.History.{History, Effect, contents, effect_of, effect_of_write, transaction_number_of, effect_of_add}
use Rattle.pc_types.specs.declared.Request.{Request}
use Rattle.pc_model.specs.Locks.{Queue, queue_of, queue_by, queue_after, queue_without, granted_behind}
use Rattle.pc_types.specs.declared.Outcome.TheVariants.{Granted, Queued}
use Rattle.pc_model.specs.Replies.{Setting, occupied, is_empty, requested, asked_for, asked_by, open_set, closed_set}
use Rattle.pc_model.proofs.EffectCases.{begin_case, get_case, write_case, commit_case, abort_case, move_case, take_case, done_case, join_case, add_case}
use Rattle.pc_model.proofs.JoinLaws.{one_key}
use Rattle.pc_model.proofs.MapLaws.{get-entries}
use Rattle.pc_model.proofs.SetLaws.{contains-from_list}

-- the key that is added, or one from before
pub among_with_key : (keys : List (List ℕ)) (k q : List ℕ) → is_among (with_key keys k) q ≡ (same_bytes k q || is_among keys q)
among_with_key keys k q = by_case (is_among keys k) refl
  where
    turn : (a b : Bool) → (a || (b || false)) ≡ (b || a)
    turn true true = refl
    turn true false = refl
    turn false true = refl
    turn false false = refl

    old_one : (b : Bool) → same_bytes k q ≡ b → is_among keys k ≡ true → is_among keys q ≡ (b || is_among keys q)
    old_one true e there = rw (← one_key k q e) there
    old_one false e there = refl

    by_case : (b : Bool) → is_among keys k ≡ b → is_among (cond b keys (keys ++ k ∷ [])) q ≡ (same_bytes k q || is_among keys q)
    by_case true e = old_one (same_bytes k q) refl e
    by_case false e = list_any-append (same_bytes q) keys (k ∷ []) ∙ turn (is_among keys q) (same_bytes q k) ∙ ap (λ b. b || is_among keys q) ((eq_by_cmp_equiv key_order.total).symm q k)

-- a queue has something
abbrev Has : Queue → Type 0
Has queue = is_empty queue ≡ false

-- granting makes no request
granted_has : (before rs : Queue) → Has (granted_behind before rs) → Has rs
granted_has before [] has = has
granted_has before (r ∷ rs) has = refl

filtered_has : (p : Request → Bool) (rs : Queue) → Has (Rattle.std.specs.Prelude.filter p rs) → Has rs
filtered_has p [] has = has
filtered_has p (r ∷ rs) has = refl

ended_has : (queue : Queue) (n : ℕ) → Has (queue_without queue n) → Has queue
ended_has queue n has = filtered_has (λ r. not (Rattle.std.specs.Prelude.◌==◌ r.transaction n)) queue (granted_has [] _ has)

or_second : (a b : Bool) → b ≡ true → (a || b) ≡ true
or_second true b e = refl
or_second false b e = e

-- a request of a key that is asked for now, or one from before
asked_now : (b c : Bool) (now before : Queue) → Has (cond b now before) → (Has before → c ≡ true) → (b || c) ≡ true
asked_now true c now before has was = refl
asked_now false c now before has was = was has

module _ (h : History) (q : List ℕ) (was : Has (queue_of q h) → is_among (asked_for h) q ≡ true) where
  -- the key was asked for, of those asked for then, if it has a request after this effect
  abbrev Then : List (List ℕ) → Effect → Type 0
  Then keys e = Has (queue_by q e h (queue_of q h)) → is_among keys q ≡ true

  -- a request of a key that was asked for just now: one after it, or none
  now : (k : List ℕ) (queue : Queue) → Has (cond (same_bytes k q) queue (queue_of q h)) → is_among (with_key (asked_for h) k) q ≡ true
  now k queue has = among_with_key (asked_for h) k q ∙ asked_now (same_bytes k q) (is_among (asked_for h) q) queue (queue_of q h) has was

  still : (k : List ℕ) → Has (queue_of q h) → is_among (with_key (asked_for h) k) q ≡ true
  still k has = among_with_key (asked_for h) k q ∙ or_second (same_bytes k q) (is_among (asked_for h) q) (was has)

  ended : (s : ℕ) → Has (queue_without (queue_of q h) (transaction_number_of s h)) → is_among (asked_for h) q ≡ true
  ended s has = was (ended_has (queue_of q h) (transaction_number_of s h) has)

  written : (s : ℕ) (k : List ℕ) (value : Option (List ℕ)) (reply : Reply) → Then (with_key (asked_for h) k) (effect_of_write s k value reply)
  written s k value reply =
      write_case (Then (with_key (asked_for h) k)) (still k) s k value reply (λ counts. now k (queue_after (queue_of q h) (transaction_number_of s h) Exclusive Granted)) (now k (queue_after (queue_of q h) (transaction_number_of s h) Exclusive Queued)) (still k)

  added_to : (s : ℕ) (k : List ℕ) (delta : ℤ) (reply : Reply) → Then (with_key (asked_for h) k) (effect_of_add s k delta reply)
  added_to s k delta reply =
      add_case (Then (with_key (asked_for h) k)) (still k) s k delta reply (λ sum counts. now k (queue_after (queue_of q h) (transaction_number_of s h) Exclusive Granted)) (now k (queue_after (queue_of q h) (transaction_number_of s h) Exclusive Queued)) (still k)

  -- what is asked for and answered
  asked_by_event : (event : Event) (reply : Reply) → Then (asked_by event (asked_for h)) (effect_of event reply)
  asked_by_event (asked.Begin s) reply = begin_case (Then (asked_for h)) was s reply (λ counts. was)
  asked_by_event (asked.Get s k) reply =
      get_case (Then (with_key (asked_for h) k)) (still k) s k reply (λ answer counts. now k (queue_after (queue_of q h) (transaction_number_of s h) Shared Granted)) (now k (queue_after (queue_of q h) (transaction_number_of s h) Shared Queued)) (still k)
  asked_by_event (asked.Put s k v) reply = written s k (Some v) reply
  asked_by_event (asked.Del s k) reply = written s k None reply
  asked_by_event (asked.Add s k delta) reply = added_to s k delta reply
  asked_by_event (asked.Commit s) reply = commit_case (Then (asked_for h)) was s reply (λ counts. ended s)
  asked_by_event (asked.Abort s) reply = abort_case (Then (asked_for h)) was s reply (λ counts. ended s)
  asked_by_event asked.StartPoint reply = move_case (Then (asked_for h)) was reply (λ phase point. was)
  asked_by_event asked.Seal reply = move_case (Then (asked_for h)) was reply (λ phase point. was)
  asked_by_event asked.OpenCapture reply = move_case (Then (asked_for h)) was reply (λ phase point. was)
  asked_by_event asked.Take reply = take_case (Then (asked_for h)) was reply (λ key content. was)
  asked_by_event asked.Done reply = done_case (Then (asked_for h)) was reply (λ point. was)
  asked_by_event asked.Rest reply = move_case (Then (asked_for h)) was reply (λ phase point. was)
  asked_by_event (asked.Join a b) reply = join_case (Then (asked_for h)) was a b reply was

-- only a key that was asked for has a request
pub was_asked : (h : History) (q : List ℕ) → is_empty (queue_of q h) ≡ false → is_among (asked_for h) q ≡ true
was_asked [] q has = cc
was_asked (step ∷ h) q has = asked_by_event h q (was_asked h q) step.event step.reply has

and_asked : (b c : Bool) → (b ≡ false → c ≡ true) → (not b && c) ≡ not b
and_asked true c h = refl
and_asked false c h = h refl

-- the keys that have a request are those whose queue is not empty
requested_is : (h : History) (q : List ℕ) → is_among (requested h) q ≡ not (is_empty (queue_of q h))
requested_is h q =
    any-filter_same (same_bytes q) (λ key. not (is_empty (queue_of key h))) (not (is_empty (queue_of q h))) (λ k e. ap (λ x. not (is_empty (queue_of x h))) (sym (one_key q k e))) (asked_for h)
    ∙ and_asked (is_empty (queue_of q h)) (is_among (asked_for h) q) (was_asked h q)

-- what four lists have
any_of_four : (p : List ℕ → Bool) (a b c d : List (List ℕ)) → list_any p (a ++ b ++ c ++ d) ≡ (list_any p a || (list_any p b || (list_any p c || list_any p d)))
any_of_four p a b c d =
    list_any-append p (a ++ b ++ c) d
    ∙ ap (λ x. x || list_any p d) (list_any-append p (a ++ b) c)
    ∙ ap (λ x. (x || list_any p c) || list_any p d) (list_any-append p a b)
    ∙ or_moved (list_any p a) (list_any p b) (list_any p c) (list_any p d)
  where
    or_moved : (x y z w : Bool) → (((x || y) || z) || w) ≡ (x || (y || (z || w)))
    or_moved true y z w = refl
    or_moved false true z w = refl
    or_moved false false z w = refl

pub four : (a b c d x y z w : Bool) → a ≡ x → b ≡ y → c ≡ z → d ≡ w → (a || (b || (c || d))) ≡ (x || (y || (z || w)))
four a b c d x y z w e f g h = rw (e, f, g, h) refl

-- a map's keys are those at which it has something
has_key : (db : Database) (q : List ℕ) → list_any (same_bytes q) (map_of.keys db) ≡ is_some (map_of.get db q)
has_key db q = sym (is_some-find key_cmp q db.entries) ∙ ap is_some (sym (get-entries db q))

-- what is occupied, key by key
pub occupied_is : (st : Setting) (h : History) (q : List ℕ) → set.contains (occupied st h) q ≡ (is_some (map_of.get (contents st.base h) q) || (not (is_empty (queue_of q h)) || (is_among (open_set h) q || is_among (closed_set h) q)))
occupied_is st h q =
    contains-from_list key_order (map_of.keys (contents st.base h) ++ requested h ++ open_set h ++ closed_set h) q
    ∙ any_of_four (same_bytes q) (map_of.keys (contents st.base h)) (requested h) (open_set h) (closed_set h)
    ∙ four _ _ (is_among (open_set h) q) (is_among (closed_set h) q) _ _ (is_among (open_set h) q) (is_among (closed_set h) q) (has_key (contents st.base h) q) (requested_is h q) refl refl
