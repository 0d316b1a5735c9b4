-- Answering and releasing keep the queues and the lists linked.
use Rattle.std.proofs.Common.{◌≡◌, ◌≢◌, ℕ, ◌==◌, ◌⊎◌, inl, inr, List, [], ◌∷◌, ◌++◌, Option, Some, None, Bool, true, false, ◌||◌, ◌&&◌, not, cond, refl, sym, ◌∙◌, ap, subst, is_some, arith}
use Rattle.std.specs.Prelude.{filter, Result, Ok, Err, IfOk, OnErr}
use Rattle.std.specs.List.{list_any, list_all}
use Rattle.std.proofs.lemmas.List.Folds.{list_any-append}
use Rattle.std.proofs.lemmas.Bool.Decides.{nat_tests}
use Rattle.pc_types.specs.declared.Mode.{Mode}
use Rattle.pc_types.specs.declared.Outcome.{Outcome}
use Rattle.pc_types.specs.declared.Request.{Request}
use Rattle.pc_model.specs.Locks.{Queue, are_compatible, request_in, granted_behind, with_request, queue_after, queue_without, outcome_beside, is_ungranted, is_exclusive, stronger}
use Rattle.pc_types.specs.declared.Outcome.TheVariants.{Granted, Queued, Died}
use Rattle.pc_model.specs.Queues.{stands_in, grant}
use Rattle.pc_locks.specs.States.{SlotLists, Queues, slots_of, queue_at, first_in_list, rest_of_list, last_in_list, is_listed, is_waiting_in_state, slots_after, SetsAt, AreAlike, AreDifferent, AreLinked}
use Rattle.pc_locks.proofs.SlotLaws.{sets_cases, sets_same}
use Rattle.pc_model.proofs.QueueLaws.{stands_granted, stands_is, with_new}

same_test : (a b : ℕ) → a ≡ b → (a == b) ≡ true
same_test a b e = grind (arith, nat_tests)

other_test : (a b : ℕ) → a ≢ b → (a == b) ≡ false
other_test a b n = grind (arith, nat_tests)

test_same : (a b : ℕ) → (a == b) ≡ true → a ≡ b
test_same a b e = grind (arith, nat_tests)

same_or_other : (a b : ℕ) → (a ≡ b) ⊎ (a ≢ b)
same_or_other a b = by (a == b) refl
  where
    by : (t : Bool) → (a == b) ≡ t → (a ≡ b) ⊎ (a ≢ b)
    by true e = inl (test_same a b e)
    by false e = inr (λ f. let g = same_test a b f in cc)

or_end : (b : Bool) → (b || false) ≡ b
or_end true = refl
or_end false = refl

or_true : (b : Bool) → (b || true) ≡ true
or_true true = refl
or_true false = refl

or_false : (a b : Bool) → (a || b) ≡ false → (a ≡ false) × (b ≡ false)
or_false true b e = absurd cc
or_false false b e = (refl, e)

pub linked_new : (queues : Queues) → ((slot : ℕ) → queue_at queues slot ≡ []) → AreLinked queues []
linked_new queues f = record {
  listed = λ t slot. sym (ap (λ q. stands_in q t) (f slot));
  once = λ t. tt;
  waits = λ t slot e. absurd (let g : false ≡ true = sym (ap (λ q. is_ungranted (request_in q t)) (f slot)) ∙ e in cc);
}

-- if each queue and each list is what it was
pub linked_alike : (queues new_queues : Queues) (lists new_lists : SlotLists) → ((u : ℕ) → queue_at new_queues u ≡ queue_at queues u) → ((u : ℕ) → slots_of new_lists u ≡ slots_of lists u) → AreLinked queues lists → AreLinked new_queues new_lists
linked_alike queues new_queues lists new_lists e f k = record {
  listed = λ t slot. ap (λ xs. is_listed xs slot) (f t) ∙ (k.listed t slot ∙ ap (λ q. stands_in q t) (sym (e slot)));
  once = λ t. subst AreDifferent (sym (f t)) (k.once t);
  waits = λ t slot g. ap last_in_list (f t) ∙ k.waits t slot (ap (λ q. is_ungranted (request_in q t)) (sym (e slot)) ∙ g);
}

-- an upgrade changes nobody's place
stands_with : (q : Queue) (n : Request) (u : ℕ) → stands_in q n.transaction ≡ true → stands_in (with_request q n) u ≡ stands_in q u
stands_with [] n u e = absurd cc
stands_with (r ∷ rs) n u e = by (r.transaction == n.transaction) e (stands_with rs n u)
  where
    by : (b : Bool) → (b || stands_in rs n.transaction) ≡ true → (stands_in rs n.transaction ≡ true → stands_in (with_request rs n) u ≡ stands_in rs u) →
        stands_in (cond b (record r { mode = stronger r.mode n.mode } ∷ rs) (r ∷ with_request rs n)) u ≡ ((r.transaction == u) || stands_in rs u)
    by true f ih = refl
    by false f ih = ap (λ b. (r.transaction == u) || b) (ih f)

ungranted_with : (q : Queue) (n : Request) (u : ℕ) → stands_in q n.transaction ≡ true → is_ungranted (request_in (with_request q n) u) ≡ is_ungranted (request_in q u)
ungranted_with [] n u e = absurd cc
ungranted_with (r ∷ rs) n u e = by (r.transaction == n.transaction) e (ungranted_with rs n u)
  where
    by : (b : Bool) → (b || stands_in rs n.transaction) ≡ true → (stands_in rs n.transaction ≡ true → is_ungranted (request_in (with_request rs n) u) ≡ is_ungranted (request_in rs u)) →
        is_ungranted (request_in (cond b (record r { mode = stronger r.mode n.mode } ∷ rs) (r ∷ with_request rs n)) u) ≡ is_ungranted (cond (r.transaction == u) (Some r) (request_in rs u))
    by true f ih = at_front (r.transaction == u)
      where
        at_front : (b : Bool) → is_ungranted (cond b (Some (record r { mode = stronger r.mode n.mode })) (request_in rs u)) ≡ is_ungranted (cond b (Some r) (request_in rs u))
        at_front true = refl
        at_front false = refl
    by false f ih = behind (r.transaction == u) (ih f)
      where
        behind : (b : Bool) → is_ungranted (request_in (with_request rs n) u) ≡ is_ungranted (request_in rs u) → is_ungranted (cond b (Some r) (request_in (with_request rs n) u)) ≡ is_ungranted (cond b (Some r) (request_in rs u))
        behind true g = refl
        behind false g = g

-- if nobody's place changes
pub linked_same : (queues new_queues : Queues) (lists : SlotLists) (s : ℕ) (q : Queue) → SetsAt queues new_queues s q → ((u : ℕ) → stands_in q u ≡ stands_in (queue_at queues s) u) →
    ((u : ℕ) → is_ungranted (request_in q u) ≡ true → is_ungranted (request_in (queue_at queues s) u) ≡ true) → AreLinked queues lists → AreLinked new_queues lists
linked_same queues new_queues lists s q h e w k = record {
  listed = λ t slot. k.listed t slot ∙ elim (sets_cases queues new_queues s q h slot) [
    | inl c ↦ ap (λ x. stands_in (queue_at queues x) t) c.0 ∙ (sym (e t) ∙ ap (λ x. stands_in x t) (sym c.1))
    | inr c ↦ ap (λ x. stands_in x t) (sym c.1)
  ];
  once = k.once;
  waits = λ t slot g. elim (sets_cases queues new_queues s q h slot) [
    | inl c ↦ k.waits t s (w t (ap (λ x. is_ungranted (request_in x t)) (sym c.1) ∙ g)) ∙ ap Some (sym c.0)
    | inr c ↦ k.waits t slot (ap (λ x. is_ungranted (request_in x t)) (sym c.1) ∙ g)
  ];
}

pub linked_with : (queues new_queues : Queues) (lists : SlotLists) (s : ℕ) (n : Request) → SetsAt queues new_queues s (with_request (queue_at queues s) n) → stands_in (queue_at queues s) n.transaction ≡ true → AreLinked queues lists → AreLinked new_queues lists
linked_with queues new_queues lists s n h e k =
    linked_same queues new_queues lists s (with_request (queue_at queues s) n) h (λ u. stands_with (queue_at queues s) n u e) (λ u g. sym (ungranted_with (queue_at queues s) n u e) ∙ g) k

one_more : (b : Bool) (x y : ℕ) → x ≡ y → (b || ((x == y) || false)) ≡ true
one_more b x y e = rw (same_test x y e) (or_true b)

no_more : (b : Bool) (x y : ℕ) → x ≢ y → (b || ((x == y) || false)) ≡ b
no_more b x y n = rw (other_test x y n) (or_end b)

-- a request at the end of the queue
stands_push : (q : Queue) (n : Request) (u : ℕ) → stands_in (q ++ n ∷ []) u ≡ (stands_in q u || ((n.transaction == u) || false))
stands_push q n u = list_any-append (λ r. r.transaction == u) q (n ∷ [])

ungranted_push : (q : Queue) (n : Request) (u : ℕ) → n.transaction ≢ u → is_ungranted (request_in (q ++ n ∷ []) u) ≡ is_ungranted (request_in q u)
ungranted_push [] n u e = rw (other_test n.transaction u e)
ungranted_push (r ∷ rs) n u e = by (r.transaction == u) (ungranted_push rs n u e)
  where
    by : (b : Bool) → is_ungranted (request_in (rs ++ n ∷ []) u) ≡ is_ungranted (request_in rs u) → is_ungranted (cond b (Some r) (request_in (rs ++ n ∷ []) u)) ≡ is_ungranted (cond b (Some r) (request_in rs u))
    by true g = refl
    by false g = g

listed_push : (xs : List ℕ) (s x : ℕ) → is_listed (xs ++ s ∷ []) x ≡ (is_listed xs x || ((s == x) || false))
listed_push xs s x = list_any-append (λ y. y == x) xs (s ∷ [])

different_push : (xs : List ℕ) (s : ℕ) → AreDifferent xs → is_listed xs s ≡ false → AreDifferent (xs ++ s ∷ [])
different_push [] s d e = (refl, tt)
different_push (x ∷ xs) s d e =
    let h = or_false (x == s) (is_listed xs s) e in
    let f : s ≢ x = (λ g. let k = same_test x s (sym g) in let z = h.0 in cc) in
    (listed_push xs s x ∙ rw (d.0, other_test s x f), different_push xs s d.1 h.1)

last_push : (xs : List ℕ) (s : ℕ) → last_in_list (xs ++ s ∷ []) ≡ Some s
last_push [] s = refl
last_push (x ∷ []) s = refl
last_push (x ∷ y ∷ ys) s = last_push (y ∷ ys) s

-- if a transaction's first request of a slot is added
pub linked_push : (queues new_queues : Queues) (lists new_lists : SlotLists) (s : ℕ) (n : Request) → SetsAt queues new_queues s (queue_at queues s ++ n ∷ []) → stands_in (queue_at queues s) n.transaction ≡ false →
    ((slot : ℕ) → is_ungranted (request_in (queue_at queues slot) n.transaction) ≡ false) →
    slots_of new_lists n.transaction ≡ slots_of lists n.transaction ++ s ∷ [] → ((u : ℕ) → u ≢ n.transaction → slots_of new_lists u ≡ slots_of lists u) →
    AreLinked queues lists → AreLinked new_queues new_lists
linked_push queues new_queues lists new_lists s n h f w e o k = record {
  listed = λ t slot. elim (same_or_other t n.transaction) [
    | inl a ↦ subst (λ x. is_listed (slots_of new_lists x) slot ≡ stands_in (queue_at new_queues slot) x) (sym a)
        (ap (λ xs. is_listed xs slot) e ∙ (listed_push (slots_of lists n.transaction) s slot ∙ elim (sets_cases queues new_queues s (queue_at queues s ++ n ∷ []) h slot) [
          | inl c ↦ one_more (is_listed (slots_of lists n.transaction) slot) s slot (sym c.0) ∙ sym (ap (λ q. stands_in q n.transaction) c.1 ∙ (stands_push (queue_at queues s) n n.transaction ∙ one_more (stands_in (queue_at queues s) n.transaction) n.transaction n.transaction refl))
          | inr c ↦ no_more (is_listed (slots_of lists n.transaction) slot) s slot (λ g. c.0 (sym g)) ∙ (k.listed n.transaction slot ∙ ap (λ q. stands_in q n.transaction) (sym c.1))
        ]))
    | inr a ↦ ap (λ xs. is_listed xs slot) (o t a) ∙ (k.listed t slot ∙ elim (sets_cases queues new_queues s (queue_at queues s ++ n ∷ []) h slot) [
      | inl c ↦ sym (ap (λ q. stands_in q t) c.1 ∙ (stands_push (queue_at queues s) n t ∙ (no_more (stands_in (queue_at queues s) t) n.transaction t (λ g. a (sym g)) ∙ ap (λ x. stands_in (queue_at queues x) t) (sym c.0))))
      | inr c ↦ ap (λ q. stands_in q t) (sym c.1)
    ])
  ];
  once = λ t. elim (same_or_other t n.transaction) [
    | inl a ↦ subst (λ x. AreDifferent (slots_of new_lists x)) (sym a) (subst AreDifferent (sym e) (different_push (slots_of lists n.transaction) s (k.once n.transaction) (k.listed n.transaction s ∙ f)))
    | inr a ↦ subst AreDifferent (sym (o t a)) (k.once t)
  ];
  waits = λ t slot g. elim (same_or_other t n.transaction) [
    | inl a ↦ elim (sets_cases queues new_queues s (queue_at queues s ++ n ∷ []) h slot) [
      | inl c ↦ ap (λ x. last_in_list (slots_of new_lists x)) a ∙ (ap last_in_list e ∙ (last_push (slots_of lists n.transaction) s ∙ ap Some (sym c.0)))
      | inr c ↦ absurd (let z : false ≡ true = sym (w slot) ∙ (ap (λ x. is_ungranted (request_in (queue_at queues slot) x)) (sym a) ∙ (ap (λ q. is_ungranted (request_in q t)) (sym c.1) ∙ g)) in cc)
    ]
    | inr a ↦ ap last_in_list (o t a) ∙ elim (sets_cases queues new_queues s (queue_at queues s ++ n ∷ []) h slot) [
      | inl c ↦ k.waits t s (sym (ungranted_push (queue_at queues s) n t (λ z. a (sym z))) ∙ (ap (λ q. is_ungranted (request_in q t)) (sym c.1) ∙ g)) ∙ ap Some (sym c.0)
      | inr c ↦ k.waits t slot (ap (λ q. is_ungranted (request_in q t)) (sym c.1) ∙ g)
    ]
  ];
}

-- releasing
keeps_out : (rs : Queue) (t : ℕ) → stands_in (filter (λ r. not (r.transaction == t)) rs) t ≡ false
keeps_out [] t = refl
keeps_out (r ∷ rs) t = by (r.transaction == t) refl (keeps_out rs t)
  where
    by : (b : Bool) → (r.transaction == t) ≡ b → stands_in (filter (λ q. not (q.transaction == t)) rs) t ≡ false → stands_in (cond (not b) (r ∷ filter (λ q. not (q.transaction == t)) rs) (filter (λ q. not (q.transaction == t)) rs)) t ≡ false
    by true e h = h
    by false e h = rw e h

keeps_others : (rs : Queue) (t u : ℕ) → u ≢ t → request_in (filter (λ r. not (r.transaction == t)) rs) u ≡ request_in rs u
keeps_others [] t u n = refl
keeps_others (r ∷ rs) t u n = by (r.transaction == t) refl (keeps_others rs t u n)
  where
    by : (b : Bool) → (r.transaction == t) ≡ b → request_in (filter (λ q. not (q.transaction == t)) rs) u ≡ request_in rs u → request_in (cond (not b) (r ∷ filter (λ q. not (q.transaction == t)) rs) (filter (λ q. not (q.transaction == t)) rs)) u ≡ request_in (r ∷ rs) u
    by true e h =
        let f : (r.transaction == u) ≡ false = other_test r.transaction u (λ g. n (sym g ∙ test_same r.transaction t e)) in
        rw f h
    by false e h = ap (λ o. cond (r.transaction == u) (Some r) o) h

keeps_standing : (rs : Queue) (t u : ℕ) → u ≢ t → stands_in (filter (λ r. not (r.transaction == t)) rs) u ≡ stands_in rs u
keeps_standing rs t u n = sym (stands_is (filter (λ r. not (r.transaction == t)) rs) u) ∙ (ap is_some (keeps_others rs t u n) ∙ stands_is rs u)

-- granting makes nobody wait
granted_waits : (before rs : Queue) (u : ℕ) → is_ungranted (request_in (granted_behind before rs) u) ≡ true → is_ungranted (request_in rs u) ≡ true
granted_waits before [] u e = e
granted_waits before (r ∷ rs) u e = by (list_all (are_compatible r) before) (granted_waits (before ++ grant r ∷ []) rs u) e
  where
    behind : (b : Bool) → (is_ungranted (request_in (granted_behind (before ++ grant r ∷ []) rs) u) ≡ true → is_ungranted (request_in rs u) ≡ true) →
        is_ungranted (cond b (Some (grant r)) (request_in (granted_behind (before ++ grant r ∷ []) rs) u)) ≡ true → is_ungranted (cond b (Some r) (request_in rs u)) ≡ true
    behind true ih f = absurd cc
    behind false ih f = ih f

    by : (b : Bool) → (is_ungranted (request_in (granted_behind (before ++ grant r ∷ []) rs) u) ≡ true → is_ungranted (request_in rs u) ≡ true) →
        is_ungranted (request_in (cond b (grant r ∷ granted_behind (before ++ grant r ∷ []) rs) (r ∷ rs)) u) ≡ true → is_ungranted (cond (r.transaction == u) (Some r) (request_in rs u)) ≡ true
    by true ih f = behind (r.transaction == u) ih f
    by false ih f = f

gone : (q : Queue) (t : ℕ) → stands_in (queue_without q t) t ≡ false
gone q t = stands_granted [] (filter (λ r. not (r.transaction == t)) q) t ∙ keeps_out q t

none_waits : (o : Option Request) → is_some o ≡ false → is_ungranted o ≡ false
none_waits None e = refl
none_waits (Some r) e = absurd cc

pub gone_waits : (q : Queue) (t : ℕ) → is_ungranted (request_in (queue_without q t) t) ≡ false
gone_waits q t = none_waits (request_in (queue_without q t) t) (stands_is (queue_without q t) t ∙ gone q t)

others_stand : (q : Queue) (t u : ℕ) → u ≢ t → stands_in (queue_without q t) u ≡ stands_in q u
others_stand q t u n = stands_granted [] (filter (λ r. not (r.transaction == t)) q) u ∙ keeps_standing q t u n

others_wait : (q : Queue) (t u : ℕ) → u ≢ t → is_ungranted (request_in (queue_without q t) u) ≡ true → is_ungranted (request_in q u) ≡ true
others_wait q t u n e = sym (ap is_ungranted (keeps_others q t u n)) ∙ granted_waits [] (filter (λ r. not (r.transaction == t)) q) u e

split_first : (xs : List ℕ) (s : ℕ) → Some s ≡ first_in_list xs → xs ≡ s ∷ rest_of_list xs
split_first [] s e = absurd cc
split_first (x ∷ xs) s e = let f : s ≡ x = cc in ap (λ y. y ∷ xs) (sym f)

last_rest : (s x : ℕ) (rest : List ℕ) → last_in_list (s ∷ rest) ≡ Some x → x ≢ s → last_in_list rest ≡ Some x
last_rest s x [] e n = absurd (n (let f : x ≡ s = cc in f))
last_rest s x (y ∷ ys) e n = e

-- if a transaction's first request is removed
pub linked_pop : (queues new_queues : Queues) (lists new_lists : SlotLists) (s t : ℕ) → SetsAt queues new_queues s (queue_without (queue_at queues s) t) → Some s ≡ first_in_list (slots_of lists t) →
    slots_of new_lists t ≡ rest_of_list (slots_of lists t) → ((u : ℕ) → u ≢ t → slots_of new_lists u ≡ slots_of lists u) →
    AreLinked queues lists → AreLinked new_queues new_lists
linked_pop queues new_queues lists new_lists s t h f e o k =
    let rest = rest_of_list (slots_of lists t) in
    let split : slots_of lists t ≡ s ∷ rest = split_first (slots_of lists t) s f in
    let d : (is_listed rest s ≡ false) × AreDifferent rest = subst AreDifferent split (k.once t) in
    let others = sets_cases queues new_queues s (queue_without (queue_at queues s) t) h in
    record {
      listed = λ u slot. elim (same_or_other u t) [
        | inl a ↦ subst (λ x. is_listed (slots_of new_lists x) slot ≡ stands_in (queue_at new_queues slot) x) (sym a)
            (ap (λ xs. is_listed xs slot) e ∙ elim (others slot) [
              | inl c ↦ ap (is_listed rest) c.0 ∙ (d.0 ∙ sym (ap (λ q. stands_in q t) c.1 ∙ gone (queue_at queues s) t))
              | inr c ↦ sym (ap (λ b. b || is_listed rest slot) (other_test s slot (λ g. c.0 (sym g)))) ∙ (sym (ap (λ xs. is_listed xs slot) split) ∙ (k.listed t slot ∙ ap (λ q. stands_in q t) (sym c.1)))
            ])
        | inr a ↦ ap (λ xs. is_listed xs slot) (o u a) ∙ (k.listed u slot ∙ elim (others slot) [
          | inl c ↦ ap (λ x. stands_in (queue_at queues x) u) c.0 ∙ sym (ap (λ q. stands_in q u) c.1 ∙ others_stand (queue_at queues s) t u a)
          | inr c ↦ ap (λ q. stands_in q u) (sym c.1)
        ])
      ];
      once = λ u. elim (same_or_other u t) [
        | inl a ↦ subst (λ x. AreDifferent (slots_of new_lists x)) (sym a) (subst AreDifferent (sym e) d.1)
        | inr a ↦ subst AreDifferent (sym (o u a)) (k.once u)
      ];
      waits = λ u slot g. elim (same_or_other u t) [
        | inl a ↦ elim (others slot) [
          | inl c ↦ absurd (let z : false ≡ true = sym (gone_waits (queue_at queues s) t) ∙ (ap (λ x. is_ungranted (request_in (queue_without (queue_at queues s) t) x)) (sym a) ∙ (ap (λ q. is_ungranted (request_in q u)) (sym c.1) ∙ g)) in cc)
          | inr c ↦ ap (λ x. last_in_list (slots_of new_lists x)) a ∙ (ap last_in_list e ∙ last_rest s slot rest (sym (ap last_in_list split) ∙ k.waits t slot (ap (λ x. is_ungranted (request_in (queue_at queues slot) x)) (sym a) ∙ (ap (λ q. is_ungranted (request_in q u)) (sym c.1) ∙ g))) c.0)
        ]
        | inr a ↦ ap last_in_list (o u a) ∙ elim (others slot) [
          | inl c ↦ k.waits u s (others_wait (queue_at queues s) t u a (ap (λ q. is_ungranted (request_in q u)) (sym c.1) ∙ g)) ∙ ap Some (sym c.0)
          | inr c ↦ k.waits u slot (ap (λ q. is_ungranted (request_in q u)) (sym c.1) ∙ g)
        ]
      ];
    }

abbrev waits_for : ℕ → Queue → Bool
waits_for t q = is_ungranted (request_in q t)

not_true : (b : Bool) → (b ≡ true → ⊥) → b ≡ false
not_true true f = absurd (f refl)
not_true false f = refl

none_any : (p : ℕ → Bool) (xs : List ℕ) → ((x : ℕ) → p x ≡ false) → list_any p xs ≡ false
none_any p [] f = refl
none_any p (x ∷ xs) f = rw (f x) (none_any p xs f)

some_any : (p : ℕ → Bool) (xs : List ℕ) (s : ℕ) → is_listed xs s ≡ true → p s ≡ true → list_any p xs ≡ true
some_any p [] s e f = absurd cc
some_any p (x ∷ xs) s e f = by (x == s) refl e (λ h. some_any p xs s h f)
  where
    by : (b : Bool) → (x == s) ≡ b → (b || is_listed xs s) ≡ true → (is_listed xs s ≡ true → list_any p xs ≡ true) → (p x || list_any p xs) ≡ true
    by true g h ih = ap (λ b. b || list_any p xs) (ap p (test_same x s g) ∙ f)
    by false g h ih = rw (ih h) (or_true (p x))

first_listed : (xs : List ℕ) (s : ℕ) → Some s ≡ first_in_list xs → is_listed xs s ≡ true
first_listed [] s e = absurd cc
first_listed (x ∷ xs) s e = let f : s ≡ x = cc in rw (same_test x s (sym f))

pub last_listed : (xs : List ℕ) (s : ℕ) → Some s ≡ last_in_list xs → is_listed xs s ≡ true
last_listed [] s e = absurd cc
last_listed (x ∷ []) s e = let f : s ≡ x = cc in rw (same_test x s (sym f))
last_listed (x ∷ y ∷ ys) s e = rw (last_listed (y ∷ ys) s e) (or_true (x == s))

-- if a transaction waits anywhere, it waits at one of its slots
pub waits_anywhere : (queues : Queues) (lists : SlotLists) (t s : ℕ) → AreLinked queues lists → waits_for t (queue_at queues s) ≡ true → is_waiting_in_state (record { queues = queues; lists = lists }) t ≡ true
waits_anywhere queues lists t s k e = some_any (λ x. waits_for t (queue_at queues x)) (slots_of lists t) s (last_listed (slots_of lists t) s (sym (k.waits t s e))) e

-- if it waits at none of its slots, it waits nowhere
pub ready_at : (queues : Queues) (lists : SlotLists) (t : ℕ) → AreLinked queues lists → is_waiting_in_state (record { queues = queues; lists = lists }) t ≡ false → (s : ℕ) → waits_for t (queue_at queues s) ≡ false
ready_at queues lists t k e s = not_true (waits_for t (queue_at queues s)) (λ f. let g : false ≡ true = sym e ∙ waits_anywhere queues lists t s k f in cc)

-- only the last of a transaction's slots may have it wait
pub any_waits : (queues : Queues) (lists : SlotLists) (t s : ℕ) → AreLinked queues lists → Some s ≡ last_in_list (slots_of lists t) → waits_for t (queue_at queues s) ≡ is_waiting_in_state (record { queues = queues; lists = lists }) t
any_waits queues lists t s k e = by (waits_for t (queue_at queues s)) refl
  where
    by : (b : Bool) → waits_for t (queue_at queues s) ≡ b → b ≡ is_waiting_in_state (record { queues = queues; lists = lists }) t
    by true f = sym (waits_anywhere queues lists t s k f)
    by false f = sym (none_any (λ x. waits_for t (queue_at queues x)) (slots_of lists t) (λ x. not_true (waits_for t (queue_at queues x)) (λ g.
        let h : Some s ≡ Some x = e ∙ k.waits t x g in
        let i : s ≡ x = cc in
        let j : waits_for t (queue_at queues s) ≡ true = ap (λ y. waits_for t (queue_at queues y)) i ∙ g in
        cc)))

pub none_waiting : (queues : Queues) (lists : SlotLists) (t : ℕ) → AreLinked queues lists → None ≡ last_in_list (slots_of lists t) → false ≡ is_waiting_in_state (record { queues = queues; lists = lists }) t
none_waiting queues lists t k e = sym (none_any (λ x. waits_for t (queue_at queues x)) (slots_of lists t) (λ x. not_true (waits_for t (queue_at queues x)) (λ g. let h : None ≡ Some x = e ∙ k.waits t x g in cc)))

pub found_is : (q : Queue) (t : ℕ) (own : Request) → request_in q t ≡ Some own → own.transaction ≡ t
found_is [] t own e = absurd cc
found_is (r ∷ rs) t own e = by (r.transaction == t) refl (found_is rs t own) e
  where
    by : (b : Bool) → (r.transaction == t) ≡ b → (request_in rs t ≡ Some own → own.transaction ≡ t) → cond b (Some r) (request_in rs t) ≡ Some own → own.transaction ≡ t
    by true f ih g = let h : r ≡ own = cc in ap (λ (x : Request). x.transaction) (sym h) ∙ test_same r.transaction t f
    by false f ih g = ih g

pub granted_of : (own : Request) → is_ungranted (Some own) ≡ false → own.granted ≡ true
granted_of own e = by own.granted e
  where
    by : (b : Bool) → not b ≡ false → b ≡ true
    by true f = refl
    by false f = absurd cc

pub again_kind : (q : Queue) (t : ℕ) (mode : Mode) (own : Request) (o : Outcome) → o ≡ outcome_beside q t mode (Some own) → (o ≡ Granted) ⊎ (o ≡ Died)
again_kind q t mode own o e = by (is_exclusive own.mode || not (is_exclusive mode)) (list_any (λ r. r.granted && not (r.transaction == t)) q) e
  where
    by : (a b : Bool) → o ≡ cond a Granted (cond b Died Granted) → (o ≡ Granted) ⊎ (o ≡ Died)
    by true b f = inl f
    by false true f = inr f
    by false false f = inl f

pub linked_again : (queues new_queues : Queues) (lists : SlotLists) (s t : ℕ) (mode : Mode) (own : Request) (o : Outcome) → SetsAt queues new_queues s (queue_after (queue_at queues s) t mode o) → (o ≡ Granted) ⊎ (o ≡ Died) → request_in (queue_at queues s) t ≡ Some own →
    AreLinked queues lists → AreLinked new_queues lists
linked_again queues new_queues lists s t mode own o h c f k = elim c [
  | inl e ↦ linked_with queues new_queues lists s (record { transaction = t; mode = mode; granted = true }) (subst (λ x. SetsAt queues new_queues s (queue_after (queue_at queues s) t mode x)) e h)
      (sym (stands_is (queue_at queues s) t) ∙ ap is_some f) k
  | inr e ↦ linked_alike queues new_queues lists lists (sets_same queues new_queues s (queue_after (queue_at queues s) t mode o) h (ap (queue_after (queue_at queues s) t mode) e)) (λ u. refl) k
]

pub list_again : (slots : List ℕ) (s : ℕ) (b : Bool) (o : Outcome) → (o ≡ Granted) ⊎ (o ≡ Died) → b ≡ true → slots ≡ slots_after slots s b o
list_again slots s b o c e = elim c [ inl f ↦ rw (f, e) | inr f ↦ rw f ]

every : (t : ℕ) (lists new_lists : SlotLists) → slots_of new_lists t ≡ slots_of lists t → ((u : ℕ) → u ≢ t → slots_of new_lists u ≡ slots_of lists u) → (u : ℕ) → slots_of new_lists u ≡ slots_of lists u
every t lists new_lists e o u = elim (same_or_other u t) [
  | inl a ↦ subst (λ x. slots_of new_lists x ≡ slots_of lists x) (sym a) e
  | inr a ↦ o u a
]

pub linked_first : (queues new_queues : Queues) (lists new_lists : SlotLists) (s t : ℕ) (mode : Mode) (o : Outcome) → SetsAt queues new_queues s (queue_after (queue_at queues s) t mode o) → stands_in (queue_at queues s) t ≡ false →
    ((slot : ℕ) → is_ungranted (request_in (queue_at queues slot) t) ≡ false) →
    slots_of new_lists t ≡ slots_after (slots_of lists t) s false o → ((u : ℕ) → u ≢ t → slots_of new_lists u ≡ slots_of lists u) →
    AreLinked queues lists → AreLinked new_queues new_lists
linked_first queues new_queues lists new_lists s t mode Granted h f w e others k =
    let n : Request = record { transaction = t; mode = mode; granted = true } in
    linked_push queues new_queues lists new_lists s n (subst (SetsAt queues new_queues s) (with_new (queue_at queues s) n f) h) f w e others k
linked_first queues new_queues lists new_lists s t mode Queued h f w e others k =
    linked_push queues new_queues lists new_lists s (record { transaction = t; mode = mode; granted = false }) h f w e others k
linked_first queues new_queues lists new_lists s t mode Died h f w e others k =
    linked_alike queues new_queues lists new_lists (sets_same queues new_queues s (queue_at queues s) h refl) (every t lists new_lists e others) k

pub linked_result : {A E : Type 0} (result : Result A E) (told : A → Outcome) (queues new_queues : Queues) (lists new_lists : SlotLists) (s t : ℕ) (mode : Mode) → stands_in (queue_at queues s) t ≡ false →
    ((slot : ℕ) → is_ungranted (request_in (queue_at queues slot) t) ≡ false) →
    IfOk result (λ a. SetsAt queues new_queues s (queue_after (queue_at queues s) t mode (told a))) →
    IfOk result (λ a. slots_of new_lists t ≡ slots_after (slots_of lists t) s false (told a)) → ((u : ℕ) → u ≢ t → slots_of new_lists u ≡ slots_of lists u) →
    OnErr result (AreAlike (record { queues = new_queues; lists = new_lists }) (record { queues = queues; lists = lists })) → AreLinked queues lists → AreLinked new_queues new_lists
linked_result (Ok a) told queues new_queues lists new_lists s t mode f w q e others err k = linked_first queues new_queues lists new_lists s t mode (told a) q f w e others k
linked_result (Err x) told queues new_queues lists new_lists s t mode f w q e others err k =
    linked_alike queues new_queues lists new_lists err.queues (λ u. ap (λ l. slots_of l u) err.lists) k
