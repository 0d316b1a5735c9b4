-- What becomes of a slot's queue and of a transaction's slots.
use Rattle.std.proofs.Common.{◌≡◌, ◌≢◌, ℕ, Bool, true, false, Option, Some, None, refl, sym, ◌∙◌, ap, subst}
use Rattle.std.specs.Prelude.{Result, Ok, Err, IfOk, OnErr, IfSome}
use Rattle.pc_types.specs.declared.Mode.{Mode}
use Rattle.pc_types.specs.declared.Outcome.{Outcome}
use Rattle.pc_types.specs.declared.Outcome.TheVariants.{Granted, Queued, Died}
use Rattle.pc_types.specs.declared.Request.{Request}
use Rattle.pc_model.specs.Locks.{outcome, outcome_of_new, queue_after, queue_without}
use Rattle.pc_model.specs.Queues.{stands_in}
use Rattle.pc_model.proofs.QueueLaws.{new_outcome, with_new}
use Rattle.pc_locks.specs.States.{State, queue_at, slots_of, slots_after, SetsAt, AreAlike, IsEntered, IsReleased, IsRequestAnswered}

-- a first request that died, or was entered
module _ (old : State) (t slot : ℕ) (mode : Mode) (answer : Outcome) (fresh : stands_in (queue_at old.queues slot) t ≡ false) (told : answer ≡ outcome_of_new (queue_at old.queues slot) t mode) where
  pub first_died : answer ≡ Died → IsRequestAnswered old old t slot mode answer
  first_died is = record {
    told = told ∙ sym (new_outcome (queue_at old.queues slot) t mode fresh);
    turned = record {
      queues = record { this = ap (queue_after (queue_at old.queues slot) t mode) (sym is); others = λ other n. refl };
      list = ap (slots_after (slots_of old.lists t) slot (stands_in (queue_at old.queues slot) t)) (sym is);
      others = λ other n. refl;
    };
  }

  pub first_queued : (new : State) → answer ≡ Queued → IsEntered old new slot (record { transaction = t; mode = mode; granted = false }) → IsRequestAnswered old new t slot mode answer
  first_queued new is e = record {
    told = told ∙ sym (new_outcome (queue_at old.queues slot) t mode fresh);
    turned = record {
      queues = subst (SetsAt old.queues new.queues slot) (ap (queue_after (queue_at old.queues slot) t mode) (sym is)) e.queues;
      list = e.list ∙ ap (slots_after (slots_of old.lists t) slot (stands_in (queue_at old.queues slot) t)) (sym is);
      others = e.others;
    };
  }

  pub first_granted : (new : State) → answer ≡ Granted → IsEntered old new slot (record { transaction = t; mode = mode; granted = true }) → IsRequestAnswered old new t slot mode answer
  first_granted new is e =
      let n : Request = record { transaction = t; mode = mode; granted = true } in
      record {
        told = told ∙ sym (new_outcome (queue_at old.queues slot) t mode fresh);
        turned = record {
          queues = subst (SetsAt old.queues new.queues slot) (sym (with_new (queue_at old.queues slot) n fresh) ∙ ap (queue_after (queue_at old.queues slot) t mode) (sym is)) e.queues;
          list = e.list ∙ (ap (λ (b : Bool). slots_after (slots_of old.lists t) slot b Granted) (sym fresh) ∙ ap (slots_after (slots_of old.lists t) slot (stands_in (queue_at old.queues slot) t)) (sym is));
          others = e.others;
        };
      }

-- the parts of an answer
module _ {E : Type 0} (old new : State) (t slot : ℕ) (mode : Mode) where
  pub answer_told : (r : Result Outcome E) → IfOk r (IsRequestAnswered old new t slot mode) → IfOk r (λ answer. answer ≡ outcome (queue_at old.queues slot) t mode)
  answer_told (Ok answer) a = a.told
  answer_told (Err e) a = tt

  pub answer_queues : (r : Result Outcome E) → IfOk r (IsRequestAnswered old new t slot mode) → IfOk r (λ answer. SetsAt old.queues new.queues slot (queue_after (queue_at old.queues slot) t mode answer))
  answer_queues (Ok answer) a = a.turned.queues
  answer_queues (Err e) a = tt

  pub answer_others : (r : Result Outcome E) → IfOk r (IsRequestAnswered old new t slot mode) → OnErr r (AreAlike new old) → (other : ℕ) → other ≢ t → slots_of new.lists other ≡ slots_of old.lists other
  answer_others (Ok answer) a same = a.turned.others
  answer_others (Err e) a same = λ other n. ap (λ lists. slots_of lists other) same.lists

  -- the same of a first request
  pub first_told : (r : Result Outcome E) → stands_in (queue_at old.queues slot) t ≡ false → IfOk r (IsRequestAnswered old new t slot mode) → IfOk r (λ answer. answer ≡ outcome_of_new (queue_at old.queues slot) t mode)
  first_told (Ok answer) fresh a = a.told ∙ new_outcome (queue_at old.queues slot) t mode fresh
  first_told (Err e) fresh a = tt

  pub first_list : (r : Result Outcome E) → stands_in (queue_at old.queues slot) t ≡ false → IfOk r (IsRequestAnswered old new t slot mode) → IfOk r (λ answer. slots_of new.lists t ≡ slots_after (slots_of old.lists t) slot false answer)
  first_list (Ok answer) fresh a = a.turned.list ∙ ap (λ (b : Bool). slots_after (slots_of old.lists t) slot b answer) fresh
  first_list (Err e) fresh a = tt

-- the queue of the slot whose request was released
pub release_queues : (old new : State) (t : ℕ) (r : Option ℕ) → IfSome r (IsReleased old new t) → IfSome r (λ slot. SetsAt old.queues new.queues slot (queue_without (queue_at old.queues slot) t))
release_queues old new t (Some slot) a = a.queues
release_queues old new t None a = tt
