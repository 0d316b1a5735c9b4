-- What the steps at the keeper's seat ask and tell, by what the seat knows.
use Rattle.std.proofs.Common.{All, suc, zero, length, get_or, ◌≡◌, ◌==◌, ℕ, ◌<◌, Bool, true, false, cond, List, [], ◌∷◌, refl, ap, sym, ◌∙◌, subst, arith}
use Rattle.std.specs.Prelude.{◌≤◌, MatchBool}
use Rattle.std.proofs.lemmas.List.Elements.{All-cons}
use mathlib.Core.Option.{some, none}
use lib.ListN.{get_elem?}
use prog.Atomic.{either}
use Rattle.atomic_table.specs.Table.{Me, step, Allows, Splits, Joins}
use Rattle.pc_types.specs.declared.Step.{Step}
use Rattle.pc_model.specs.History.{History, log_of}
use Rattle.pc_model.specs.Replies.{Setting, IsLegalHistory}
use Rattle.pc_model.specs.Calls.{counts, session_of, calls_of, IsBeginning, Extends, HasCallsOf}
use Rattle.pc_model.proofs.BeginningLaws.{extends}
use Rattle.pc_tie.specs.declared.sight.Sitting.{Sitting}
use Rattle.pc_tie.specs.declared.sight.Sight.{Sight}
use Rattle.pc_tie.specs.declared.sight.Sight.TheVariants.{Whole, Front, Gone}
use Rattle.pc_tie.specs.Rules.{Speaks, hist_of, dealt_of, guests_of, HasOneHistory, sight_after, KnewFirst, Applied, with_guest, parted, emptied, left_out, shown_out, after_dealing, new_front, IsStepOfGuest, Compared, AreTold}
use Rattle.pc_tie.specs.Seats.{IsSession, MovesOn, NoTwoAlike, IsFrontOf, KeeperView, meeting}
use Rattle.pc_tie.proofs.Steps.{enters, applies, leaves, deals, shows, compares}

-- what a seat is seen as
abbrev pub known : Me Step Sight → KeeperView
known me = meeting (hist_of me.0) (dealt_of me.0) (guests_of me.0)

pub only : {A : Type 0} (x y : A) → x ∷ [] ≡ y ∷ [] → x ≡ y
only x y e = cc (e)

pub first_is : {A : Type 0} (x y : A) (xs ys : List A) → x ∷ xs ≡ y ∷ ys → x ≡ y
first_is x y xs ys e = cc (e)

-- the sight of a badge's seat that a keeper takes in
pub front_in : (views : List Sight) (v w : Sight) → views ≡ v ∷ [] → views ≡ w ∷ [] → w ≡ v
front_in views v w is there = only w v (sym there ∙ is)

module _ (st : Setting) (id : ℕ) (hist : History) (dealt : ℕ) (guests : List Sitting) where
  pub enters_at : {S : Type 0} (n : ℕ) (seen : History) (v : Sight) (other : ℕ) (w : Sight) → v ≡ Whole hist dealt guests → w ≡ Front n seen → Joins (HasOneHistory {S = S} st) id v other w (with_guest v w) Gone
  enters_at {S} n seen v other w is there = subst (λ (u : Sight × Sight). Joins (HasOneHistory {S = S} st) id u.0 other u.1 (with_guest u.0 u.1) Gone) (λ k. (sym is k, sym there k)) (enters st id hist dealt guests other n seen)

  pub shows_at : {S : Type 0} (v : Sight) → v ≡ Whole hist dealt guests → Splits (HasOneHistory {S = S} st) id v (emptied v) (shown_out v)
  shows_at {S} v is = subst (λ (u : Sight). Splits (HasOneHistory {S = S} st) id u (emptied u) (shown_out u)) (sym is) (shows st id hist dealt guests)

  pub compares_at : (me : Me Step Sight) (slots : ℕ) → me ≡ (Whole hist dealt guests, []) → Allows (HasOneHistory {S = Step} st) slots id me 0 (λ k. k) (Compared (step slots 0 0 0 none) me)
  compares_at me slots is = subst (λ (m : Me Step Sight). Allows (HasOneHistory {S = Step} st) slots id m 0 (λ k. k) (Compared (step slots 0 0 0 none) m)) (sym is) (compares st id hist dealt guests slots)

  pub applies_at : (me : Me Step Sight) (said : Step) (slots old new : ℕ) → me ≡ (Whole hist dealt guests, []) → IsStepOfGuest said guests → IsLegalHistory st (said ∷ hist) → old ≡ length (log_of hist) → new ≡ length (log_of (said ∷ hist))
      → Allows (HasOneHistory {S = Step} st) slots id me 0 (λ k. either (k == old) new k) (Applied (step slots 0 old new (some said)) me)
  applies_at me said slots old new is asked legal before after =
      subst (λ (m : Me Step Sight). Allows (HasOneHistory {S = Step} st) slots id m 0 (λ k. either (k == old) new k) (Applied (step slots 0 old new (some said)) m)) (sym is)
      (applies st id hist dealt guests said slots old new asked legal before after)

pub leaves_at : {S : Type 0} (st : Setting) (id : ℕ) (hist : History) (dealt : ℕ) (guest : Sitting) (others guests : List Sitting) (v : Sight) → v ≡ Whole hist dealt guests → guests ≡ guest ∷ others
    → Splits (HasOneHistory {S = S} st) id v (parted v) (left_out v)
leaves_at {S} st id hist dealt guest others guests v is first =
    subst (λ (u : Sight). Splits (HasOneHistory {S = S} st) id u (parted u) (left_out u)) (sym (is ∙ ap (Whole hist dealt) first)) (leaves st id hist dealt guest others)

pub deals_at : {S : Type 0} (st : Setting) (id : ℕ) (hist : History) (dealt : ℕ) (guests : List Sitting) (v : Sight) → v ≡ Whole hist dealt guests → Speaks dealt → hist ≡ [] → guests ≡ [] → Splits (HasOneHistory {S = S} st) id v (after_dealing v) (new_front v)
deals_at {S} st id hist dealt guests v is speaks empty alone =
    subst (λ (u : Sight). Splits (HasOneHistory {S = S} st) id u (after_dealing u) (new_front u)) (sym (is ∙ (λ k. Whole (empty k) dealt (alone k)))) (deals st id dealt speaks)

-- facts about the first seat are facts about the one that it is
pub knew_as : (hist : History) (s mine : Sitting) (others : List Sitting) → s ≡ mine → Speaks mine.number → KnewFirst hist (s ∷ others) → HasCallsOf hist mine.number mine.seen
knew_as hist s mine others is speaks knew =
    let k = subst (λ (x : Sitting). IsBeginning x.seen hist × (Speaks x.number → calls_of x.number hist ≡ calls_of x.number x.seen)) is knew in
    (k.0, k.1 speaks)

-- the seat has seen what the step makes of what it had seen
pub moves_on : (st : Setting) (hist : History) (n : ℕ) (seen after : History) (c : Step) → after ≡ sight_after c hist seen → session_of c.event ≡ n → IsLegalHistory st (c ∷ hist) → HasCallsOf hist n seen → MovesOn st seen c after
moves_on st hist n seen after c is own legal has = by_case (counts c.reply) is
  where
    by_case : (b : Bool) → after ≡ cond b (c ∷ hist) seen → MatchBool b (Extends st seen c after) (after ≡ seen)
    by_case true at = subst (Extends st seen c) (sym at) (extends st hist seen c legal has.0 (subst (λ (m : ℕ). calls_of m hist ≡ calls_of m seen) (sym own) has.1))
    by_case false at = at

-- what it has seen is legal still
pub still_legal : (st : Setting) (old new : History) (c : Step) → MovesOn st old c new → IsLegalHistory st old → IsLegalHistory st new
still_legal st old new c moves legal = by_case (counts c.reply) moves
  where
    by_case : (b : Bool) → MatchBool b (Extends st old c new) (new ≡ old) → IsLegalHistory st new
    by_case true x = x.0
    by_case false e = subst (IsLegalHistory st) (sym e) legal

-- and a session is one still
pub still_session : (st : Setting) (old new : Sitting) (c : Step) → new.number ≡ old.number → MovesOn st old.seen c new.seen → IsSession st old → IsSession st new
still_session st old new c same moves is = record {
  from_one = subst (λ (n : ℕ). 0 < n) (sym same) is.from_one;
  speaks = subst Speaks (sym same) is.speaks;
  within = subst (λ (n : ℕ). n ≤ st.sessions) (sym same) is.within;
  legal = still_legal st old.seen new.seen c moves is.legal;
}

pub fronts_told : (hist : History) (guests : List Sitting) → AreTold hist guests → All (IsFrontOf hist) guests
fronts_told hist guests told = by_list guests told.0
  where
    by_list : (ss : List Sitting) → ((k : ℕ) (x : Sitting) → get_elem? ss k ≡ some x → IsBeginning x.seen hist × (Speaks x.number → calls_of x.number hist ≡ calls_of x.number x.seen)) → All (IsFrontOf hist) ss
    by_list [] f = λ k d lt. absurd (omega arith)
    by_list (s ∷ ss) f = All-cons (IsFrontOf hist) s ss (let e = f 0 s refl in (e.0, λ speaks. (e.0, e.1 speaks))) (by_list ss (λ k x e. f (suc k) x e))

at : (ss : List Sitting) (k : ℕ) (d : Sitting) → k < length ss → get_elem? ss k ≡ some (get_or ss k d)
at [] k d lt = absurd (omega arith)
at (s ∷ ss) zero d lt = refl
at (s ∷ ss) (suc k) d lt = at ss k d (omega arith)

pub none_alike_told : (hist : History) (guests : List Sitting) → AreTold hist guests → NoTwoAlike guests
none_alike_told hist guests told i j d lt lt' pos same = told.1 i j (get_or guests i d) (get_or guests j d) (at guests i d lt) (at guests j d lt') pos same
