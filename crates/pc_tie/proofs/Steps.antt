-- Each step keeps the tie.
use Rattle.std.proofs.Common.{◌≡◌, ◌≢◌, ◌==◌, ℕ, zero, suc, ◌+◌, Bool, true, false, true≢false, cond, List, [], ◌∷◌, length, set, refl, ap, sym, ◌∙◌, subst, ⊎_elim, arith, eq-eqb}
use Rattle.std.specs.Prelude.{slice_index}
use mathlib.Core.Option.{Option, none, some, some-injective, some-ne-none}
use lib.ListN.{get_elem?}
use prog.Atomic.{either}
use Rattle.atomic_table.specs.Table.{step, keeps, Allows, Splits, Joins}
use Rattle.atomic_table.proofs.Lists.{at_set, set_again}
use Rattle.pc_types.specs.declared.Step.{Step}
use Rattle.pc_model.specs.History.{History, log_of}
use Rattle.pc_model.specs.Replies.{Setting, IsLegalHistory}
use Rattle.pc_model.specs.Calls.{counts, session_of, calls_of, IsBeginning}
use Rattle.pc_tie.specs.declared.sight.Sitting.{Sitting}
use Rattle.pc_tie.specs.declared.sight.Sight.{Sight}
use Rattle.pc_tie.specs.declared.sight.Sight.TheVariants.{Whole, Front, Beside, Gone}
use Rattle.pc_tie.specs.Rules.{a_witness, Speaks, shown_out, sitting, Knows, FitsSeat, HasOneHistory, guests_after, said_step, KnewFirst, Applied, with_guest, parted, emptied, left_out, IsStepOfGuest, after_dealing, new_front, Compared, AreGuestsApart}
use Rattle.pc_model.proofs.BeginningLaws.{beginning_self, beginning_none, beginning_on, calls_on}
use Rattle.pc_tie.proofs.Owners.{turned, turned_same, turned_other, turned_either, at_last}

knows_on : (history : History) (dealt : ℕ) (owner : ℕ → ℕ) (id : ℕ) (c : Step) (n : ℕ) (seen : History) → (Speaks n → counts c.reply ≡ true → session_of c.event ≢ n) → Knows history dealt owner id n seen
    → Knows (c ∷ history) dealt owner id n seen
knows_on history dealt owner id c n seen other k = (beginning_on seen history c k.0, λ own. let o = k.1 own in (o.0, o.1, calls_on n history c (other own) ∙ o.2))

fits_on : (history : History) (keeper dealt : ℕ) (owner : ℕ → ℕ) (c : Step) (j : ℕ) → j ≢ keeper → owner (session_of c.event) ≡ keeper → (v : Sight)
    → FitsSeat history keeper dealt owner j v → FitsSeat (c ∷ history) keeper dealt owner j v
fits_on history keeper dealt owner c j apart own (Whole hist g guests) f = absurd (apart f.0)
fits_on history keeper dealt owner c j apart own (Front n seen) f =
    knows_on history dealt owner j c n seen (λ speaks yes is. apart (sym (f.1 speaks).1 ∙ (ap owner (sym is) ∙ own))) f
fits_on history keeper dealt owner c j apart own (Beside n seen other) f =
    (knows_on history dealt owner j c n seen (λ speaks yes is. apart (sym (f.0.1 speaks).1 ∙ (ap owner (sym is) ∙ own))) f.0, beginning_on other history c f.1)
fits_on history keeper dealt owner c j apart own Gone f = tt

pub fits_set : (history : History) (keeper dealt : ℕ) (owner : ℕ → ℕ) (views : List Sight) (id : ℕ) (w : Sight) → ((j : ℕ) (u : Sight) → j ≢ id → get_elem? views j ≡ some u → FitsSeat history keeper dealt owner j u)
    → FitsSeat history keeper dealt owner id w → (j : ℕ) (u : Sight) → get_elem? (set views id w) j ≡ some u → FitsSeat history keeper dealt owner j u
fits_set history keeper dealt owner views id w others mine j u e =
    ⊎_elim
    (λ (x : (j ≡ id) × (w ≡ u)). subst (λ (y : ℕ × Sight). FitsSeat history keeper dealt owner y.0 y.1) (λ i. (sym x.0 i, x.1 i)) mine)
    (λ (x : (j ≢ id) × (get_elem? views j ≡ some u)). others j u x.0 x.1)
    (at_set views id j w u e)

-- the sitting of the one session, after its step
noted : (history : History) (dealt : ℕ) (owner : ℕ → ℕ) (id : ℕ) (c : Step) (hist : History) (n : ℕ) (seen : History) → hist ≡ history → (b : Bool) → counts c.reply ≡ b → Knows history dealt owner id n seen
    → Knows (c ∷ history) dealt owner id n (cond b (c ∷ hist) seen)
noted history dealt owner id c hist n seen same true e k =
    let whole : c ∷ hist ≡ c ∷ history = ap (λ l. c ∷ l) same in
    (subst (λ (l : History). IsBeginning l (c ∷ history)) (sym whole) (beginning_self (c ∷ history)), λ own. let o = k.1 own in (o.0, o.1, ap (calls_of n) (sym whole)))
noted history dealt owner id c hist n seen same false e k = knows_on history dealt owner id c n seen (λ own yes. absurd (true≢false (sym yes ∙ e))) k

guests_on : (history : History) (dealt : ℕ) (owner : ℕ → ℕ) (id : ℕ) (c : Step) (hist : History) → hist ≡ history → (guests : List Sitting) → ((k : ℕ) (x : Sitting) → get_elem? guests k ≡ some x → Knows history dealt owner id x.number x.seen)
    → (k : ℕ) (x : Sitting) → get_elem? (guests_after c hist guests) k ≡ some x → Knows (c ∷ history) dealt owner id x.number x.seen
guests_on history dealt owner id c hist same [] f k x e = absurd (some-ne-none x (sym e))
guests_on history dealt owner id c hist same (y ∷ ys) f zero x e =
    subst (λ (z : Sitting). Knows (c ∷ history) dealt owner id z.number z.seen) (some-injective _ _ e) (noted history dealt owner id c hist y.number y.seen same (counts c.reply) refl (f 0 y refl))
guests_on history dealt owner id c hist same (y ∷ ys) f (suc k) x e = absurd (some-ne-none x (sym e))

-- whose step it is
asked : (history : History) (dealt : ℕ) (owner : ℕ → ℕ) (id : ℕ) (c : Step) (guests : List Sitting) → IsStepOfGuest c guests → ((k : ℕ) (x : Sitting) → get_elem? guests k ≡ some x → Knows history dealt owner id x.number x.seen)
    → owner (session_of c.event) ≡ id
asked history dealt owner id c [] a f = absurd a
asked history dealt owner id c (x ∷ []) a f = ap owner a.1 ∙ ((f 0 x refl).1 a.0).1
asked history dealt owner id c (x ∷ y ∷ ys) a f = absurd a

knew : (history : History) (dealt : ℕ) (owner : ℕ → ℕ) (id : ℕ) (hist : History) → hist ≡ history → (guests : List Sitting) → ((k : ℕ) (x : Sitting) → get_elem? guests k ≡ some x → Knows history dealt owner id x.number x.seen)
    → KnewFirst hist guests
knew history dealt owner id hist same [] f = tt
knew history dealt owner id hist same (x ∷ xs) f =
    let k = f 0 x refl in (subst (λ (l : History). IsBeginning x.seen l) (sym same) k.0, λ own. ap (calls_of x.number) same ∙ (k.1 own).2)

none_apart : AreGuestsApart []
none_apart i j x y e = absurd (some-ne-none x (sym e))

noted_apart : (c : Step) (hist : History) (guests : List Sitting) → AreGuestsApart (guests_after c hist guests)
noted_apart c hist [] i j x y e f pos same = absurd (some-ne-none x (sym e))
noted_apart c hist (n ∷ ns) zero zero x y e f pos same = refl
noted_apart c hist (n ∷ ns) zero (suc j) x y e f pos same = absurd (some-ne-none y (sym f))
noted_apart c hist (n ∷ ns) (suc i) j x y e f pos same = absurd (some-ne-none x (sym e))

-- one more, of a number that none of them is of
more_apart : (guests : List Sitting) (m : Sitting) → AreGuestsApart guests → ((k : ℕ) (x : Sitting) → get_elem? guests k ≡ some x → Speaks x.number → x.number ≢ m.number) → AreGuestsApart (m ∷ guests)
more_apart guests m apart other zero zero x y e f pos same = refl
more_apart guests m apart other zero (suc j) x y e f pos same = absurd (other j y f (subst Speaks same pos) (sym same ∙ sym (ap (λ (n : Sitting). n.number) (some-injective _ _ e))))
more_apart guests m apart other (suc i) zero x y e f pos same = absurd (other i x e pos (same ∙ sym (ap (λ (n : Sitting). n.number) (some-injective _ _ f))))
more_apart guests m apart other (suc i) (suc j) x y e f pos same = ap suc (apart i j x y e f pos same)

rest_apart : (x : Sitting) (xs : List Sitting) → AreGuestsApart (x ∷ xs) → AreGuestsApart xs
rest_apart x xs apart i j a b e f pos same = let t = apart (suc i) (suc j) a b e f pos same in omega (arith, t)

module _ (st : Setting) (id : ℕ) (hist : History) (dealt : ℕ) where
  pub applies : (guests : List Sitting) (said : Step) (slots old new : ℕ) → IsStepOfGuest (said_step said) guests → IsLegalHistory st (said_step said ∷ hist) → old ≡ length (log_of hist) → new ≡ length (log_of (said_step said ∷ hist))
      → Allows (HasOneHistory {S = Step} st) slots id (Whole hist dealt guests, []) 0 (λ n. either (n == old) new n) (Applied (step slots 0 old new (some said)) (Whole hist dealt guests, []))
  applies guests said slots old new whose legal before after s r _ at _ =
      let c : Step = said_step said in
      let mine = r.each id (Whole hist dealt guests) at in
      let n : ℕ = slice_index s.words 0 in
      let first : n ≡ old = ap (λ l. slice_index l 0) r.words ∙ (ap (λ l. length (log_of l)) (sym mine.1) ∙ sym before) in
      let becomes : either (n == old) new n ≡ length (log_of (c ∷ r.history)) = ap (λ (b : Bool). either b new n) (eq-eqb n old first) ∙ (after ∙ ap (λ l. length (log_of (c ∷ l))) mine.1) in
      let w : Sight = Whole (c ∷ hist) dealt (guests_after c hist guests) in
      let own : r.owner (session_of c.event) ≡ r.keeper = asked r.history r.dealt r.owner id c guests whose mine.3 ∙ mine.0 in (
        w,
        keeps,
        tt,
        record {
          history = c ∷ r.history;
          keeper = r.keeper;
          dealt = r.dealt;
          owner = r.owner;
          legal = subst (λ (l : History). IsLegalHistory st (c ∷ l)) mine.1 legal;
          words = ap (λ l. set l 0 (either (n == old) new n)) r.words ∙ (λ i. becomes i ∷ []);
          spare = r.spare;
          each = fits_set (c ∷ r.history) r.keeper r.dealt r.owner s.views id w
              (λ j u apart e. fits_on r.history r.keeper r.dealt r.owner c j (λ is. apart (is ∙ sym mine.0)) own u (r.each j u e))
              (mine.0, ap (λ l. c ∷ l) mine.1, mine.2, guests_on r.history r.dealt r.owner id c hist mine.1 guests mine.3, noted_apart c hist guests);
        },
        (refl, knew r.history r.dealt r.owner id hist mine.1 guests mine.3),
      )

  pub compares : (guests : List Sitting) (slots : ℕ) → Allows (HasOneHistory {S = Step} st) slots id (Whole hist dealt guests, []) 0 (λ n. n) (Compared (step slots 0 0 0 none) (Whole hist dealt guests, []))
  compares guests slots s r _ at _ =
      let mine = r.each id (Whole hist dealt guests) at in
      let n : ℕ = slice_index s.words 0 in
      let first : n ≡ length (log_of r.history) = ap (λ l. slice_index l 0) r.words in (
        Whole hist dealt guests,
        keeps,
        tt,
        record {
          history = r.history;
          keeper = r.keeper;
          dealt = r.dealt;
          owner = r.owner;
          legal = r.legal;
          words = ap (λ l. set l 0 n) r.words ∙ (λ i. first i ∷ []);
          spare = r.spare;
          each = subst (λ (vs : List Sight). (j : ℕ) (u : Sight) → get_elem? vs j ≡ some u → FitsSeat r.history r.keeper r.dealt r.owner j u) (sym (set_again s.views id (Whole hist dealt guests) at)) r.each;
        },
        (
          refl,
          (λ k x e. let f = mine.3 k x e in (subst (λ (l : History). IsBeginning x.seen l) (sym mine.1) f.0, λ own. ap (calls_of x.number) mine.1 ∙ (f.1 own).2), mine.4),
        ),
      )

-- what others know stays when n's seat changes
fits_turn : (history : History) (keeper dealt : ℕ) (owner : ℕ → ℕ) (n old new : ℕ) → (Speaks n → owner n ≡ old) → (j : ℕ) → j ≢ old → j ≢ keeper → (v : Sight) → FitsSeat history keeper dealt owner j v
    → FitsSeat history keeper dealt (turned owner n new) j v
fits_turn history keeper dealt owner n old new own j apart other (Whole hist g guests) f = absurd (other f.0)
fits_turn history keeper dealt owner n old new own j apart other (Front m seen) f =
    (f.0, λ speaks. let o = f.1 speaks in (o.0, turned_other owner n new m (λ e. apart (sym o.1 ∙ (ap owner e ∙ own (subst Speaks e speaks)))) ∙ o.1, o.2))
fits_turn history keeper dealt owner n old new own j apart other (Beside m seen w) f =
    ((f.0.0, λ speaks. let o = f.0.1 speaks in (o.0, turned_other owner n new m (λ e. apart (sym o.1 ∙ (ap owner e ∙ own (subst Speaks e speaks)))) ∙ o.1, o.2)), f.1)
fits_turn history keeper dealt owner n old new own j apart other Gone f = tt

more_dealt : (history : History) (keeper dealt : ℕ) (owner : ℕ → ℕ) (j new : ℕ) → j ≢ keeper → (u : Sight) → FitsSeat history keeper dealt owner j u → FitsSeat history keeper (suc dealt) (turned owner dealt new) j u
more_dealt history keeper dealt owner j new apart (Whole hist g guests) f = absurd (apart f.0)
more_dealt history keeper dealt owner j new apart (Front n seen) f =
    (f.0, λ speaks. let o = f.1 speaks in let low = o.0 in (omega (arith, low), turned_other owner dealt new n (λ e. absurd (omega (arith, low, e))) ∙ o.1, o.2))
more_dealt history keeper dealt owner j new apart (Beside n seen other) f =
    ((f.0.0, λ speaks. let o = f.0.1 speaks in let low = o.0 in (omega (arith, low), turned_other owner dealt new n (λ e. absurd (omega (arith, low, e))) ∙ o.1, o.2)), f.1)
more_dealt history keeper dealt owner j new apart Gone f = tt

module _ {S : Type 0} (st : Setting) where
  pub begins : (homes : List (Option S)) → HasOneHistory {S = S} st (record { words = 0 ∷ []; homes = homes; views = Whole [] 0 [] ∷ [] })
  begins homes = record {
    history = [];
    keeper = 0;
    dealt = 0;
    owner = λ _. 0;
    legal = tt;
    words = refl;
    spare = λ n lt own. refl;
    each = fits_set [] 0 0 (λ _. 0) (Whole [] 0 [] ∷ []) 0 (Whole [] 0 []) other (refl, refl, refl, (λ k x e. absurd (some-ne-none x (sym e))), none_apart);
  }
    where
      other : (j : ℕ) (u : Sight) → j ≢ 0 → get_elem? (Whole [] 0 [] ∷ []) j ≡ some u → FitsSeat [] 0 0 (λ _. 0) j u
      other zero u apart e = absurd (apart refl)
      other (suc j) u apart e = absurd (some-ne-none u (sym e))

  -- the next seat is dealt, before the first call
  pub deals : (id dealt : ℕ) → Speaks dealt → Splits (HasOneHistory {S = S} st) id (Whole [] dealt []) (after_dealing (Whole [] dealt [])) (new_front (Whole [] dealt []))
  deals id dealt speaks s r at =
      let mine = r.each id (Whole [] dealt []) at in
      let left : Sight = Whole [] (dealt + 1) [] in
      let right : Sight = Front dealt [] in
      let new : ℕ = length (set s.views id left) in
      let owner' : ℕ → ℕ = turned r.owner r.dealt new in
      let next : dealt + 1 ≡ suc r.dealt = (let e = mine.2 in omega arith) in record {
        history = r.history;
        keeper = r.keeper;
        dealt = suc r.dealt;
        owner = owner';
        legal = r.legal;
        words = r.words;
        spare = λ n lt own. turned_other r.owner r.dealt new n (λ e. absurd (omega (arith, lt, e))) ∙ r.spare n (omega (arith, lt)) own;
        each = λ j u e.
            ⊎_elim (fits_set r.history r.keeper (suc r.dealt) owner' s.views id left (λ i v apart e'. more_dealt r.history r.keeper r.dealt r.owner i new (λ is. apart (is ∙ sym mine.0)) v (r.each i v e'))
            (mine.0, mine.1, next, (λ k x e'. absurd (some-ne-none x (sym e'))), none_apart) j u)
            (λ (t : (j ≡ new) × (right ≡ u)). subst (λ (y : ℕ × Sight). FitsSeat r.history r.keeper (suc r.dealt) owner' y.0 y.1) (λ i. (sym t.0 i, t.1 i))
            (beginning_none r.history, λ own. (let e = mine.2 in omega (arith, e), ap owner' mine.2 ∙ turned_same r.owner r.dealt new, ap (calls_of dealt) (sym mine.1))))
            (at_last (set s.views id left) right u j e);
      }

  -- a seat is taken in
  pub enters : (id : ℕ) (hist : History) (dealt : ℕ) (guests : List Sitting) (other n : ℕ) (seen : History)
      → Joins (HasOneHistory {S = S} st) id (Whole hist dealt guests) other (Front n seen) (with_guest (Whole hist dealt guests) (Front n seen)) Gone
  enters id hist dealt guests other n seen s r at apart there =
      let both : Sight = Whole hist dealt (sitting n seen ∷ guests) in
      let mine = r.each id (Whole hist dealt guests) at in
      let theirs = ⊎_elim (λ (t : (other ≡ id) × (both ≡ Front n seen)). absurd (apart t.0)) (λ (t : (other ≢ id) × (get_elem? s.views other ≡ some (Front n seen))). r.each other (Front n seen) t.1) (at_set s.views id other both (Front n seen) there) in
      let owner' : ℕ → ℕ = turned r.owner n id in record {
        history = r.history;
        keeper = r.keeper;
        dealt = r.dealt;
        owner = owner';
        legal = r.legal;
        words = r.words;
        spare = λ m lt own. turned_other r.owner n id m (λ e. let low = (theirs.1 (subst Speaks e own)).0 in absurd (omega (arith, lt, e, low))) ∙ r.spare m lt own;
        each = λ j u e.
            ⊎_elim (λ (t : (j ≡ other) × (Gone ≡ u)). subst (λ (y : Sight). FitsSeat r.history r.keeper r.dealt owner' j y) t.1 tt)
            (λ (t : (j ≢ other) × (get_elem? (set s.views id both) j ≡ some u)).
            ⊎_elim (λ (z : (j ≡ id) × (both ≡ u)). subst (λ (y : ℕ × Sight). FitsSeat r.history r.keeper r.dealt owner' y.0 y.1) (λ i. (sym z.0 i, z.1 i))
            (mine.0, mine.1, mine.2, one_more r.history r.dealt r.owner guests mine.3 theirs, more_apart guests (sitting n seen) mine.4 (λ k x e' pos is. apart (sym (theirs.1 (subst Speaks is pos)).1 ∙ (ap r.owner (sym is) ∙ ((mine.3 k x e').1 pos).1)))))
            (λ (z : (j ≢ id) × (get_elem? s.views j ≡ some u)). fits_turn r.history r.keeper r.dealt r.owner n other id (λ own. (theirs.1 own).1) j t.0 (λ is. z.0 (is ∙ sym mine.0)) u (r.each j u z.1))
            (at_set s.views id j both u t.1))
            (at_set (set s.views id both) other j Gone u e);
      }
    where
      one_more : (history : History) (dealt : ℕ) (owner : ℕ → ℕ) (guests : List Sitting) → ((k : ℕ) (x : Sitting) → get_elem? guests k ≡ some x → Knows history dealt owner id x.number x.seen) → Knows history dealt owner other n seen
          → (k : ℕ) (x : Sitting) → get_elem? (sitting n seen ∷ guests) k ≡ some x → Knows history dealt (turned owner n id) id x.number x.seen
      one_more history dealt owner guests f s zero x e = subst (λ (y : Sitting). Knows history dealt (turned owner n id) id y.number y.seen) (some-injective _ _ e) (s.0, λ own. let o = s.1 own in (o.0, turned_same owner n id, o.2))
      one_more history dealt owner guests f s (suc k) x e = let g = f k x e in (g.0, λ own. let o = g.1 own in (o.0, turned_either owner id n x.number o.1, o.2))

  -- it leaves again
  pub leaves : (id : ℕ) (hist : History) (dealt : ℕ) (x : Sitting) (xs : List Sitting) → Splits (HasOneHistory {S = S} st) id (Whole hist dealt (x ∷ xs)) (parted (Whole hist dealt (x ∷ xs))) (left_out (Whole hist dealt (x ∷ xs)))
  leaves id hist dealt x xs s r at =
      let mine = r.each id (Whole hist dealt (x ∷ xs)) at in
      let left : Sight = Whole hist dealt xs in
      let right : Sight = Front x.number x.seen in
      let new : ℕ = length (set s.views id left) in
      let k = mine.3 0 x refl in
      let owner' : ℕ → ℕ = turned r.owner x.number new in record {
        history = r.history;
        keeper = r.keeper;
        dealt = r.dealt;
        owner = owner';
        legal = r.legal;
        words = r.words;
        spare = λ m lt own. turned_other r.owner x.number new m (λ e. let low = (k.1 (subst Speaks e own)).0 in absurd (omega (arith, lt, e, low))) ∙ r.spare m lt own;
        each = λ j u e.
            ⊎_elim (fits_set r.history r.keeper r.dealt owner' s.views id left
            (λ i v apart e'. fits_turn r.history r.keeper r.dealt r.owner x.number id new (λ own. (k.1 own).1) i apart (λ is. apart (is ∙ sym mine.0)) v (r.each i v e')) (
              mine.0,
              mine.1,
              mine.2,
              (λ m y e'. let f = mine.3 (suc m) y e' in (f.0, λ own. let o = f.1 own in (o.0, turned_other r.owner x.number new y.number (λ is. let z = mine.4 (suc m) 0 y x e' refl own is in absurd (omega (arith, z))) ∙ o.1, o.2))),
              rest_apart x xs mine.4,
            ) j u)
            (λ (t : (j ≡ new) × (right ≡ u)). subst (λ (y : ℕ × Sight). FitsSeat r.history r.keeper r.dealt owner' y.0 y.1) (λ i. (sym t.0 i, t.1 i)) (k.0, λ own. let o = k.1 own in (o.0, turned_same r.owner x.number new, o.2)))
            (at_last (set s.views id left) right u j e);
      }

-- a seat that has seen the history so far
pub shows : {S : Type 0} (st : Setting) (id : ℕ) (hist : History) (dealt : ℕ) (guests : List Sitting) → Splits (HasOneHistory {S = S} st) id (Whole hist dealt guests) (emptied (Whole hist dealt guests)) (shown_out (Whole hist dealt guests))
shows {S} st id hist dealt guests s r at =
    let mine = r.each id (Whole hist dealt guests) at in
    let left : Sight = Whole hist dealt [] in
    let right : Sight = Front a_witness hist in record {
      history = r.history;
      keeper = r.keeper;
      dealt = r.dealt;
      owner = r.owner;
      legal = r.legal;
      words = r.words;
      spare = r.spare;
      each = λ j u e.
          ⊎_elim (fits_set r.history r.keeper r.dealt r.owner s.views id left (λ i v apart e'. r.each i v e') (mine.0, mine.1, mine.2, (λ m y e'. absurd (some-ne-none y (sym e'))), none_apart) j u)
          (λ (t : (j ≡ length (set s.views id left)) × (right ≡ u)). subst (λ (y : Sight). FitsSeat r.history r.keeper r.dealt r.owner j y) t.1
          (subst (λ (l : History). IsBeginning l r.history) (sym mine.1) (beginning_self r.history), λ own. absurd (own refl)))
          (at_last (set s.views id left) right u j e);
    }
