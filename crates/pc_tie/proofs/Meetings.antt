-- A seat and a witness meet: what the steps ask and tell.
use Rattle.std.proofs.Common.{◌≡◌, ◌≢◌, ℕ, List, [], ◌∷◌, length, set, refl, ap, sym, ◌∙◌, subst, ⊎_elim}
use Rattle.std.specs.Prelude.{slice_index}
use mathlib.Core.Option.{none, some}
use lib.ListN.{get_elem?}
use Rattle.atomic_table.specs.Table.{Me, step, keeps, Allows, Splits, Joins}
use Rattle.atomic_table.specs.Seated.{TableId}
use Rattle.atomic_table.specs.declared.badge.Badge.{Badge}
use Rattle.atomic_table.proofs.Lists.{at_set, set_again}
use Rattle.pc_types.specs.declared.Step.{Step}
use Rattle.pc_model.specs.History.{History, log_of}
use Rattle.pc_model.specs.Replies.{Setting}
use Rattle.pc_tie.specs.declared.sight.Sight.{Sight}
use Rattle.pc_tie.specs.declared.sight.Sight.TheVariants.{Front, Beside, Gone}
use Rattle.pc_tie.specs.Rules.{a_witness, sitting, FitsSeat, HasOneHistory, beside, alone, witness_out, Met}
use Rattle.pc_tie.specs.Seats.{IsSeatAt, seat_of, sitting_in}
use Rattle.pc_tie.proofs.Owners.{at_last}
use Rattle.pc_tie.proofs.Steps.{fits_set}
use Rattle.pc_tie.proofs.Visits.{front_in}

module _ {S : Type 0} (st : Setting) (id n : ℕ) (seen w : History) where
  -- the witness is taken in
  pub comes : (other : ℕ) → Joins (HasOneHistory {S = S} st) id (Front n seen) other (Front a_witness w) (Beside n seen w) Gone
  comes other s r at apart there =
      let both : Sight = Beside n seen w in
      let mine = r.each id (Front n seen) at in
      let theirs = ⊎_elim (λ (t : (other ≡ id) × (both ≡ Front a_witness w)). absurd (apart t.0)) (λ (t : (other ≢ id) × (get_elem? s.views other ≡ some (Front a_witness w))). r.each other (Front a_witness w) t.1) (at_set s.views id other both (Front a_witness w) there) in record {
        history = r.history;
        keeper = r.keeper;
        dealt = r.dealt;
        owner = r.owner;
        legal = r.legal;
        words = r.words;
        spare = r.spare;
        each = λ j u e.
            ⊎_elim (λ (t : (j ≡ other) × (Gone ≡ u)). subst (λ (y : Sight). FitsSeat r.history r.keeper r.dealt r.owner j y) t.1 tt)
            (λ (t : (j ≢ other) × (get_elem? (set s.views id both) j ≡ some u)). fits_set r.history r.keeper r.dealt r.owner s.views id both (λ i v away e'. r.each i v e') (mine, theirs.0) j u t.1)
            (at_set (set s.views id both) other j Gone u e);
      }

  -- and goes again
  pub goes : Splits (HasOneHistory {S = S} st) id (Beside n seen w) (Front n seen) (Front a_witness w)
  goes s r at =
      let mine = r.each id (Beside n seen w) at in
      let left : Sight = Front n seen in
      let right : Sight = Front a_witness w in record {
        history = r.history;
        keeper = r.keeper;
        dealt = r.dealt;
        owner = r.owner;
        legal = r.legal;
        words = r.words;
        spare = r.spare;
        each = λ j u e.
            ⊎_elim (fits_set r.history r.keeper r.dealt r.owner s.views id left (λ i v away e'. r.each i v e') mine.0 j u)
            (λ (t : (j ≡ length (set s.views id left)) × (right ≡ u)). subst (λ (y : Sight). FitsSeat r.history r.keeper r.dealt r.owner j y) t.1 (mine.1, λ own. absurd (own refl)))
            (at_last (set s.views id left) right u j e);
      }

-- both are looked at
pub looks : (st : Setting) (id n : ℕ) (seen w : History) (slots : ℕ) → Allows (HasOneHistory {S = Step} st) slots id (Beside n seen w, []) 0 (λ k. k) (Met (step slots 0 0 0 none) (Beside n seen w, []))
looks st id n seen w slots s r _ at _ =
    let mine = r.each id (Beside n seen w) at in
    let k : ℕ = slice_index s.words 0 in
    let first : k ≡ length (log_of r.history) = ap (λ l. slice_index l 0) r.words in (
      Beside n seen w,
      keeps,
      tt,
      record {
        history = r.history;
        keeper = r.keeper;
        dealt = r.dealt;
        owner = r.owner;
        legal = r.legal;
        words = ap (λ l. set l 0 k) r.words ∙ (λ i. first i ∷ []);
        spare = r.spare;
        each = subst (λ (vs : List Sight). (j : ℕ) (u : Sight) → get_elem? vs j ≡ some u → FitsSeat r.history r.keeper r.dealt r.owner j u) (sym (set_again s.views id (Beside n seen w) at)) r.each;
      },
      (refl, (r.history, mine.0.0, mine.1)),
    )

-- the same of seats that know just that
module _ {S : Type 0} (st : Setting) (id n : ℕ) (seen w : History) where
  pub comes_at : (v : Sight) (other : ℕ) (u : Sight) → v ≡ Front n seen → u ≡ Front a_witness w → Joins (HasOneHistory {S = S} st) id v other u (beside v u) Gone
  comes_at v other u is there = subst (λ (y : Sight × Sight). Joins (HasOneHistory {S = S} st) id y.0 other y.1 (beside y.0 y.1) Gone) (λ k. (sym is k, sym there k)) (comes st id n seen w other)

  pub goes_at : (v : Sight) → v ≡ Beside n seen w → Splits (HasOneHistory {S = S} st) id v (alone v) (witness_out v)
  goes_at v is = subst (λ (y : Sight). Splits (HasOneHistory {S = S} st) id y (alone y) (witness_out y)) (sym is) (goes st id n seen w)

pub looks_at : (st : Setting) (id n : ℕ) (seen w : History) (me : Me Step Sight) (slots : ℕ) → me ≡ (Beside n seen w, []) → Allows (HasOneHistory {S = Step} st) slots id me 0 (λ k. k) (Met (step slots 0 0 0 none) me)
looks_at st id n seen w me slots is = subst (λ (m : Me Step Sight). Allows (HasOneHistory {S = Step} st) slots id m 0 (λ k. k) (Met (step slots 0 0 0 none) m)) (sym is) (looks st id n seen w slots)

-- the seat of a badge is at the word, and knows what the badge tells
pub stands : (b own : Badge Sight) (table id : TableId) (v : Sight) → b ≡ own → IsSeatAt table own → id ≡ b.table_id → b.views ≡ v ∷ [] → (id ≡ table) × (v ≡ Front (seat_of own).number (seat_of own).seen)
stands b own table id v same at is views = (is ∙ (ap (λ (x : Badge Sight). x.table_id) same ∙ at.0), front_in own.views _ v at.1 (sym (ap (λ (x : Badge Sight). x.views) same) ∙ views))

-- the knowledge of the seat that is compared with the witness
pub together : (v u : Sight) (slots : List (ℕ × Step)) (me : Me Step Sight) (n : ℕ) (seen w : History) → v ≡ Front n seen → u ≡ Front a_witness w → slots ≡ [] → me ≡ (beside v u, slots) → me ≡ (Beside n seen w, [])
together v u slots me n seen w is there free e = e ∙ (λ k. (beside (is k) (there k), free k))

-- and what the badge of a seat knows that comes back
pub back : (views : List Sight) (v : Sight) (n : ℕ) (seen : History) → views ≡ v ∷ [] → v ≡ Front n seen → (views ≡ Front (sitting_in views).number (sitting_in views).seen ∷ []) × (sitting_in views ≡ sitting n seen)
back views v n seen one is = subst (λ (vs : List Sight). (vs ≡ Front (sitting_in vs).number (sitting_in vs).seen ∷ []) × (sitting_in vs ≡ sitting n seen)) (sym (one ∙ ap (λ (x : Sight). x ∷ []) is)) (refl, refl)
