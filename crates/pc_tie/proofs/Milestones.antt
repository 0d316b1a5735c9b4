-- The seat of a witness, on its way to a milestone and back.
use Rattle.std.proofs.Common.{◌≡◌, ◌∷◌, [], List, ℕ, refl, ap, sym, ◌∙◌, subst}
use Rattle.pc_types.specs.declared.Step.{Step}
use Rattle.pc_model.specs.History.{History}
use Rattle.atomic_table.specs.Table.{Me}
use Rattle.pc_tie.specs.declared.sight.Sight.{Sight}
use Rattle.pc_tie.specs.declared.sight.Sight.TheVariants.{Front}
use Rattle.pc_tie.specs.Rules.{a_witness, hist_of}
use Rattle.pc_tie.specs.Seats.{sitting_in}
use Rattle.pc_tie.proofs.Visits.{only}

-- what the seat of a witness's badge knows
module _ (views : List Sight) (sight : Sight) (one : views ≡ sight ∷ []) where
  pub is_front : views ≡ Front (sitting_in views).number (sitting_in views).seen ∷ [] → (sitting_in views).number ≡ a_witness → sight ≡ Front a_witness (hist_of sight)
  is_front front number =
      let seen : History = (sitting_in views).seen in
      let is : sight ≡ Front a_witness seen = only sight (Front (sitting_in views).number seen) (sym one ∙ front) ∙ ap (λ (n : ℕ). Front n seen) number in
      is ∙ ap (Front a_witness) (sym (ap hist_of is))

  pub has_seen : hist_of sight ≡ (sitting_in views).seen
  has_seen = ap (λ (vs : List Sight). (sitting_in vs).seen) (sym one)

  pub is_that_of : (rests : Sight) → views ≡ Front (sitting_in views).number (sitting_in views).seen ∷ [] → (sitting_in views).number ≡ a_witness → rests ≡ Front a_witness (hist_of rests) → (sitting_in views).seen ≡ hist_of rests → sight ≡ rests
  is_that_of rests front number stands same = is_front front number ∙ (ap (Front a_witness) (has_seen ∙ same) ∙ sym stands)

-- what a badge knows whose seat has been there
pub lifted : (views : List Sight) (sight rests : Sight) → views ≡ sight ∷ [] → sight ≡ rests → rests ≡ Front a_witness (hist_of rests)
    → (views ≡ Front (sitting_in views).number (sitting_in views).seen ∷ []) × ((sitting_in views).number ≡ a_witness) × ((sitting_in views).seen ≡ hist_of rests)
lifted views sight rests one same stands =
    let is : views ≡ Front a_witness (hist_of rests) ∷ [] = one ∙ ap (λ (s : Sight). s ∷ []) (same ∙ stands) in
    subst (λ (vs : List Sight). (vs ≡ Front (sitting_in vs).number (sitting_in vs).seen ∷ []) × ((sitting_in vs).number ≡ a_witness) × ((sitting_in vs).seen ≡ hist_of rests)) (sym is) (refl, refl, refl)

-- a seat's sight and that it holds no slot
pub seat_is : (me : Me Step Sight) (rests : Sight) → me.0 ≡ rests → me.1 ≡ [] → me ≡ (rests, [])
seat_is me rests first none = λ k. (first k, none k)
