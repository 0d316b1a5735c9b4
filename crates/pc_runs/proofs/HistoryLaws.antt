-- The result of a closed store, as files that a legal history left.
use Rattle.std.proofs.Common.{◌≡◌, ℕ, List, [], ◌∷◌, ◌++◌, All, drop, length, refl, sym, subst}
use Rattle.std.proofs.lemmas.List.Elements.{All-nil, All-cons, All-head, All-tail}
use Rattle.pc_types.specs.declared.Entry.{Entry}
use Rattle.pc_model.specs.Files.{BaseFile, File}
use Rattle.pc_model.specs.History.{History}
use Rattle.pc_model.specs.Replies.{Setting}
use Rattle.pc_model.specs.Standing.{IsOfItsPoints}
use Rattle.pc_shared.specs.Sitters.{Sitter, IsLeftByStore}
use Rattle.pc_outcomes.specs.Leaving.{AreLeftAfter}

pub left_after : (st : Setting) (base : BaseFile) (log : List Entry) (logged : ℕ) (sessions : List Sitter) (seat : History) (tickets files : List File) (given : List Entry) → files ≡ tickets
    → (h : History) × IsLeftByStore st base log logged sessions seat tickets given h → (history : History) × AreLeftAfter st history base log files
left_after st base log logged sessions seat tickets files given same (h, left) =
    (h, record { legal = left.legal; start = left.base; log_is = left.log_is; worth = subst (All (IsOfItsPoints st.run st.base log)) (sym same) left.worth })

-- of some items and others, a fact of all is one of the first
pub first_ones : {X : Type 0} (P : X → Type 0) (xs ys : List X) → All P (xs ++ ys) → All P xs
first_ones P [] ys has = All-nil P
first_ones P (x ∷ xs) ys has = All-cons P x xs (All-head P x (xs ++ ys) has) (first_ones P xs ys (All-tail P x (xs ++ ys) has))

-- and after the first come the others
pub behind_first : {X : Type 0} (xs ys : List X) → drop (length xs) (xs ++ ys) ≡ ys
behind_first [] ys = refl
behind_first (x ∷ xs) ys = behind_first xs ys
