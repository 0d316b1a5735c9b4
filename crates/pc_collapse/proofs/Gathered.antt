-- A collapser's hand is given back.
use Rattle.std.proofs.Common.{◌≡◌, List, [], ◌∷◌, Option, Some, None, refl, sym, ap, subst, ◌∙◌}
use Rattle.std.specs.Prelude.{All, IfSome}
use Rattle.std.specs.Option.{option_or}
use Rattle.std.proofs.lemmas.List.Elements.{All-head, All-tail}
use Rattle.pc_types.specs.declared.Refusal.{Refusal}
use Rattle.pc_collapse.specs.declared.bag.BagCollapser.{BagCollapser}
use Rattle.pc_collapse.specs.Bags.{first_kept}

module _ {C : Type 0} (P : C → Type 0) (xs : List C) (c : C) (ys : List C) (all : All P xs) (is : xs ≡ c ∷ ys) where
  pub first_of : P c
  first_of = All-head P c ys (subst (All P) is all)

  pub others_of : All P ys
  others_of = All-tail P c ys (subst (All P) is all)

pub either : (P : Refusal → Type 0) (a b : Option Refusal) → IfSome a P → IfSome b P → IfSome (option_or a b) P
either P None b p q = q
either P (Some x) b p q = p

or_assoc : (a b c : Option Refusal) → option_or (option_or a b) c ≡ option_or a (option_or b c)
or_assoc None b c = refl
or_assoc (Some x) b c = refl

or_none : (a : Option Refusal) → option_or a None ≡ a
or_none None = refl
or_none (Some x) = refl

-- what was kept so far, and by those that are left
pub kept_on : {G : Type 0} (kept later first : Option Refusal) (xs ys : List (BagCollapser G)) (c : BagCollapser G) → option_or kept (first_kept xs) ≡ first → xs ≡ c ∷ ys → later ≡ option_or kept c.refused → option_or later (first_kept ys) ≡ first
kept_on kept later first xs ys c was is next =
    ap (λ (o : Option Refusal). option_or o (first_kept ys)) next ∙ (or_assoc kept c.refused (first_kept ys) ∙ (ap (λ l. option_or kept (first_kept l)) (sym is) ∙ was))

pub kept_all : {G : Type 0} (kept first : Option Refusal) (xs : List (BagCollapser G)) → option_or kept (first_kept xs) ≡ first → xs ≡ [] → kept ≡ first
kept_all kept first xs was none = sym (or_none kept) ∙ (ap (λ l. option_or kept (first_kept l)) (sym none) ∙ was)

-- what is said of the one that was kept, if one was
pub kept_is : (P : Refusal → Type 0) (given kept : Option Refusal) (why : Refusal) → given ≡ kept → given ≡ Some why → P why → IfSome kept P
kept_is P given kept why is some holds = subst (λ (o : Option Refusal). IfSome o P) (sym some ∙ is) holds

pub none_kept : (P : Refusal → Type 0) (given kept : Option Refusal) → given ≡ kept → given ≡ None → IfSome kept P
none_kept P given kept is none = subst (λ (o : Option Refusal). IfSome o P) (sym none ∙ is) tt
