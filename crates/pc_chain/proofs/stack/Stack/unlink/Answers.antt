use Rattle.std.proofs.Common.{◌∷◌, ap, refl, sym, ◌∙◌, Some}
use Rattle.pc_chain.proofs.ChainLemmas.{avoids_last, has_it, has_last}
use Rattle.pc_chain.proofs.StackLemmas.{first_unlinked, later_unlinked, stack_apart}
use Rattle.pc_chain.proofs.stack.Stack.unlink.Goals as goal

pub next-next-requires : goal.next-next-requires
next-next-requires g c = let h = c.requires.stands in has_it _ h.0 h.1 c.args.id h.2.held

pub set_next-requires : goal.set_next-requires
set_next-requires g c = let h = c.requires.stands in has_last _ h.0 (c.args.id ∷ h.1) c.in-Some.previous h.2.held (sym c.in-Some.is ∙ c.before-2.ensures h.0 h.1 h.2)

pub returns-in-None-clause-taken : goal.returns-in-None-clause-taken
returns-in-None-clause-taken g c = record {
  list = λ before rest s. first_unlinked _ _ _ _ before rest c.args.id (sym c.in-None.is ∙ c.before-2.ensures before rest s) s c.next-next.ensures;
  links = λ before rest other s a. refl;
  others = λ before rest ys other s t a. t;
}

pub returns-in-Some-clause-taken : goal.returns-in-Some-clause-taken
returns-in-Some-clause-taken g c = record {
  list = λ before rest s.
      later_unlinked _ _ _ _ _ _ before rest c.args.id c.in-Some.previous (sym c.in-Some.is ∙ c.before-2.ensures before rest s) s c.set_next.ensures.has (c.set_next.ensures.set ∙ c.next-next.ensures) c.set_next.ensures.others refl;
  links = λ before rest other s a. c.set_next.ensures.others other (λ e. avoids_last other before a (sym (sym c.in-Some.is ∙ c.before-2.ensures before rest s) ∙ ap Some (sym e)));
  others = λ before rest ys other s t a.
      stack_apart _ _ _ _ other before (c.args.id ∷ rest) ys c.in-Some.previous (sym c.in-Some.is ∙ c.before-2.ensures before rest s) c.set_next.ensures.has c.set_next.ensures.others t a;
}
