use Rattle.std.proofs.Common.{refl, sym, ◌∙◌}
use Rattle.pc_chain.proofs.ChainLemmas.{have_last, if_some, avoids_last, first_push, link_after_push, chain_after_push, other_after_push}
use Rattle.pc_chain.proofs.chain.Chain.push_back.Goals as goal

pub link-requires : goal.link-requires
link-requires g c =
    let h = c.requires.stands in
    if_some _ c.args.self.now.last (λ x e. c.set_next.ensures.has x (have_last _ h.0 x h.1.held (sym h.1.last ∙ e)))

pub returns-clause-added : goal.returns-clause-added
returns-clause-added g c = record {
  list = λ xs s a.
      chain_after_push _ _ _ _ _ c.args.self.now _ xs c.args.id s a c.requires.has (λ x h. c.link.ensures.has x (c.set_next.ensures.has x h)) c.set_next.ensures.set c.set_next.ensures.others c.link.ensures.sets (c.or-self.ensures ∙ first_push xs c.args.id c.args.self.now.first s.first) refl;
  links = λ xs other s a n. link_after_push _ _ _ c.args.self.now xs c.args.id other s.last c.set_next.ensures.others c.link.ensures.sets n (avoids_last other xs a);
  others = λ xs ys other s t p a. other_after_push _ _ _ _ _ c.args.self.now other xs ys c.args.id s t p a (λ x h. c.link.ensures.has x (c.set_next.ensures.has x h)) c.set_next.ensures.others c.link.ensures.sets;
}

pub returns-clause-beside : goal.returns-clause-beside
returns-clause-beside g c = g.met.L.Links.beside_then _ _ _ c.set_next.ensures.beside c.link.ensures.beside
