use Rattle.std.proofs.Common.{◌≡◌, refl, ap, sym, Option, Some, None, is_some, ◌∙◌}
use denote.Bor.{Bor}
use Rattle.std.specs.Option.{option_copied}
use Rattle.pc_model.specs.Maps.{get}
use Rattle.pc_replay.proofs.TreeLemmas.{get-tree}
use Rattle.pc_pairs.proofs.gathered.Gathered.has.Goals as goal

lent : {A : Type 0} (o : Option (Bor A)) → is_some o ≡ is_some (option_copied o)
lent None = refl
lent (Some x) = refl

pub returns : goal.returns
returns c =
    c.is_some.ensures ∙ lent c.get.result ∙ ap is_some (c.get.ensures.value ∙ sym (ap (λ db. get db c.args.key.now) (sym c.self.view_is) ∙ get-tree c.self.inside.pairs c.args.key.now))
