use Rattle.std.proofs.Common.{◌∷◌, [], ◌++◌, ap, sym, ◌∙◌}
use Rattle.pc_collapse.proofs.DealtFiles.{given_pair}
use Rattle.pc_collapse.proofs.rounds.give.Goals as goal

pub returns-clause-given : goal.returns-clause-given
returns-clause-given g c =
    given_pair c.args.all.now c.args.number c.index-all-number.result _ c.args.pair c.requires c.index-all-number.is
    (c.in_ok-push.ensures.items ∙ ap (λ hand. hand.pairs.items ++ c.args.pair ∷ []) (sym c.index-all-number.is))
