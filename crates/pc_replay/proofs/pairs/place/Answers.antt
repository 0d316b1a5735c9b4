use Rattle.std.proofs.Common.{rules}
use Rattle.std.proofs.lemmas.Fn.{always_returns_same}
use Rattle.pc_model.proofs.SearchLaws.{against, found_at, found_here, found_gap}
use Rattle.pc_replay.proofs.pairs.place.Goals as goal

-- the closure compares a pair's key with this one
pub returns-clause-at : goal.returns-clause-at
returns-clause-at g c =
    let searched = c.binary_search_by.ensures in
    found_at c.args.pairs.now c.args.key.now c.binary_search_by.result c.requires searched.bound (searched.position (against c.args.key.now) (always_returns_same _ _ _ (λ a r f' called. search rules)))

pub returns-clause-here : goal.returns-clause-here
returns-clause-here g c =
    let searched = c.binary_search_by.ensures in
    found_here c.args.pairs.now c.args.key.now c.binary_search_by.result (searched.position (against c.args.key.now) (always_returns_same _ _ _ (λ a r f' called. search rules)))

pub returns-clause-gap : goal.returns-clause-gap
returns-clause-gap g c =
    let searched = c.binary_search_by.ensures in
    found_gap c.args.pairs.now c.args.key.now c.binary_search_by.result c.requires searched.bound (searched.position (against c.args.key.now) (always_returns_same _ _ _ (λ a r f' called. search rules)))
