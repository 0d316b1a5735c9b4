use Rattle.std.proofs.Common.{rules}
use Rattle.std.proofs.lemmas.Fn.{always_returns_same}
use Rattle.pc_model.proofs.SearchLaws.{against, found_at, found_gap}
use Rattle.pc_taken.proofs.lists.place.Goals as goal

-- the closure compares an entry's key with this one
pub returns-clause-at : goal.returns-clause-at
returns-clause-at c =
    let searched = c.binary_search_by.ensures in
    found_at c.args.entries.now c.args.key.now c.binary_search_by.result c.requires searched.bound (searched.position (against c.args.key.now) (always_returns_same _ _ _ (λ a r f' called. search rules)))

pub returns-clause-gap : goal.returns-clause-gap
returns-clause-gap c =
    let searched = c.binary_search_by.ensures in
    found_gap c.args.entries.now c.args.key.now c.binary_search_by.result c.requires searched.bound (searched.position (against c.args.key.now) (always_returns_same _ _ _ (λ a r f' called. search rules)))
