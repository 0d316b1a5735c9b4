use Rattle.std.proofs.Common.{rules}
use Rattle.std.proofs.lemmas.Fn.{always_returns_same}
use Rattle.pc_model.specs.Database.{key_cmp}
use Rattle.pc_txn.specs.Orders.{key_at_position}
use Rattle.pc_txn.specs.Sets.{read_keys}
use Rattle.pc_txn.proofs.Orders.{key_at_place, key_at_gap}
use Rattle.pc_txn.proofs.reads.position.Goals as goal

-- the closure compares a place's key with this one
pub returns-clause-at : goal.returns-clause-at
returns-clause-at c =
    let searched = c.binary_search_by.ensures in
    key_at_place (read_keys c.args.reads.now) c.args.order.now c.args.key.now _ c.requires searched.bound (searched.position (λ place. key_cmp (key_at_position (read_keys c.args.reads.now) place) c.args.key.now) (always_returns_same _ _ _ (λ a r f' called. search rules)))

pub returns-clause-gap : goal.returns-clause-gap
returns-clause-gap c =
    let searched = c.binary_search_by.ensures in
    key_at_gap (read_keys c.args.reads.now) c.args.order.now c.args.key.now _ c.requires searched.bound (searched.position (λ place. key_cmp (key_at_position (read_keys c.args.reads.now) place) c.args.key.now) (always_returns_same _ _ _ (λ a r f' called. search rules)))
