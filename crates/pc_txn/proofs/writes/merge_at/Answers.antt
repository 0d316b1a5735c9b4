use Rattle.std.proofs.Common.{◌∙◌, ap, set}
use Rattle.pc_model.specs.Database.{write_of}
use Rattle.pc_txn.proofs.Written.{set_merged}
use Rattle.pc_txn.proofs.writes.merge_at.Goals as goal

pub returns : goal.returns
returns c =
    ap (λ change. set c.args.writes.now.items c.args.place (write_of c.index_mut.result.now.key change)) c.merge.ensures
    ∙ set_merged c.args.writes.now.items c.args.place c.index_mut.result.now c.args.later.change c.requires.place c.index_mut.ensures.value
