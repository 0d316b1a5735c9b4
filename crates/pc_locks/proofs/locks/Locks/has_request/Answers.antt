use Rattle.std.proofs.Common.{sym, subst}
use Rattle.pc_locks.specs.Keepers.{AreEnds}
use Rattle.pc_locks.proofs.QueueLines.{ends_line}
use Rattle.pc_locks.proofs.locks.Locks.has_request.Goals as goal

pub is_empty-requires : goal.is_empty-requires
is_empty-requires g c =
    let ends = g.E.QueueEnds.ends_of c.args.keeper.now in
    ends_line _ ends c.args.slot _ (subst (AreEnds ends) (sym c.self.view_is) c.requires.ends).tied.lines c.ends.ensures
