use Rattle.std.proofs.Common.{refl}
use Rattle.pc_border.proofs.store.Store.call.Goals as goal

pub returns-in-Open : goal.returns-in-Open
returns-in-Open c = rw c.in-Open.is (c.call.new.self, refl, c.call.ensures)
