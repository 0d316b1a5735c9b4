use Rattle.std.proofs.Common.{refl}
use Rattle.pc_border.proofs.store.Store.show.Goals as goal

pub returns-in-Open : goal.returns-in-Open
returns-in-Open c = rw c.in-Open.is (c.show_text.new.self, refl, c.show_text.ensures)
