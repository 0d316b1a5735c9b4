use Rattle.pc_shared.proofs.store.Shared.settle.Goals as goal

pub returns : goal.returns
returns g c = (c.into_inner-latched.result.latched, c.settle.ensures)
