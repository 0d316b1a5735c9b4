use Rattle.std.proofs.Common.{ℕ, subst}
use Rattle.pc_board.specs.declared.calls.CallKind.TheVariants.{Publish}
use Rattle.pc_board.specs.Passes.{MakesCall}
use Rattle.pc_workers.proofs.checkpointing.complete.Goals as goal

pub returns-clause-published : goal.returns-clause-published
returns-clause-published g c = subst (λ (n : ℕ). MakesCall c.args.pass.now Publish n c.publish.new.pass) c.in-Ok.ensures.point c.publish.ensures
