use Rattle.std.proofs.Common.{◌≡◌, ◌++◌}
use Rattle.pc_runs.proofs.store.files_of.Given as goal

abbrev pub invariant-loop-ticket : goal.invariant-loop-ticket
invariant-loop-ticket g l = l.files.items ++ l.ticket-iterator.rest.items ≡ l.fn.closed.parts.items
