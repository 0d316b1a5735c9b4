use Rattle.std.proofs.Common.{◌≡◌, [], ◌++◌, map, length}
use Rattle.pc_board.specs.declared.sight.PassSight.TheVariants.{Closer}
use Rattle.pc_board.proofs.Ends.{account_of}
use Rattle.pc_board.proofs.board.Board.close.Given as goal

abbrev pub invariant-loop-pass : goal.invariant-loop-pass
invariant-loop-pass l =
    (l.closer.table_id ≡ l.table.shared.table_id) × (l.closer.me ≡ (Closer (map account_of l.yielded), [])) × (l.yielded ++ l.pass-iterator.rest.items ≡ l.fn.passes.items) × (l.pass-iterator.rest.len ≡ length l.pass-iterator.rest.items)
