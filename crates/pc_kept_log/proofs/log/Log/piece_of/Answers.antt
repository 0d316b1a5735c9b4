use Rattle.std.proofs.Common.{◌≡◌, ◌<◌, ◌++◌, length, sym, subst, leb, true, false, rules, of_calls, arith}
use Rattle.std.specs.List.Sorted.{IsPartitionPoint}
use Rattle.std.proofs.lemmas.Fn.{always_returns_same}
use Rattle.std.proofs.lemmas.List.Sorted.{IsPartitionedBy-leb}
use Rattle.pc_kept_log.specs.Chunks.{Piece, entries_in_pieces}
use Rattle.pc_kept_log.specs.Pieces.{PieceHasPlace}
use Rattle.pc_kept_log.proofs.PieceLaws.{firsts_rise, one_before, piece_at}
use Rattle.pc_kept_log.proofs.log.Log.piece_of.Goals as goal

pub overflow_sub-behind : goal.overflow_sub-behind
overflow_sub-behind c =
    let log = c.args.self.now in
    let pieces = log.full.items in
    let before : c.args.place < length (entries_in_pieces pieces) = omega (arith, c.if-first-place.false, c.first.ensures, log.behind) in
    let point : IsPartitionPoint (λ (p : Piece). leb p.first c.args.place ≡ true) (λ (p : Piece). leb p.first c.args.place ≡ false) c.deref.result.now c.partition_point-behind.result =
    c.partition_point-behind.ensures.partitioned (λ (p : Piece). leb p.first c.args.place) (always_returns_same _ _ _ (λ a r f k. search (rules, of_calls))) (IsPartitionedBy-leb (λ (p : Piece). p.first) c.deref.result.now c.args.place (rw c.deref.ensures.value (firsts_rise pieces log.counted))) in
    one_before pieces log.counted log.open.entries c.args.place c.partition_point-behind.result before (rw c.deref.ensures.value at c.partition_point-behind.ensures.bound) (rw c.deref.ensures.value at point) log.open

pub returns : goal.returns
returns c =
    let log = c.args.self.now in
    let pieces = log.full.items in
    let before : c.args.place < length (entries_in_pieces pieces) = omega (arith, c.if-first-place.false, c.first.ensures, log.behind) in
    let point : IsPartitionPoint (λ (p : Piece). leb p.first c.args.place ≡ true) (λ (p : Piece). leb p.first c.args.place ≡ false) c.deref.result.now c.partition_point-behind.result =
    c.partition_point-behind.ensures.partitioned (λ (p : Piece). leb p.first c.args.place) (always_returns_same _ _ _ (λ a r f k. search (rules, of_calls))) (IsPartitionedBy-leb (λ (p : Piece). p.first) c.deref.result.now c.args.place (rw c.deref.ensures.value (firsts_rise pieces log.counted))) in
    subst (λ (p : Piece). PieceHasPlace (entries_in_pieces pieces ++ log.open.entries) p c.args.place) (sym c.index.ensures)
    (piece_at pieces log.counted log.open.entries c.args.place c.partition_point-behind.result before (rw c.deref.ensures.value at c.partition_point-behind.ensures.bound) (rw c.deref.ensures.value at point) c.index.result.now)
