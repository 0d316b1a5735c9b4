use Rattle.std.proofs.Common.{◌≡◌, [], ◌++◌, ap, sym, ◌∙◌, subst, arith, All, List}
use Rattle.std.proofs.lemmas.List.{append-nil}
use Rattle.pc_board.specs.Passes.{Board, Pass, IsBoardEnd, IsOfBoard}
use Rattle.pc_board.proofs.Seats.{sits, takes_in_as}
use Rattle.pc_board.proofs.Ends.{all_at, ends, is_point, nothing_left}
use Rattle.pc_board.proofs.board.Board.close.Goals as goal

pub load_new_seat-closer-requires : goal.load_new_seat-closer-requires
load_new_seat-closer-requires c = (omega (arith, c.self.invariant.0), sits _ _ _)

pub join_seat-requires : goal.join_seat-requires
join_seat-requires c =
    let i = c.loop-pass.invariant in
    let at = ap (λ r. c.loop-pass.yielded ++ r) (sym c.in-Some.ensures.steps.0) ∙ i.2 in
    let ours = all_at (λ (p : Pass). IsOfBoard p c.args.self) c.loop-pass.yielded c.in-Some.pass c.next.new.self.rest.items (subst (All (λ (p : Pass). IsOfBoard p c.args.self)) (sym at) c.requires) in (
      i.0,
      ap (λ p. p.board) c.pass.view_is ∙ (ours ∙ sym (ap (λ b. b.name) c.self.view_is)),
      ap (λ m. m.1) c.pass.invariant.0,
      omega (arith, c.self.invariant.0),
      takes_in_as _ _ _ _ _ _ _ _ (ap (λ m. m.0) i.1) (ap (λ m. m.0) c.pass.invariant.0),
    )

pub returns : goal.returns
returns c =
    let i = c.loop-pass.invariant in
    let board : Board = record { name = c.self.inside.table.shared.table_id; passes = c.self.inside.table.shared.key } in
    let empty : c.loop-pass.pass-iterator.rest.items ≡ [] = nothing_left c.loop-pass.pass-iterator.rest.items (sym i.3 ∙ c.in-None.ensures.steps.0) in
    let all : c.loop-pass.yielded ≡ c.args.passes.items = sym (append-nil c.loop-pass.yielded) ∙ (ap (λ r. c.loop-pass.yielded ++ r) (sym empty) ∙ i.2) in
    subst (λ (x : Board × List Pass). IsBoardEnd x.0 c.word-claims.result c.word-horizon.result x.1) (λ k. (c.self.view_is k, all k))
    (ends board c.loop-pass.closer.id c.loop-pass.closer.me.0 _ _ c.word-claims.result c.word-horizon.result c.close_with-closed.ensures.values.2 c.word-claims.ensures c.word-horizon.ensures
    c.loop-pass.yielded (ap (λ m. m.0) i.1))

pub overflow_cast-result : goal.overflow_cast-result
overflow_cast-result c =
    let board : Board = record { name = c.self.inside.table.shared.table_id; passes = c.self.inside.table.shared.key } in
    let point = is_point board c.loop-pass.closer.id c.loop-pass.closer.me.0 _ _ c.word-claims.result c.word-horizon.result c.close_with-closed.ensures.values.2 c.word-claims.ensures c.word-horizon.ensures in
    omega (arith, point)
