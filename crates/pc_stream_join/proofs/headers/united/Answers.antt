use Rattle.std.proofs.Common.{◌≡◌, [], length, sym, ◌∙◌}
use Rattle.std.proofs.lemmas.List.{nil_from_length}
use Rattle.std.proofs.lemmas.Bool.{eqb-true}
use Rattle.pc_part.specs.Parts.{points_of}
use Rattle.pc_stream_join.proofs.UnionLaws.{union_of_empty}
use Rattle.pc_stream_join.proofs.headers.united.Goals as goal

pub returns-then-is_empty-clause-points : goal.returns-then-is_empty-clause-points
returns-then-is_empty-clause-points c =
    let none : c.args.all.now ≡ [] = nil_from_length c.args.all.now (eqb-true (length c.args.all.now) 0 (sym c.is_empty.ensures ∙ c.if-is_empty.true)) in
    rw (c.in_ok-first.ensures.items, none) (sym (union_of_empty (points_of c.args.ranges.now)))
