use Rattle.std.proofs.Common.{[], None, inl}
use Rattle.pc_serve.proofs.generation.answer_lines.Goals as goal

pub serve_input-requires : goal.serve_input-requires
serve_input-requires g c =
    (_, _, None, _, _, c.args.points, ([], c.new-service.ensures.serves c.args.generation.stands ([], tt) None, λ point file at. tt, λ point text there. inl tt))
