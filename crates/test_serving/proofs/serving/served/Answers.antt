use Rattle.std.proofs.Common.{[], None, inl}
use Rattle.test_serving.proofs.serving.served.Goals as goal

pub serve_input-ended-requires : goal.serve_input-ended-requires
serve_input-ended-requires c = (_, _, None, _, _, c.keeper-files.result, ([], c.new-service.ensures.serves c.in_ok-world.ensures.stands ([], tt) None, λ point file at. tt, λ point text there. inl tt))
