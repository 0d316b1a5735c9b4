use Rattle.std.proofs.Common.{◌≡◌, ◌∙◌, false, length, sym, subst, le_refl, take_all}
use Rattle.pc_serving.specs.Inputs.{has_feed}
use Rattle.pc_serving.proofs.PieceLaws.{is_no_end, is_piece}
use Rattle.pc_serving.proofs.lines.piece_of.Goals as goal

pub returns-in-Some-clause-piece : goal.returns-in-Some-clause-piece
returns-in-Some-clause-piece c = λ input end. is_piece c.args.bytes.now input c.in-Some.at (sym c.feed_in.ensures ∙ c.in-Some.is)

pub returns-in-None-2-clause-piece : goal.returns-in-None-2-clause-piece
returns-in-None-2-clause-piece c = λ input end. subst (λ t. has_feed t ≡ false) (sym (take_all (length c.args.bytes.now) c.args.bytes.now (le_refl _))) (is_no_end c.args.bytes.now (sym c.feed_in.ensures ∙ c.in-None.is))
