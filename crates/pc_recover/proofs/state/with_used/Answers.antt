use Rattle.std.proofs.Common.{◌∙◌, ap, Ok}
use Rattle.pc_recover.specs.Recovery.{files_to, read_files}
use Rattle.pc_recover.proofs.Folded.{not_joined, joined_is_laid, none_is_laid}
use Rattle.pc_recover.proofs.state.with_used.Goals as goal

pub returns-in_err-joined : goal.returns-in_err-joined
returns-in_err-joined c = not_joined c.args.base (files_to c.args.point (read_files c.args.files.items)) c.in_err-joined.field-0.0 c.from_residual.result c.from_residual.ensures c.in_err-joined.ensures

pub returns-in-Some : goal.returns-in-Some
returns-in-Some c = joined_is_laid c.args.base (files_to c.args.point (read_files c.args.files.items)) c.in-Some.joined c.lay_due.result (c.in_ok-joined.ensures ∙ ap Ok c.in-Some.is) c.lay_due.ensures

pub returns-in-None : goal.returns-in-None
returns-in-None c = none_is_laid c.args.base (files_to c.args.point (read_files c.args.files.items)) (c.in_ok-joined.ensures ∙ ap Ok c.in-None.is)
