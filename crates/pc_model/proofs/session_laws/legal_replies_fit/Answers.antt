use Rattle.pc_model.proofs.ReplyKindLaws.{reply_kind}
use Rattle.pc_model.proofs.session_laws.legal_replies_fit.Goals as goal

pub returns : goal.returns
returns c = reply_kind
