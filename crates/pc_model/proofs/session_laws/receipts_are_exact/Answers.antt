use Rattle.pc_model.proofs.ReceiptLaws.{exact}
use Rattle.pc_model.proofs.session_laws.receipts_are_exact.Goals as goal

pub returns : goal.returns
returns c = exact
