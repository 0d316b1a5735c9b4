use Rattle.pc_model.proofs.LegalEffectLaws.{legal_has_legal_effects}
use Rattle.pc_model.proofs.laws.legal_histories_have_legal_effects.Goals as goal

pub returns : goal.returns
returns c st history legal = legal_has_legal_effects st history legal
