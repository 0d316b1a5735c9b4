use Rattle.pc_model.proofs.ContentLaws.{content-union}
use Rattle.pc_model.proofs.laws.joins_are_contents.Goals as goal

pub returns : goal.returns
returns c base log points others = content-union base log points others
