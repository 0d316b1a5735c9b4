use Rattle.test_model.proofs.ExamplesOfIllegalReplies.{examples_of_illegal_replies}
use Rattle.test_model.proofs.examples.illegal_replies.Goals as goal

pub returns : goal.returns
returns c = examples_of_illegal_replies
