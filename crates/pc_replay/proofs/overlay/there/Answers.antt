use Rattle.std.proofs.Common.{ap, sym, ◌∙◌, Some, None, option_copied}
use Rattle.pc_model.specs.Database.{database_of}
use Rattle.pc_model.proofs.PairMapLaws.{of_get}
use Rattle.pc_replay.proofs.ChangeLemmas.{noted_there}
use Rattle.pc_replay.proofs.overlay.there.Goals as goal

pub returns-in-Some : goal.returns-in-Some
returns-in-Some c = c.as_ref.ensures.value ∙ sym (noted_there (database_of c.args.pairs.now) c.args.changes.now c.args.key.now (Some c.in-Some.content.now) (sym (ap option_copied c.in-Some.is) ∙ c.get.ensures.value))

pub returns-in-Ok : goal.returns-in-Ok
returns-in-Ok c =
    sym ((rw c.in-Ok.is at c.requires.at).finds c.index-pairs-i.result) ∙ of_get c.args.pairs.now c.args.key.now
    ∙ sym (noted_there (database_of c.args.pairs.now) c.args.changes.now c.args.key.now None (sym (ap option_copied c.in-None.is) ∙ c.get.ensures.value))

pub returns-in-Err : goal.returns-in-Err
returns-in-Err c =
    sym (rw c.in-Err.is at c.requires.gap).finds ∙ of_get c.args.pairs.now c.args.key.now
    ∙ sym (noted_there (database_of c.args.pairs.now) c.args.changes.now c.args.key.now None (sym (ap option_copied c.in-None.is) ∙ c.get.ensures.value))
