use Rattle.std.proofs.Common.{Some}
use Rattle.std.proofs.lemmas.Result.{on_ok_weaker}
use Rattle.pc_model.specs.Database.{database_of}
use Rattle.pc_model.proofs.PairMapLaws.{of_put}
use Rattle.pc_replay.proofs.ChangeLemmas.{noted, forgotten}
use Rattle.pc_replay.proofs.overlay.set_at.Goals as goal

pub returns-in-Ok-clause-rise : goal.returns-in-Ok-clause-rise
returns-in-Ok-clause-rise c = (of_put c.args.pairs.now.items c.replace.new.pairs.items c.args.key c.args.value c.requires.rise c.replace.ensures).sorted

pub returns-in-Ok-clause-set : goal.returns-in-Ok-clause-set
returns-in-Ok-clause-set c =
    forgotten (database_of c.args.pairs.now.items) c.args.changes.now c.forget.new.changes c.args.key (database_of c.replace.new.pairs.items) (Some c.args.value)
    (of_put c.args.pairs.now.items c.replace.new.pairs.items c.args.key c.args.value c.requires.rise c.replace.ensures).inserts c.forget.ensures

pub returns-in-Err-clause-set : goal.returns-in-Err-clause-set
returns-in-Err-clause-set c = on_ok_weaker c.note.result (λ updates. noted (database_of c.args.pairs.now.items) c.args.changes.now c.note.new.changes c.args.key (Some c.args.value) updates) c.note.ensures
