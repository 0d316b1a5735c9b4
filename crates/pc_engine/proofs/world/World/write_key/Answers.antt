use Rattle.std.proofs.Common.{◌∙◌, refl}
use Rattle.std.specs.Option.{option_copied}
use Rattle.pc_kept_log.specs.Logs.{entries_of}
use Rattle.pc_transactions.specs.Ongoing.{Ongoing}
use Rattle.pc_engine.specs.Store.{Store}
use Rattle.pc_engine.proofs.SetKeys.{may_merge, applies_content, sees_content}
use Rattle.pc_engine.proofs.Causes.{write_requested}
use Rattle.pc_engine.proofs.world.World.write_key.Goals as goal

pub request-requires-clause-merges : goal.request-requires-clause-merges
request-requires-clause-merges c = rw c.in-Ok.ensures.write (λ granted. may_merge _ _)

pub request-requires-clause-applies : goal.request-requires-clause-applies
request-requires-clause-applies c = rw c.in-Ok.ensures.write (λ granted. applies_content _ _)

pub request-requires-clause-left : goal.request-requires-clause-left
request-requires-clause-left c =
    let may = rw (← c.self.view_is) at c.in_default.ensures in
    rw c.in-Ok.ensures.write (λ granted. c.in-Ok.ensures.left ∙ sees_content _ _ _ _ may.0.opened)

pub returns : goal.returns
returns c =
    let may = rw (← c.self.view_is) at c.in_default.ensures in
    let e = rw c.in-Ok.ensures.write at c.request.ensures in
    let W : Ongoing → Store = λ g. (let w : Store = record {
      base = c.self.inside.base;
      sessions = g.sessions;
      kept = g.kept;
      log = entries_of c.self.inside.log;
      begun = g.begun;
      cycle = record { phase = g.phases.phase; point = g.phases.point; open_set = g.open_set; closed_set = g.closed_set; taken = c.self.inside.taken };
      shelf = c.self.inside.shelf.items;
    } in w) in
    rw (← c.self.view_is) (write_requested W c.self.inside.sessions c.request.new.self c.args.session c.args.key.now (option_copied c.args.value) c.request.result may (λ o. refl) e.told e.answered e.room e.refusal e.same)
