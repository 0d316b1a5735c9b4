use Rattle.std.proofs.Common.{ap, subst, sym, refl, length, ◌∙◌}
use Rattle.std.specs.Prelude.{OnOk}
use Rattle.pc_serving.specs.declared.request.Request.TheVariants as request
use Rattle.pc_serving.specs.OpenSessions.{open_now}
use Rattle.pc_server.specs.Acts.{AnswersRequest, committed_in, run_line, stats_line}
use Rattle.pc_server.proofs.ServerLaws.{Told, always_ok, put_told, put_told_ok, quit_told, same_pace, stats_pace, stats_told}
use Rattle.pc_server.proofs.server.Server.tell.Goals as goal

pub returns-in-Quit-clause-told : goal.returns-in-Quit-clause-told
returns-in-Quit-clause-told c = λ st gone turn at history stays. quit_told st gone turn at history c.args.self.now c.args.request stays c.in-Quit.is

pub returns-in-Quit-clause-paced : goal.returns-in-Quit-clause-paced
returns-in-Quit-clause-paced c = same_pace c.args.self.now.pace (length c.args.self.now.served.world.log)

pub returns-in-Run-clause-told : goal.returns-in-Run-clause-told
returns-in-Run-clause-told c = λ st gone turn at history stays.
    let run = c.run.ensures ∙ ap (λ b. b.run) c.base.ensures ∙ ap (λ t. t.run) stays.serves.setting in
    put_told st gone turn at history c.args.self.now c.put_run.new.out c.put_run.result (run_line c.run.result) c.args.request stays
    (subst (λ r. AnswersRequest st history r (run_line c.run.result) history) (sym c.in-Run.is) (ap run_line run, refl)) c.put_run.ensures

pub returns-in-Run-clause-paced : goal.returns-in-Run-clause-paced
returns-in-Run-clause-paced c = always_ok c.put_run.result (same_pace c.args.self.now.pace (length c.args.self.now.served.world.log))

pub returns-in-Stats-clause-told : goal.returns-in-Stats-clause-told
returns-in-Stats-clause-told c = λ st gone turn at history stays.
    let old = c.args.self.now in
    let text = stats_line (length old.served.world.log) old.counts.commits (length old.served.world.shelf) (open_now old.served.world) old.counts.bytes (committed_in old.served.world) in
    subst (λ s. OnOk c.tell_stats.result (Told st gone at turn history old c.args.request s)) (sym c.tell_stats.ensures.others)
    (put_told_ok st gone turn at history old c.tell_stats.new.self.answers c.tell_stats.result text c.args.request stays
    (subst (λ r. AnswersRequest st history r text history) (sym c.in-Stats.is) (stats_told st gone turn at history old stays, refl)) (c.tell_stats.ensures.told history stays.serves.stands))

pub returns-in-Stats-clause-paced : goal.returns-in-Stats-clause-paced
returns-in-Stats-clause-paced c = always_ok c.tell_stats.result (stats_pace c.args.self.now c.tell_stats.new.self c.tell_stats.new.self.answers c.tell_stats.ensures.others)

pub returns-in-Line-clause-told : goal.returns-in-Line-clause-told
returns-in-Line-clause-told c = λ st gone turn at history stays.
    subst (λ r. OnOk c.ask.result (Told st gone at turn history c.args.self.now r c.ask.new.self)) (sym c.in-Line.is) (c.ask.ensures.told st gone turn at history stays)
