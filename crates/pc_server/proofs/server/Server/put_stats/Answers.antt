use Rattle.std.proofs.Common.{length, ap, subst, ◌∙◌}
use Rattle.pc_io.specs.Tallies.{Puts}
use Rattle.std.specs.Prelude.{Some}
use Rattle.pc_serving.specs.OpenSessions.{open_now}
use Rattle.pc_server.specs.Acts.{stats_line}
use Rattle.pc_server.proofs.server.Server.put_stats.Goals as goal

pub returns-clause-told : goal.returns-clause-told
returns-clause-told c =
    let entries = c.len-entries.ensures ∙ ap length c.log.ensures.log in
    let points = ap length c.files-points.ensures in
    subst (λ n. Puts (λ bytes. Some bytes.items) c.args.self.now.answers c.put_stats.new.out c.put_stats.result (stats_line n c.args.self.now.counts.commits (length c.args.self.now.served.world.shelf) (open_now c.args.self.now.served.world) c.args.self.now.counts.bytes c.args.pairs)) entries
    (subst (λ n. Puts (λ bytes. Some bytes.items) c.args.self.now.answers c.put_stats.new.out c.put_stats.result (stats_line c.len-entries.result c.args.self.now.counts.commits n (open_now c.args.self.now.served.world) c.args.self.now.counts.bytes c.args.pairs)) points
    (subst (λ n. Puts (λ bytes. Some bytes.items) c.args.self.now.answers c.put_stats.new.out c.put_stats.result (stats_line c.len-entries.result c.args.self.now.counts.commits (length c.files-points.result.now) n c.args.self.now.counts.bytes c.args.pairs)) c.open_sessions-opened.ensures.now c.put_stats.ensures))
