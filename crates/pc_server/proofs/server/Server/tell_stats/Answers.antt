use Rattle.std.proofs.Common.{ap, length}
use Rattle.pc_serving.specs.OpenSessions.{open_now}
use Rattle.pc_server.specs.Acts.{committed_in, stats_line}
use Rattle.pc_server.proofs.ServerLaws.{puts_ok}
use Rattle.pc_server.proofs.server.Server.tell_stats.Goals as goal

pub returns-clause-told : goal.returns-clause-told
returns-clause-told c = λ history stands.
    let old = c.args.self.now in
    let line = stats_line (length old.served.world.log) old.counts.commits (length old.served.world.shelf) (open_now old.served.world) old.counts.bytes in
    puts_ok old.answers c.put_stats.new.self.answers c.put_stats.result (line c.in_ok-pairs.pairs) (line (committed_in old.served.world)) (ap line (c.in_ok-pairs.ensures history stands)) c.put_stats.ensures.told
