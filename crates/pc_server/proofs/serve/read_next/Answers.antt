use Rattle.pc_server.proofs.ServingLaws.{next_read}
use Rattle.pc_server.proofs.serve.read_next.Goals as goal

pub returns-in-Ok : goal.returns-in-Ok
returns-in-Ok g c = record {
  read = λ text lines read. next_read text (g.R.Read.remaining c.args.input.now) (g.R.Read.remaining c.next_line.new.input) c.next_line.new.line.items lines c.in-Ok.some read c.in-Ok.ensures.next;
}
