use Rattle.std.proofs.Common.{◌≡◌, ◌-◌, []}
use Rattle.pc_log.specs.Reading.{writes_at}
use Rattle.pc_log.proofs.reading.read_writes.Given as goal

-- what is read from here on is what is read from the start
abbrev pub invariant-loop : goal.invariant-loop
invariant-loop l = writes_at l.format (l.count - l.counter) l.writes l.rest ≡ writes_at l.format l.count [] l.bytes
