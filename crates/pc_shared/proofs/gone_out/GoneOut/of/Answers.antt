use Rattle.std.proofs.Common.{sym}
use Rattle.pc_shared.proofs.gone_out.GoneOut.of.Goals as goal

pub invariant_of-result : goal.invariant_of-result
invariant_of-result g c = ((c.len.ensures.legal, λ some. record { entries = c.args.pass.now; as_many = sym c.len.ensures.len; gone = c.requires.out }), λ some. record { entries = c.args.pass.now; as_many = sym c.len.ensures.len; first = c.requires.first; gone = c.requires.out })
