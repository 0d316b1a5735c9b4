use Rattle.std.proofs.Common.{◌≡◌, true, subst, take, arith}
use Rattle.std.proofs.Math.Seq.{take-length}
use Rattle.pc_faults.specs.Faults.{fault_at, is_short}
use Rattle.pc_faults.proofs.FaultLaws.{nothing_is_short, others_are_some}
use Rattle.pc_faults.proofs.texts.least.Goals as goal

pub loop-high-init : goal.loop-high-init
loop-high-init c = record {
  order = others_are_some c.args.kind.now c.args.bytes.now c.requires;
  within = omega arith;
  seen = rw (take-length c.args.bytes.now) c.requires;
  before = nothing_is_short c.args.kind.now;
}

pub returns : goal.returns
returns c = record {
  within = c.loop-high.invariant.within;
  seen = c.loop-high.invariant.seen;
  before = λ fewer is.
      let same : c.loop-high.low ≡ fewer = omega (arith, c.loop-high.invariant.order, c.loop-high-test.false, is) in
      subst (λ n. is_short (fault_at c.args.kind.now (take n c.args.bytes.now)) ≡ true) same c.loop-high.invariant.before;
}
