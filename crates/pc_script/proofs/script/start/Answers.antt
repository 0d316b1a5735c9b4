use Rattle.std.proofs.Common.{ap, arith}
use Rattle.pc_model.specs.Maps.{len}
use Rattle.pc_model.specs.Database.{Database}
use Rattle.pc_model.proofs.PairMapLaws.{len_of}
use Rattle.pc_script.proofs.script.start.Goals as goal

pub start-base-requires-clause-limit : goal.start-base-requires-clause-limit
start-base-requires-clause-limit c =
    let same = len_of c.into_vec.result.items c.into_vec.ensures.rise in
    let pairs = ap (λ (b : Database). len b) c.into_vec.ensures.pairs in
    let fits = c.args.setup.in_range in
    omega (arith, same, pairs, fits.1, c.requires)
