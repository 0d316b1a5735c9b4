use Rattle.std.proofs.Common.{length, ltb-true, sym}
use Rattle.pc_model.proofs.SearchLaws.{hit_by}
use Rattle.pc_replay.proofs.samples.KeySamples.place.Goals as goal

-- the guess is correct if the key is there
pub returns-in-Some-clause-at : goal.returns-in-Some-clause-at
returns-in-Some-clause-at c =
    let there = c.in-Some.ensures.lookup in
    hit_by c.args.pairs.now c.args.key.now c.guess-i.result c.in-Some.pair.now c.requires (ltb-true c.guess-i.result (length c.args.pairs.now) (sym there.0)) there.1 (sym c.if-is.ensures)
