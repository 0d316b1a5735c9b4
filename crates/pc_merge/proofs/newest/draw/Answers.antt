use Rattle.std.proofs.Common.{None, length-set}
use Rattle.std.proofs.lemmas.List.{map-set, get_or-map}
use Rattle.pc_merge.proofs.StandingLaws.{drawn_stands, drawn_within}
use Rattle.pc_merge.proofs.newest.draw.Goals as goal

pub returns : goal.returns
returns g c =
    let coming = g.E.Entries.coming in
    let inputs = c.args.inputs.now in
    let place = c.args.place in
    let before = c.index-inputs-place.result in
    record {
      together = length-set inputs place c.next.new.self;
      draws = (
        coming c.next.new.self,
        map-set coming inputs place c.next.new.self,
        rw (get_or-map coming inputs place before None c.requires) c.next.ensures.given,
      );
      stand = drawn_stands g.E.Entries.standing inputs place before c.next.new.self c.next.result c.requires c.next.ensures.stands;
      within = drawn_within g.E.Entries.within inputs place before c.next.new.self c.next.result c.requires c.next.ensures.within;
      refusals = c.next.ensures.refusals;
    }
