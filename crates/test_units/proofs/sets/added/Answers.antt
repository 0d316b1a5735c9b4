use Rattle.std.proofs.Common.{refl, sym, subst}
use Rattle.pc_dirty.specs.declared.side.Side.TheVariants.{First}
use Rattle.pc_dirty.specs.Sets.{place_on_side, AreSets}
use Rattle.test_units.specs.Rows.{link_at, has_links}
use Rattle.test_units.proofs.sets.added.Goals as goal

pub returns : goal.returns
returns c =
    let new = rw c.as_slice.ensures.value at c.if-not-is_new.ensures in
    let more = c.add_new.ensures.sets c.args.kept.now.opened.items c.requires.closed c.requires.sets (new refl).2 in record {
      closed = c.requires.closed;
      sets = subst (λ slots. AreSets (has_links c.add_new.new.links.first.items c.add_new.new.links.second.items) (link_at c.add_new.new.links.first.items c.add_new.new.links.second.items) c.add_new.new.self slots c.requires.closed) (sym c.in_ok-push.ensures.items) more;
      last = c.add_new.ensures.has (place_on_side First 11) c.requires.last;
    }
