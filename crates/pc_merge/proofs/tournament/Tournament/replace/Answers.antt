use Rattle.std.proofs.Common.{◌≡◌, ◌<◌, length, take, drop, ◌++◌, length-set, arith}
use Rattle.std.proofs.lemmas.List.{take_at}
use Rattle.pc_merge.proofs.TreeLaws.{heads_set, others_set}
use Rattle.pc_merge.proofs.tournament.Tournament.replace.Goals as goal

pub mend-requires-clause-others : goal.mend-requires-clause-others
mend-requires-clause-others c =
    let within : c.args.place < length c.self.inside.firsts.items = rw c.self.view_is c.requires in
    rw (c.deref-2.ensures.value, c.deref_mut.ensures.value)
    (others_set c.self.inside.firsts.items c.self.inside.heads.items c.self.inside.tree.items c.args.place c.head_at.result c.replace-before.new.dest within c.self.invariant.tournament)

pub invariant_of-self : goal.invariant_of-self
invariant_of-self c =
    let firsts = c.self.inside.firsts.items in
    let within : c.args.place < length firsts = rw c.self.view_is c.requires in
    let same : take c.self.inside.tree.len (c.mend.new.tree ++ drop (length c.mend.new.tree) c.self.inside.tree.items) ≡ c.mend.new.tree = take_at c.mend.new.tree (drop (length c.mend.new.tree) c.self.inside.tree.items) c.self.inside.tree.len (omega arith) in
    let few = c.self.invariant.few in
    record {
      few = rw (length-set firsts c.args.place c.replace-before.new.dest) few;
      known = heads_set firsts c.self.inside.heads.items c.self.inside.tree.items c.args.place c.head_at.result c.replace-before.new.dest within c.self.invariant.known (rw c.replace-before.ensures.after c.head_at.ensures);
      tournament = rw (same, ← c.deref-2.ensures.value) c.mend.ensures;
    }
