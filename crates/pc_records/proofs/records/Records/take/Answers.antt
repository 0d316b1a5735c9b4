use Rattle.std.proofs.Common.{◌≡◌, ◌∷◌, [], List, sym, subst}
use Rattle.pc_records.specs.Floor.{Floor, AreSpotsSound}
use Rattle.pc_records.proofs.SpotTidying.{sound_take, table_take, taken_there}
use Rattle.pc_records.proofs.records.Records.take.Goals as goal

no_first : {A : Type 0} {B : Type 0} {x : A} {xs ys : List A} → ys ≡ [] → ys ≡ x ∷ xs → B
no_first e f = absurd cc

pub tidy-requires : goal.tidy-requires
tidy-requires c = record { there = taken_there c.in-Some.id c.self.inside.slots c.take_first.new.self c.in-Some.ensures.taken }

pub invariant_of-self : goal.invariant_of-self
invariant_of-self c =
    let given = rw (← c.self.view_is) at c.requires in
    (c.tidy.ensures.whole, sound_take c.self.inside.point c.in-Some.id c.self.inside.slots c.take_first.new.self c.tidy.new.self c.self.invariant.0 c.self.invariant.1 c.in-Some.ensures.taken c.tidy.ensures.tidied given.0 given.1 given.2 given.3)

pub invariant_of-self-in_default : goal.invariant_of-self-in_default
invariant_of-self-in_default c = (c.take_first.ensures.whole, subst (λ (f : Floor). AreSpotsSound c.self.inside.point f.spots) (sym c.in_default.ensures.none.1) c.self.invariant.1)

pub returns-in-Some-clause-taken : goal.returns-in-Some-clause-taken
returns-in-Some-clause-taken c =
    let given = rw (← c.self.view_is) at c.requires in
    rw (← c.self.view_is) (table_take c.self.inside.point c.in-Some.id c.self.inside.slots c.take_first.new.self c.tidy.new.self c.self.invariant.0 c.self.invariant.1 c.in-Some.ensures.taken c.tidy.ensures.tidied given.0 given.1 given.2 given.3)

pub returns-in_default-clause-taken : goal.returns-in_default-clause-taken
returns-in_default-clause-taken c =
    let given = rw (← c.self.view_is) at c.requires in
    no_first c.in_default.ensures.none.0 given.2

pub returns-in-Some-clause-listed : goal.returns-in-Some-clause-listed
returns-in-Some-clause-listed c = rw (← c.self.view_is) (record { open_set = c.self.invariant.0.listed.open_set; closed_set = c.self.invariant.0.listed.closed_set })

pub returns-in_default-clause-listed : goal.returns-in_default-clause-listed
returns-in_default-clause-listed c = rw (← c.self.view_is) (record { open_set = c.self.invariant.0.listed.open_set; closed_set = c.self.invariant.0.listed.closed_set })
