use Rattle.std.proofs.Common.{ℕ, List, ◌∷◌, Option, Some, is_some, refl, sym, ap, ◌∙◌, subst}
use Rattle.pc_chain.specs.Slots.{Slots, at}
use Rattle.pc_chain.proofs.SlotLaws.{at_here}
use Rattle.pc_index.specs.Indexes.{IndexView, bucket_of, chain_at, IsIndex}
use Rattle.pc_index.specs.Keys.{IsSlotOf}
use Rattle.pc_index.proofs.Linked.{linked, of_slots}
use Rattle.pc_index.proofs.Places.{chain_read, table_written}
use Rattle.pc_index.proofs.Making.{line_taken, free_avoids, index_made, slot_made}
use Rattle.pc_index.proofs.index.Index.make.Goals as goal

pub push_front-requires : goal.push_front-requires
push_front-requires g c =
    let old = g.S.KeyedSlots.slots_of c.args.slots.now in
    let id : ℕ = c.in_ok-id.id in
    g.met.S.KeyedSlots.taken_has c.make_blank.new.self id
    (ap is_some (ap (λ (s : Slots g.row.S-Item.Denot). at s.items id) c.in_ok-id.ensures.made ∙ at_here old.items id (Some (g.S.KeyedSlots.blank_of c.args.key.now)) c.in_ok-id.ensures.free.0))

pub returns-clause-index : goal.returns-clause-index
returns-clause-index g c =
    let t : IndexView = c.args.self.now in
    let i = c.requires.index in
    let old = g.S.KeyedSlots.slots_of c.args.slots.now in
    let mid = g.S.KeyedSlots.slots_of c.make_blank.new.self in
    let new = g.S.KeyedSlots.slots_of c.push_front.new.links in
    let item = g.S.KeyedSlots.blank_of c.args.key.now in
    let id : ℕ = c.in_ok-id.id in
    let free = c.in_ok-id.ensures.free.1 in
    let p : ℕ = bucket_of t c.args.key.now in
    let here = chain_read _ t c.place-place.result p c.index_mut.result.now c.self.view_is c.place-place.ensures.place c.place-place.ensures.within c.index_mut.ensures.value in
    let lies = linked mid (g.S.Links.has c.make_blank.new.self) (g.S.Links.next_of c.make_blank.new.self) (g.met.S.KeyedSlots.leads c.make_blank.new.self) in
    let stays = of_slots new (g.S.Links.has c.push_front.new.links) (g.S.Links.next_of c.push_front.new.links) (g.met.S.KeyedSlots.leads c.push_front.new.links) in
    let taken_has = g.met.S.KeyedSlots.taken_has c.make_blank.new.self in
    let has_taken = g.met.S.KeyedSlots.has_taken c.push_front.new.links in
    subst (IsIndex g.S.KeyedSlots.key_of new) (sym (table_written _ t c.place-place.result p c.push_front.new.self c.self.view_is c.place-place.ensures.place))
    (index_made g.S.KeyedSlots.key_of old new t i c.args.key.now id item c.push_front.new.self (record {
      free = c.in_ok-id.ensures.free;
      key_is = g.met.S.KeyedSlots.blank_key c.args.key.now;
      absent = c.requires.absent;
      place_in = here.0;
      items = g.met.S.KeyedSlots.keeps c.make_blank.new.self c.push_front.new.links c.push_front.ensures.beside ∙ ap (λ (s : Slots g.row.S-Item.Denot). s.items) c.in_ok-id.ensures.made;
      list = stays c.push_front.new.self (id ∷ i.ids p) has_taken (c.push_front.ensures.list (i.ids p) (lies c.index_mut.result.now (i.ids p) taken_has (line_taken g.S.KeyedSlots.key_of old mid t i id item c.index_mut.result.now p free here.0 c.in_ok-id.ensures.made here.1)) (free_avoids g.S.KeyedSlots.key_of old t i id free p here.0));
      others = λ b v n. stays (chain_at t b) (i.ids b) has_taken
          (c.push_front.ensures.others (i.ids b) (chain_at t b) (lies (chain_at t b) (i.ids b) taken_has (line_taken g.S.KeyedSlots.key_of old mid t i id item (chain_at t b) b free v c.in_ok-id.ensures.made refl)) (free_avoids g.S.KeyedSlots.key_of old t i id free b v));
    }))

pub returns-clause-made : goal.returns-clause-made
returns-clause-made g c = (
  c.in_ok-id.ensures.free,
  g.met.S.KeyedSlots.keeps c.make_blank.new.self c.push_front.new.links c.push_front.ensures.beside ∙ ap (λ (s : Slots g.row.S-Item.Denot). s.items) c.in_ok-id.ensures.made,
)

pub returns-clause-others : goal.returns-clause-others
returns-clause-others g c = λ other found n s.
    let old = g.S.KeyedSlots.slots_of c.args.slots.now in
    subst (λ (is : List (Option g.row.S-Item.Denot)). IsSlotOf g.S.KeyedSlots.key_of is other found)
    (sym (g.met.S.KeyedSlots.keeps c.make_blank.new.self c.push_front.new.links c.push_front.ensures.beside ∙ ap (λ (s : Slots g.row.S-Item.Denot). s.items) c.in_ok-id.ensures.made))
    (slot_made g.S.KeyedSlots.key_of old.items c.in_ok-id.id (g.S.KeyedSlots.blank_of c.args.key.now) other found c.in_ok-id.ensures.free (λ e. n (sym e ∙ g.met.S.KeyedSlots.blank_key c.args.key.now)) s)
