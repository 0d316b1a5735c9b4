use Rattle.std.proofs.Common.{◌≡◌, ℕ, List, ◌∷◌, ◌++◌, None, is_some, sym, ap, ◌∙◌, subst, set, Option, arith}
use Rattle.pc_chain.specs.Slots.{at}
use Rattle.pc_index.specs.Indexes.{IndexView, bucket_of, chain_at, IsIndex}
use Rattle.pc_index.specs.Keys.{IsSlotOf}
use Rattle.pc_index.proofs.Finding.{item_there}
use Rattle.pc_index.proofs.Linked.{linked, of_slots}
use Rattle.pc_index.proofs.Places.{chain_read, table_written}
use Rattle.pc_index.proofs.Removing.{standing, others_apart, absent_removed, slot_removed, index_removed}
use Rattle.pc_index.proofs.index.Index.remove.Goals as goal

pub unlink-requires-clause-stands : goal.unlink-requires-clause-stands
unlink-requires-clause-stands g c =
    let t : IndexView = c.args.self.now in
    let old = g.S.KeyedSlots.slots_of c.args.slots.now in
    let there = item_there g.S.KeyedSlots.key_of (at old.items c.args.id) c.key_in.result.now c.key_in.ensures.key in
    let p : ℕ = bucket_of t (g.S.KeyedSlots.key_of there.0) in
    let here = chain_read _ t c.place-place.result p c.index.result.now c.self.view_is (c.place-place.ensures.place ∙ ap (bucket_of t) (sym there.2)) c.place-place.ensures.within c.index.ensures in
    let s = standing g.S.KeyedSlots.key_of old t c.requires.index c.args.id there.0 c.index.result.now there.1 here.0 here.1 in
    let line = linked old (g.S.Links.has c.args.slots.now) (g.S.Links.next_of c.args.slots.now) (g.met.S.KeyedSlots.leads c.args.slots.now) c.index.result.now (s.before ++ c.args.id ∷ s.rest) (g.met.S.KeyedSlots.taken_has c.args.slots.now) s.line in
    (s.before, s.rest, line, omega (arith, s.short, c.key_in.ensures.most))

pub free-requires : goal.free-requires
free-requires g c = ap (λ (is : List (Option g.row.S-Item.Denot)). is_some (at is c.args.id)) (g.met.S.KeyedSlots.keeps c.args.slots.now c.unlink.new.links c.unlink.ensures.beside) ∙ c.requires.taken

pub returns-clause-given : goal.returns-clause-given
returns-clause-given g c = sym (ap (λ (is : List (Option g.row.S-Item.Denot)). at is c.args.id) (g.met.S.KeyedSlots.keeps c.args.slots.now c.unlink.new.links c.unlink.ensures.beside)) ∙ c.free.ensures.given

pub returns-clause-items : goal.returns-clause-items
returns-clause-items g c = c.free.ensures.items ∙ ap (λ (is : List (Option g.row.S-Item.Denot)). set is c.args.id None) (g.met.S.KeyedSlots.keeps c.args.slots.now c.unlink.new.links c.unlink.ensures.beside)

pub returns-clause-gone : goal.returns-clause-gone
returns-clause-gone g c =
    let same = g.met.S.KeyedSlots.keeps c.args.slots.now c.unlink.new.links c.unlink.ensures.beside in
    absent_removed g.S.KeyedSlots.key_of (g.S.KeyedSlots.slots_of c.args.slots.now) (g.S.KeyedSlots.slots_of c.free.new.self) c.args.self.now c.args.id c.free.result c.requires.index
    (sym (ap (λ (is : List (Option g.row.S-Item.Denot)). at is c.args.id) same) ∙ c.free.ensures.given) (c.free.ensures.items ∙ ap (λ (is : List (Option g.row.S-Item.Denot)). set is c.args.id None) same)

pub returns-clause-index : goal.returns-clause-index
returns-clause-index g c =
    let t : IndexView = c.args.self.now in
    let i = c.requires.index in
    let old = g.S.KeyedSlots.slots_of c.args.slots.now in
    let mid = g.S.KeyedSlots.slots_of c.unlink.new.links in
    let new = g.S.KeyedSlots.slots_of c.free.new.self in
    let there = item_there g.S.KeyedSlots.key_of (at old.items c.args.id) c.key_in.result.now c.key_in.ensures.key in
    let item = there.0 in
    let p : ℕ = bucket_of t (g.S.KeyedSlots.key_of item) in
    let placed : c.place-place.result ≡ p = c.place-place.ensures.place ∙ ap (bucket_of t) (sym there.2) in
    let here = chain_read _ t c.place-place.result p c.index.result.now c.self.view_is placed c.place-place.ensures.within c.index.ensures in
    let s = standing g.S.KeyedSlots.key_of old t i c.args.id item c.index.result.now there.1 here.0 here.1 in
    let lies = linked old (g.S.Links.has c.args.slots.now) (g.S.Links.next_of c.args.slots.now) (g.met.S.KeyedSlots.leads c.args.slots.now) in
    let stays = of_slots mid (g.S.Links.has c.unlink.new.links) (g.S.Links.next_of c.unlink.new.links) (g.met.S.KeyedSlots.leads c.unlink.new.links) in
    let taken_has = g.met.S.KeyedSlots.taken_has c.args.slots.now in
    let has_taken = g.met.S.KeyedSlots.has_taken c.unlink.new.links in
    let line = lies c.index.result.now (s.before ++ c.args.id ∷ s.rest) taken_has s.line in
    subst (IsIndex g.S.KeyedSlots.key_of new) (sym (table_written _ t c.place-place.result p c.unlink.new.self c.self.view_is placed))
    (index_removed g.S.KeyedSlots.key_of old mid new t i c.args.id item c.index.result.now c.unlink.new.self s (record {
      list = stays c.unlink.new.self (s.before ++ s.rest) has_taken (c.unlink.ensures.taken.list s.before s.rest line);
      others = λ b v n. stays (chain_at t b) (i.ids b) has_taken
          (c.unlink.ensures.taken.others s.before s.rest (i.ids b) (chain_at t b) line (lies (chain_at t b) (i.ids b) taken_has (i.chains b v)) (others_apart g.S.KeyedSlots.key_of old t i c.args.id item c.index.result.now s b v n));
      same = g.met.S.KeyedSlots.keeps c.args.slots.now c.unlink.new.links c.unlink.ensures.beside;
      items = c.free.ensures.items;
      links = c.free.ensures.links;
    }))

pub returns-clause-others : goal.returns-clause-others
returns-clause-others g c = λ other found n s.
    let same = g.met.S.KeyedSlots.keeps c.args.slots.now c.unlink.new.links c.unlink.ensures.beside in
    subst (λ (is : List (Option g.row.S-Item.Denot)). IsSlotOf g.S.KeyedSlots.key_of is other found) (sym (c.free.ensures.items ∙ ap (λ (is : List (Option g.row.S-Item.Denot)). set is c.args.id None) same))
    (slot_removed g.S.KeyedSlots.key_of (g.S.KeyedSlots.slots_of c.args.slots.now).items c.args.id c.free.result other found (sym (ap (λ (is : List (Option g.row.S-Item.Denot)). at is c.args.id) same) ∙ c.free.ensures.given) (λ e. n (sym e)) s)
