use Rattle.std.proofs.Common.{sym, ◌∙◌, subst, arith, ◌<◌, ◌≤◌, length, ℕ}
use Rattle.pc_chain.proofs.SearchLaws.{looked_has, looked_next, looked_end, looked_all}
use Rattle.pc_index.specs.Indexes.{bucket_of}
use Rattle.pc_index.proofs.Finding.{is_key_of, slot_found, slot_missing, chain_short, line_of}
use Rattle.pc_index.proofs.index.Index.find.Goals as goal

pub returns-then-is : goal.returns-then-is
returns-then-is g c =
    slot_found g.S.KeyedSlots.key_of (g.S.KeyedSlots.slots_of c.args.slots.now) c.args.self.now c.args.key.now c.key_in.result.now c.in-Some.id c.requires c.key_in.ensures.key c.if-is.ensures

pub key_in-requires : goal.key_in-requires
key_in-requires g c =
    let slots = g.S.KeyedSlots.slots_of c.args.slots.now in
    let t = c.args.self.now in
    let line = line_of g.S.KeyedSlots.key_of slots t c.requires c.args.key.now c.place.result (g.S.Links.has c.args.slots.now) (g.S.Links.next_of c.args.slots.now) (g.met.S.KeyedSlots.leads c.args.slots.now) (g.met.S.KeyedSlots.taken_has c.args.slots.now) c.place.ensures.place c.place.ensures.within in
    let ids = c.requires.ids (bucket_of t c.args.key.now) in
    g.met.S.KeyedSlots.has_taken c.args.slots.now c.in-Some.id (looked_has _ _ _ _ _ ids c.in-Some.id (c.loop.invariant ids line) c.in-Some.is)

pub loop-preserved : goal.loop-preserved
loop-preserved g c = λ xs s.
    looked_next _ _ _ _ _ _ xs c.in-Some.id (c.loop.invariant xs s) c.in-Some.is (is_key_of g.S.KeyedSlots.key_of c.args.key.now c.key_in.result.now _ c.key_in.ensures.key ∙ sym c.if-is.ensures) c.next-at.ensures

pub returns-in_default : goal.returns-in_default
returns-in_default g c =
    let slots = g.S.KeyedSlots.slots_of c.args.slots.now in
    let t = c.args.self.now in
    let line = line_of g.S.KeyedSlots.key_of slots t c.requires c.args.key.now c.place.result (g.S.Links.has c.args.slots.now) (g.S.Links.next_of c.args.slots.now) (g.met.S.KeyedSlots.leads c.args.slots.now) (g.met.S.KeyedSlots.taken_has c.args.slots.now) c.place.ensures.place c.place.ensures.within in
    let ids = c.requires.ids (bucket_of t c.args.key.now) in
    slot_missing g.S.KeyedSlots.key_of slots t c.args.key.now c.requires (looked_end _ _ _ _ _ ids (c.loop.invariant ids line) c.in_default.is)

pub returns : goal.returns
returns g c =
    let slots = g.S.KeyedSlots.slots_of c.args.slots.now in
    let t = c.args.self.now in
    let line = line_of g.S.KeyedSlots.key_of slots t c.requires c.args.key.now c.place.result (g.S.Links.has c.args.slots.now) (g.S.Links.next_of c.args.slots.now) (g.met.S.KeyedSlots.leads c.args.slots.now) (g.met.S.KeyedSlots.taken_has c.args.slots.now) c.place.ensures.place c.place.ensures.within in
    let ids = c.requires.ids (bucket_of t c.args.key.now) in
    let p : ℕ = bucket_of t c.args.key.now in
    let w : p < length t.chains = subst (λ (p : ℕ). p < length t.chains) c.place.ensures.place c.place.ensures.within in
    let s = chain_short g.S.KeyedSlots.key_of slots t c.requires p w in
    let n : length ids ≤ c.loop.counter = omega (arith, s, c.slot_count-end.ensures.count, c.loop-test.false) in
    let h = c.loop.invariant ids line in
    slot_missing g.S.KeyedSlots.key_of slots t c.args.key.now c.requires (looked_end _ _ _ _ _ ids h (looked_all _ _ _ _ _ ids h n))
