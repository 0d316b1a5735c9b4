use Rattle.std.proofs.Common.{◌-◌, ◌∷◌, ◌++◌, [], length, ap, ◌∙◌, arith}
use Rattle.pc_types.specs.declared.Entry.TheVariants.{Token}
use Rattle.std.specs.Vec.{vec_len, vec_capacity}
use Rattle.pc_log.specs.Texts.{entry_text}
use Rattle.pc_kept_log.specs.Chunks.{Piece}
use Rattle.pc_kept_log.proofs.ChunkLaws.{room_seen, appended, appended_entries}
use Rattle.pc_kept_log.proofs.chunk.Chunk.append_token.Goals as goal

pub put_token-self-inside-requires : goal.put_token-self-inside-requires
put_token-self-inside-requires c = rw c.as_mut_slice.ensures.value (room_seen (length c.self.inside.bytes.items) c.self.inside.used (vec_capacity c.self.inside.starts - vec_len c.self.inside.starts) c.args.self.now.room (length (entry_text (Token c.args.phase c.args.point))) (ap (λ (p : Piece). p.room) c.self.view_is) c.requires.room (omega arith)).space

pub overflow_cast-start : goal.overflow_cast-start
overflow_cast-start c = omega (arith, (room_seen (length c.self.inside.bytes.items) c.self.inside.used (vec_capacity c.self.inside.starts - vec_len c.self.inside.starts) c.args.self.now.room (length (entry_text (Token c.args.phase c.args.point))) (ap (λ (p : Piece). p.room) c.self.view_is) c.requires.room (omega arith)).few)

pub push_reserved-requires : goal.push_reserved-requires
push_reserved-requires c = omega (arith, (room_seen (length c.self.inside.bytes.items) c.self.inside.used (vec_capacity c.self.inside.starts - vec_len c.self.inside.starts) c.args.self.now.room (length (entry_text (Token c.args.phase c.args.point))) (ap (λ (p : Piece). p.room) c.self.view_is) c.requires.room (omega arith)).place)

pub invariant_of-self : goal.invariant_of-self
invariant_of-self c =
    let space = (room_seen (length c.self.inside.bytes.items) c.self.inside.used (vec_capacity c.self.inside.starts - vec_len c.self.inside.starts) c.args.self.now.room (length (entry_text (Token c.args.phase c.args.point))) (ap (λ (p : Piece). p.room) c.self.view_is) c.requires.room (omega arith)).space in
    appended c.self.inside.bytes.items c.as_mut_slice.result.now c.put_token-self-inside.new.room c.self.inside.bytes.len c.self.inside.used c.put_token-self-inside.result c.self.inside.starts.items (Token c.args.phase c.args.point)
    c.self.invariant (record { first = c.requires.begun; last = c.put_token-self-inside.ensures.limit }) c.as_mut_slice.ensures.value c.self.inside.bytes.ok.0 c.put_token-self-inside.ensures.put
    c.push_reserved.new.self.items space c.push_reserved.ensures.items

pub returns-clause-entries : goal.returns-clause-entries
returns-clause-entries c =
    appended_entries c.self.inside.bytes.items c.as_mut_slice.result.now c.put_token-self-inside.new.room c.self.inside.bytes.len c.self.inside.used c.put_token-self-inside.result c.self.inside.starts.items (Token c.args.phase c.args.point)
    c.self.invariant (record { first = c.requires.begun; last = c.put_token-self-inside.ensures.limit }) c.as_mut_slice.ensures.value c.self.inside.bytes.ok.0 c.put_token-self-inside.ensures.put
    ∙ ap (λ (p : Piece). p.entries ++ Token c.args.phase c.args.point ∷ []) c.self.view_is
