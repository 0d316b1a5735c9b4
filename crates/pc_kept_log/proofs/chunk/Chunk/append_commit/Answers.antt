use Rattle.std.proofs.Common.{◌-◌, ◌∷◌, ◌++◌, [], length, ap, ◌∙◌, arith}
use Rattle.pc_types.specs.declared.Entry.TheVariants.{Commit}
use Rattle.std.specs.Vec.{vec_len, vec_capacity}
use Rattle.std.proofs.lemmas.List.Elements.{recursion_from_All}
use Rattle.pc_log.specs.Texts.{entry_text, IsWrite}
use Rattle.pc_kept_log.specs.Chunks.{Piece}
use Rattle.pc_kept_log.proofs.DistinctKeys.{distinct_once}
use Rattle.pc_kept_log.proofs.ChunkLaws.{room_seen, appended, appended_entries}
use Rattle.pc_kept_log.proofs.chunk.Chunk.append_commit.Goals as goal

pub put_commit-self-inside-requires-clause-space : goal.put_commit-self-inside-requires-clause-space
put_commit-self-inside-requires-clause-space c = rw c.as_mut_slice.ensures.value (room_seen (length c.self.inside.bytes.items) c.self.inside.used (vec_capacity c.self.inside.starts - vec_len c.self.inside.starts) c.args.self.now.room (length (entry_text (Commit c.args.session c.args.writes.now))) (ap (λ (p : Piece). p.room) c.self.view_is) c.requires.room (omega arith)).space

pub overflow_cast-start : goal.overflow_cast-start
overflow_cast-start c = omega (arith, (room_seen (length c.self.inside.bytes.items) c.self.inside.used (vec_capacity c.self.inside.starts - vec_len c.self.inside.starts) c.args.self.now.room (length (entry_text (Commit c.args.session c.args.writes.now))) (ap (λ (p : Piece). p.room) c.self.view_is) c.requires.room (omega arith)).few)

pub push_reserved-requires : goal.push_reserved-requires
push_reserved-requires c = omega (arith, (room_seen (length c.self.inside.bytes.items) c.self.inside.used (vec_capacity c.self.inside.starts - vec_len c.self.inside.starts) c.args.self.now.room (length (entry_text (Commit c.args.session c.args.writes.now))) (ap (λ (p : Piece). p.room) c.self.view_is) c.requires.room (omega arith)).place)

pub invariant_of-self : goal.invariant_of-self
invariant_of-self c =
    let space = (room_seen (length c.self.inside.bytes.items) c.self.inside.used (vec_capacity c.self.inside.starts - vec_len c.self.inside.starts) c.args.self.now.room (length (entry_text (Commit c.args.session c.args.writes.now))) (ap (λ (p : Piece). p.room) c.self.view_is) c.requires.room (omega arith)).space in
    appended c.self.inside.bytes.items c.as_mut_slice.result.now c.put_commit-self-inside.new.room c.self.inside.bytes.len c.self.inside.used c.put_commit-self-inside.result c.self.inside.starts.items (Commit c.args.session c.args.writes.now)
    c.self.invariant (record { first_session = c.requires.session.0; last_session = c.requires.session.1; count = c.requires.few; in_limits = recursion_from_All IsWrite c.args.writes.now c.put_commit-self-inside.ensures.in_limits; once = distinct_once c.args.writes.now c.requires.distinct }) c.as_mut_slice.ensures.value c.self.inside.bytes.ok.0 c.put_commit-self-inside.ensures.put
    c.push_reserved.new.self.items space c.push_reserved.ensures.items

pub returns-clause-entries : goal.returns-clause-entries
returns-clause-entries c =
    appended_entries c.self.inside.bytes.items c.as_mut_slice.result.now c.put_commit-self-inside.new.room c.self.inside.bytes.len c.self.inside.used c.put_commit-self-inside.result c.self.inside.starts.items (Commit c.args.session c.args.writes.now)
    c.self.invariant (record { first_session = c.requires.session.0; last_session = c.requires.session.1; count = c.requires.few; in_limits = recursion_from_All IsWrite c.args.writes.now c.put_commit-self-inside.ensures.in_limits; once = distinct_once c.args.writes.now c.requires.distinct }) c.as_mut_slice.ensures.value c.self.inside.bytes.ok.0 c.put_commit-self-inside.ensures.put
    ∙ ap (λ (p : Piece). p.entries ++ Commit c.args.session c.args.writes.now ∷ []) c.self.view_is
