use Rattle.std.proofs.Common.{◌≡◌, length, take, ap, subst, ◌∙◌, arith}
use Rattle.std.specs.Prelude.{All}
use Rattle.std.specs.List.{flat_map}
use Rattle.pc_log.specs.Texts.{entry_text, IsEntry}
use Rattle.pc_kept_log.specs.Chunks.{Piece}
use Rattle.pc_kept_log.proofs.ChunkLaws.{start_seen, part_inside, part_seen}
use Rattle.pc_kept_log.proofs.chunk.Chunk.text.Goals as goal

pub part_of-requires : goal.part_of-requires
part_of-requires c =
    let bytes = c.self.inside.bytes.items in
    let starts = c.self.inside.starts.items in
    let entries = c.args.self.now.entries in
    let seen = ap (λ (p : Piece). p.entries) c.self.view_is in
    let begins : c.start_of-begin.result ≡ length (flat_map entry_text (take c.args.from entries)) =
    start_seen bytes c.self.inside.used starts c.self.invariant entries seen c.as_slice.result.now c.args.from c.start_of-begin.result c.as_slice.ensures.value (omega (arith, c.requires.order, c.requires.inside)) c.start_of-begin.ensures.inside c.start_of-begin.ensures.behind in
    let ends : c.start_of-end.result ≡ length (flat_map entry_text (take c.args.to entries)) =
    start_seen bytes c.self.inside.used starts c.self.invariant entries seen c.as_slice-2.result.now c.args.to c.start_of-end.result c.as_slice-2.ensures.value c.requires.inside c.start_of-end.ensures.inside c.start_of-end.ensures.behind in
    part_inside bytes c.self.inside.used starts c.self.invariant entries seen c.args.from c.args.to c.start_of-begin.result c.start_of-end.result c.requires.order c.requires.inside begins ends c.as_slice-3.result.now c.as_slice-3.ensures.value

pub returns-clause-text : goal.returns-clause-text
returns-clause-text c =
    let bytes = c.self.inside.bytes.items in
    let starts = c.self.inside.starts.items in
    let entries = c.args.self.now.entries in
    let seen = ap (λ (p : Piece). p.entries) c.self.view_is in
    let begins : c.start_of-begin.result ≡ length (flat_map entry_text (take c.args.from entries)) =
    start_seen bytes c.self.inside.used starts c.self.invariant entries seen c.as_slice.result.now c.args.from c.start_of-begin.result c.as_slice.ensures.value (omega (arith, c.requires.order, c.requires.inside)) c.start_of-begin.ensures.inside c.start_of-begin.ensures.behind in
    let ends : c.start_of-end.result ≡ length (flat_map entry_text (take c.args.to entries)) =
    start_seen bytes c.self.inside.used starts c.self.invariant entries seen c.as_slice-2.result.now c.args.to c.start_of-end.result c.as_slice-2.ensures.value c.requires.inside c.start_of-end.ensures.inside c.start_of-end.ensures.behind in
    c.part_of.ensures
    ∙ part_seen bytes c.self.inside.used starts c.self.invariant entries seen c.args.from c.args.to c.start_of-begin.result c.start_of-end.result c.requires.order c.requires.inside begins ends c.as_slice-3.result.now c.as_slice-3.ensures.value

pub returns-clause-lawful : goal.returns-clause-lawful
returns-clause-lawful c = subst (All IsEntry) (ap (λ (p : Piece). p.entries) c.self.view_is) c.self.invariant.texts.lawful
