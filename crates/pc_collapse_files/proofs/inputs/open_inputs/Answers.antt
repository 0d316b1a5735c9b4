use Rattle.std.proofs.Common.{◌≡◌, ℕ, Err, List, length, map, subst, sym}
use Rattle.std.specs.List.{All}
use Rattle.pc_merge.specs.Standings.{AllStand}
use Rattle.pc_stream_join.specs.Headers.{AreHeaded, IsHeadersFault, IsHeadersRefusal, StayKnown}
use Rattle.pc_streams.specs.declared.reader.PartReader.{PartReader}
use Rattle.pc_streams.specs.Readers.{header_of, standing_of}
use Rattle.pc_collapse_files.specs.Inputs.{AreReadersOf}
use Rattle.pc_collapse_files.specs.Reads.{AreSound, sound}
use Rattle.pc_collapse_files.proofs.Headed.{head_fault, head_refusal, now_in, still_readers}
use Rattle.pc_collapse_files.proofs.ReadLaws.{tells}
use Rattle.pc_collapse_files.proofs.inputs.open_inputs.Goals as goal

pub returns-in-Ok-join_headers-clause-opened : goal.returns-in-Ok-join_headers-clause-opened
returns-in-Ok-join_headers-clause-opened g c =
    let stay = subst (λ was. StayKnown g.R.Read.remaining was c.join_headers.new.readers) c.deref_mut.ensures.value c.in-Ok-join_headers.ensures.stays in
    let now = now_in g.R.Read.remaining c.in-Ok.readers c.join_headers.new.readers stay in
    record {
      opened = c.in-Ok.ensures.opened;
      readers = subst (λ readers. AreReadersOf g.R.Read.remaining c.args.files.items readers) (sym now) (still_readers g.R.Read.remaining c.args.files.items c.in-Ok.readers.items c.join_headers.new.readers stay c.in-Ok.ensures.readers);
      sound = subst (λ readers. AreSound readers) (sym now) (subst (All (λ standing. standing ≡ sound)) (sym (subst (λ was. map standing_of c.join_headers.new.readers ≡ map standing_of was) c.deref_mut.ensures.value c.in-Ok-join_headers.ensures.stand)) c.in-Ok.ensures.sound);
      headed = subst (λ readers. AreHeaded g.R.Read.remaining c.in-Ok-join_headers.header.run c.in-Ok-join_headers.header.ranges.items readers) (sym now) c.in-Ok-join_headers.ensures.headed;
      points = c.in-Ok-join_headers.ensures.points;
    }

pub returns-in-Err-join_headers-clause-cause : goal.returns-in-Err-join_headers-clause-cause
returns-in-Err-join_headers-clause-cause g c = (
  head_fault g.R.Read.remaining c.args.files.items c.in-Ok.readers.items c.in-Ok.ensures.opened c.in-Ok.ensures.readers c.in-Err-join_headers.why
      (subst (λ was. IsHeadersFault (map (header_of g.R.Read.remaining) was) c.in-Err-join_headers.why) c.deref_mut.ensures.value c.in-Err-join_headers.ensures.cause),
  tells c.in-Ok.readers c.join_headers.new.readers c.in-Err-join_headers.why c.in-Ok.ensures.sound ℕ (subst (λ was. AllStand {X = ℕ} (map standing_of was) (map standing_of c.join_headers.new.readers) (Err c.in-Err-join_headers.why)) c.deref_mut.ensures.value c.in-Err-join_headers.ensures.stand),
  head_refusal g.R.Read.remaining c.args.files.items c.in-Ok.readers c.join_headers.new.readers c.in-Err-join_headers.why c.in-Ok.ensures.many
      (subst (λ (was : List (PartReader g.row.R.Denot)). length c.join_headers.new.readers ≡ length was) c.deref_mut.ensures.value c.join_headers.ensures.many)
      (subst (λ was. IsHeadersRefusal g.R.Read.remaining was c.join_headers.new.readers c.in-Err-join_headers.why) c.deref_mut.ensures.value c.in-Err-join_headers.ensures.refusals),
)
