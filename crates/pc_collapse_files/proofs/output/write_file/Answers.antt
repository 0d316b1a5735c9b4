use Rattle.std.proofs.Common.{refl, sym, subst, map, Some, Err, ◌≡◌, ◌∙◌, List, ℕ}
use Rattle.std.specs.Vec.{with_items}
use Rattle.pc_io.specs.Tallies.{failures_of}
use Rattle.pc_merge.specs.Coming.{Coming}
use Rattle.pc_merge.specs.Given.{IsMerge}
use Rattle.pc_merge.specs.Inputs.{all_known}
use Rattle.pc_streams.specs.Readers.{coming_of, standing_of}
use Rattle.pc_stream_join.specs.Joining.{IsUnjoinedFor, JoinStands, file_of_entries}
use Rattle.pc_collapse_files.specs.Inputs.{IsUnwritten}
use Rattle.pc_collapse_files.proofs.Ends.{short_of, whole_of}
use Rattle.pc_collapse_files.proofs.Headed.{have_header}
use Rattle.pc_collapse_files.proofs.KeyCounts.{len_rising}
use Rattle.pc_collapse_files.proofs.ReadLaws.{join_tells}
use Rattle.pc_collapse_files.proofs.WrittenJoins.{join_is, unjoined, unwritten}
use Rattle.pc_collapse_files.proofs.output.write_file.Goals as goal

pub returns-in-Ok-join_entries-clause-written : goal.returns-in-Ok-join_entries-clause-written
returns-in-Ok-join_entries-clause-written g c = λ files are.
    let written = c.in-Ok-join_entries.ensures.written in
    record {
      opened = are.opened;
      file = file_of_entries c.args.inputs.header.run c.args.inputs.header.ranges.items written.given;
      join = join_is g.R.Read.remaining files c.args.inputs.readers.items are.readers c.args.inputs.header.run c.args.inputs.header.ranges.items written.given are.headed written.lawful
          (subst (λ inputs. (was : List Coming) → all_known (map (coming_of g.R.Read.remaining) inputs) ≡ Some was → IsMerge was written.given) c.deref_mut.ensures.value written.merge);
      whole = λ known. whole_of (g.F.Write.contents c.new-file.result.inner) _ _ (known c.new-file.result.inner) (known c.join_entries.new.out.inner) (rw c.new-file.ensures.inner c.in-Ok.ensures.empty) written.text;
      points = are.points;
      entries = written.many ∙ sym (len_rising written.given written.rise);
    }

pub returns-clause-unwritten : goal.returns-clause-unwritten
returns-clause-unwritten g c = λ files are.
    unwritten g.R.Read.remaining g.F.Write.contents files (with_items c.args.inputs.readers c.join_entries.new.inputs).items (g.M.Maker.refuses c.make.new.self) c.join_entries.new.out c.in-Err-join_entries.why c.fault_of-fault.result
    (have_header g.R.Read.remaining files c.args.inputs.readers.items are.opened are.readers c.args.inputs.header.run c.args.inputs.header.ranges.items are.headed)
    (unjoined g.R.Read.remaining files c.args.inputs.readers.items are.readers c.in-Err-join_entries.why (subst (λ inputs. IsUnjoinedFor g.R.Read.remaining inputs c.in-Err-join_entries.why) c.deref_mut.ensures.value c.in-Err-join_entries.ensures.cause))
    (λ none. join_tells c.args.inputs.readers c.join_entries.new.inputs c.in-Err-join_entries.why are.sound (failures_of c.join_entries.new.out) none
    (subst (λ (n : ℕ). JoinStands {X = ℕ} (map standing_of c.args.inputs.readers.items) (map standing_of c.join_entries.new.inputs) n (failures_of c.join_entries.new.out) (Err c.in-Err-join_entries.why)) c.new-file.ensures.none
    (subst (λ inputs. JoinStands {X = ℕ} (map standing_of inputs) (map standing_of c.join_entries.new.inputs) (failures_of c.new-file.result) (failures_of c.join_entries.new.out) (Err c.in-Err-join_entries.why)) c.deref_mut.ensures.value c.in-Err-join_entries.ensures.stand)))
    c.in-Err-join_entries.ensures.refusals
    (λ known. short_of (g.F.Write.contents c.new-file.result.inner) _ (known c.new-file.result.inner) (known c.join_entries.new.out.inner) (rw c.new-file.ensures.inner c.in-Ok.ensures.empty) c.in-Err-join_entries.ensures.short)
    c.fault_of-fault.ensures

pub returns-in-Err-clause-unwritten : goal.returns-in-Err-clause-unwritten
returns-in-Err-clause-unwritten g c = λ files are.
    subst (λ u. IsUnwritten g.R.Read.remaining g.F.Write.contents files u.inputs.items (g.M.Maker.refuses c.make.new.self) u.file u.fault) (sym c.unmade.ensures)
    (have_header g.R.Read.remaining files c.args.inputs.readers.items are.opened are.readers c.args.inputs.header.run c.args.inputs.header.ranges.items are.headed, c.in-Err.ensures.refused, refl)
