use Rattle.std.proofs.Common.{ℕ, List, Err, map, refl, sym, ap, subst, ◌∙◌, inl, inr}
use Rattle.std.proofs.lemmas.Result.{err_from_is_err_and}
use Rattle.pc_io.specs.Tallies.{failures_of, inner_of}
use Rattle.pc_part.specs.Parts.{points_in}
use Rattle.pc_part.proofs.RangePointLaws.{items-points_of}
use Rattle.pc_merge.specs.Coming.{Standing}
use Rattle.pc_streams.specs.Readers.{standing_of}
use Rattle.pc_stream_join.specs.Joining.{JoinStands}
use Rattle.pc_stream_join.proofs.FileLaws.{nothing_short}
use Rattle.pc_stream_join.proofs.StartLaws.{inputs_refused, known_stays, were_headed}
use Rattle.pc_stream_join.proofs.join.stream_join.Goals as goal

pub returns-in_err-header-clause-short : goal.returns-in_err-header-clause-short
returns-in_err-header-clause-short g c =
    let p = err_from_is_err_and c.from_residual.result c.from_residual.ensures.1 in
    rw p.1 (nothing_short (g.W.Write.contents (inner_of c.args.out.now)))

pub returns-in_err-header-clause-stand : goal.returns-in_err-header-clause-stand
returns-in_err-header-clause-stand g c =
    let p = err_from_is_err_and c.from_residual.result c.from_residual.ensures.1 in
    rw (p.1, p.2) (inputs_refused ℕ (map standing_of c.args.inputs.now) (map standing_of c.read_headers.new.inputs) (failures_of c.args.out.now) c.in_err-header.field-0.0 c.in_err-header.ensures.stand)

pub returns-in_err-points_in-clause-short : goal.returns-in_err-points_in-clause-short
returns-in_err-points_in-clause-short g c =
    let p = err_from_is_err_and c.from_residual-in_err-points_in.result c.from_residual-in_err-points_in.ensures.1 in
    rw p.1 (nothing_short (g.W.Write.contents (inner_of c.args.out.now)))

pub returns-in_err-header-clause-cause : goal.returns-in_err-header-clause-cause
returns-in_err-header-clause-cause g c =
    let p = err_from_is_err_and c.from_residual.result c.from_residual.ensures.1 in
    rw (p.1, p.2) (inl (c.in_err-header.ensures.cause, c.in_err-header.ensures.refusals, λ runs read other. let said = c.in_err-header.ensures.two_runs runs read other in cc, refl))

pub returns-in_err-points_in-clause-cause : goal.returns-in_err-points_in-clause-cause
returns-in_err-points_in-clause-cause g c =
    let p = err_from_is_err_and c.from_residual-in_err-points_in.result c.from_residual-in_err-points_in.ensures.1 in
    rw (p.1, p.2) (inr (were_headed g.R.Read.remaining c.args.inputs.now c.read_headers.new.inputs c.in_ok-header.header.run c.in_ok-header.header.ranges.items c.in_ok-header.ensures.stays c.in_ok-header.ensures.headed, λ was known. inl refl, inr (inr (inl refl))))

pub returns-in_err-entries-clause-cause : goal.returns-in_err-entries-clause-cause
returns-in_err-entries-clause-cause g c =
    let p = err_from_is_err_and c.from_residual-in_err-entries.result c.from_residual-in_err-entries.ensures.1 in
    rw (p.1, p.2) (inr (
      were_headed g.R.Read.remaining c.args.inputs.now c.read_headers.new.inputs c.in_ok-header.header.run c.in_ok-header.header.ranges.items c.in_ok-header.ensures.stays c.in_ok-header.ensures.headed,
      λ was known. c.in_err-entries.ensures.cause was (known_stays g.R.Read.remaining c.args.inputs.now c.read_headers.new.inputs was c.in_ok-header.ensures.stays known),
      c.in_err-entries.ensures.refusals,
    ))

pub returns-in_err-entries-clause-stand : goal.returns-in_err-entries-clause-stand
returns-in_err-entries-clause-stand g c =
    let p = err_from_is_err_and c.from_residual-in_err-entries.result c.from_residual-in_err-entries.ensures.1 in
    rw (p.1, p.2) (subst (λ (ss : List Standing). JoinStands {X = ℕ} ss (map standing_of c.join_entries.new.inputs) (failures_of c.args.out.now) (failures_of c.join_entries.new.out) (Err c.in_err-entries.field-0.0)) c.in_ok-header.ensures.stand c.in_err-entries.ensures.stand)

pub returns-clause-joined : goal.returns-clause-joined
returns-clause-joined g c = record {
  header =
      record {
        run = c.in_ok-header.header.run;
        ranges = c.in_ok-header.header.ranges.items;
        read = c.read_headers.new.inputs;
        stays = c.in_ok-header.ensures.stays;
        headed = c.in_ok-header.ensures.headed;
      };
  written = c.in_ok-entries.ensures.written;
  points = c.from_vec-points.ensures ∙ c.in_ok-points_in.ensures ∙ ap points_in c.deref.ensures.value ∙ sym (items-points_of c.in_ok-header.header.ranges.items c.in_ok-header.ensures.headed.of_all.apart);
}
