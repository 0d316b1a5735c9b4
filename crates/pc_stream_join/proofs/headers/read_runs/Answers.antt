use Rattle.std.proofs.Common.{◌≡◌, ℕ, ◌++◌, ◌∷◌, [], length, add-one, length-set, get_or, ◌∙◌, refl, subst, arith}
use Rattle.std.proofs.lemmas.Result.{err_from_is_err_and}
use Rattle.pc_streams.specs.Readers.{standing_of}
use Rattle.pc_stream_join.specs.Headers.{AreReadTo, IsHeaderRead}
use Rattle.pc_stream_join.proofs.StandingLaws.{ok_stands}
use Rattle.pc_stream_join.proofs.HeaderLaws.{more_seen, next_refused, next_stands, next_unread, one_read_now, still}
use Rattle.pc_stream_join.proofs.headers.read_runs.Goals as goal

pub returns-in_err-run-clause-cause : goal.returns-in_err-run-clause-cause
returns-in_err-run-clause-cause g c =
    let p = err_from_is_err_and c.from_residual.result c.from_residual.ensures.1 in
    rw (p.1, p.2) (next_refused g.R.Read.remaining c.loop-place.place c.args.inputs.now c.loop-place.inputs c.loop-place.invariant.read.0 c.index-inputs-place.result c.header.new.self c.in_err-run.field-0.0
    c.loop-place.invariant.read.1 (omega arith) c.in_err-run.ensures.header)

pub returns-in_err-run-clause-stand : goal.returns-in_err-run-clause-stand
returns-in_err-run-clause-stand g c =
    let p = err_from_is_err_and c.from_residual.result c.from_residual.ensures.1 in
    rw (p.1, p.2) (next_stands g.R.Read.remaining c.loop-place.place c.args.inputs.now c.loop-place.inputs c.loop-place.invariant.read.0 c.index-inputs-place.result c.header.new.self c.in_err-run.field-0.0
    c.loop-place.invariant.read.1 (omega arith) c.in_err-run.ensures.stands)

pub loop-place-preserved : goal.loop-place-preserved
loop-place-preserved g c =
    let is : IsHeaderRead g.R.Read.remaining (get_or c.loop-place.inputs c.loop-place.place c.index-inputs-place.result) c.header.new.self c.in_ok-run.run' = record {
      told = c.in_ok-run.ensures.told;
      apart = c.in_ok-run.ensures.apart;
      header = c.in_ok-run.ensures.stays;
      coming = c.in_ok-run.ensures.coming;
      stands = ok_stands (standing_of (get_or c.loop-place.inputs c.loop-place.place c.index-inputs-place.result)) (standing_of c.header.new.self) c.in_ok-run.run' c.in_ok-run.ensures.stands;
      within = c.in_ok-run.ensures.within;
    } in
    let more = one_read_now g.R.Read.remaining c.loop-place.place c.args.inputs.now c.loop-place.inputs c.loop-place.invariant.read.0 c.header.new.self c.index-inputs-place.result c.in_ok-run.run' c.loop-place.invariant.read.1 (omega arith) is in
    record {
      read = (c.loop-place.invariant.read.0 ++ c.in_ok-run.run' ∷ [], rw add-one more, more_seen c.loop-place.seen c.and-seen.result c.loop-place.invariant.read.0 c.in_ok-run.run' c.loop-place.invariant.read.2 c.and-seen.ensures);
      many = length-set c.loop-place.inputs c.loop-place.place c.header.new.self ∙ c.loop-place.invariant.many;
    }

pub returns-clause-read : goal.returns-clause-read
returns-clause-read g c =
    let all : c.loop-place.place ≡ length c.args.inputs.now = omega arith in
    (c.loop-place.invariant.read.0, subst (λ (n : ℕ). AreReadTo g.R.Read.remaining n c.args.inputs.now c.loop-place.inputs c.loop-place.invariant.read.0) all c.loop-place.invariant.read.1, c.loop-place.invariant.read.2)

pub returns-clause-stand : goal.returns-clause-stand
returns-clause-stand g c = still g.R.Read.remaining c.loop-place.place c.args.inputs.now c.loop-place.inputs c.loop-place.invariant.read.0 c.loop-place.invariant.read.1

pub returns-in_err-run-clause-unread : goal.returns-in_err-run-clause-unread
returns-in_err-run-clause-unread g c =
    let p = err_from_is_err_and c.from_residual.result c.from_residual.ensures.1 in
    rw p.1 (next_unread g.R.Read.remaining c.loop-place.place c.args.inputs.now c.loop-place.inputs c.loop-place.invariant.read.0 c.index-inputs-place.result c.header.new.self c.in_err-run.field-0.0 c.loop-place.invariant.read.1 (omega arith) c.in_err-run.ensures.refused)

pub loop-place-init : goal.loop-place-init
loop-place-init g c = record { read = ([], (refl, refl), refl); many = refl }
