use Rattle.std.proofs.Common.{◌≡◌, length, Some, None, Err, true, false, sym, ap, ◌∙◌}
use Rattle.std.proofs.lemmas.Result.{err_from_is_err_and}
use Rattle.pc_types.specs.declared.Refusal.{Refusal}
use Rattle.pc_types.specs.declared.Refusal.TheVariants.{OtherRun}
use Rattle.pc_stream_join.specs.Headers.{runs_fault}
use Rattle.pc_stream_join.proofs.HeaderLaws.{are_apart, fault_seen, headed, no_one_run, none_agree, none_fault, one_seen, run_refusal, same_runs, stay}
use Rattle.pc_stream_join.proofs.headers.read_headers.Goals as goal

pub returns-in_err-run-clause-cause : goal.returns-in_err-run-clause-cause
returns-in_err-run-clause-cause g c =
    let p = err_from_is_err_and c.from_residual-in_err-run.result c.from_residual-in_err-run.ensures.1 in
    let fault : runs_fault c.in_ok-seen.ensures.read.0 ≡ Some c.in_err-run.field-0.0 = fault_seen c.in_ok-seen.seen c.in_ok-seen.ensures.read.0 c.in_err-run.field-0.0 c.in_ok-seen.ensures.read.2 c.in_err-run.ensures.fault in
    rw (p.1, p.2) (no_one_run g.R.Read.remaining c.args.inputs.now c.read_runs.new.inputs c.in_ok-seen.ensures.read.0 c.in_err-run.field-0.0 c.in_ok-seen.ensures.read.1 fault)

pub returns-in_err-seen-clause-stand : goal.returns-in_err-seen-clause-stand
returns-in_err-seen-clause-stand g c =
    let p = err_from_is_err_and c.from_residual.result c.from_residual.ensures.1 in
    rw (p.1, p.2) c.in_err-seen.ensures.stand

pub unite_all-requires : goal.unite_all-requires
unite_all-requires g c = are_apart g.R.Read.remaining c.args.inputs.now c.read_runs.new.inputs c.in_ok-seen.ensures.read.0 c.in_ok-seen.ensures.read.1

pub returns-clause-headed : goal.returns-clause-headed
returns-clause-headed g c =
    let one = one_seen c.in_ok-seen.seen c.in_ok-seen.ensures.read.0 c.in_ok-run.run' c.in_ok-seen.ensures.read.2 c.in_ok-run.ensures.one in
    headed g.R.Read.remaining c.args.inputs.now c.read_runs.new.inputs c.in_ok-seen.ensures.read.0 c.in_ok-run.run' c.in_ok-ranges.ranges.items c.in_ok-seen.ensures.read.1 one.0 one.1 c.in_ok-ranges.ensures.apart c.in_ok-ranges.ensures.points

pub returns-clause-stays : goal.returns-clause-stays
returns-clause-stays g c = stay g.R.Read.remaining c.args.inputs.now c.read_runs.new.inputs c.in_ok-seen.ensures.read.0 c.in_ok-seen.ensures.read.1

pub returns-in_err-seen-clause-none : goal.returns-in_err-seen-clause-none
returns-in_err-seen-clause-none g c = λ none. let bad : false ≡ true = c.in_err-seen.ensures.none none in absurd cc

pub returns-in_err-run-clause-none : goal.returns-in_err-run-clause-none
returns-in_err-run-clause-none g c = λ none.
    let p = err_from_is_err_and c.from_residual-in_err-run.result c.from_residual-in_err-run.ensures.1 in
    let fault : runs_fault c.in_ok-seen.ensures.read.0 ≡ Some c.in_err-run.field-0.0 = fault_seen c.in_ok-seen.seen c.in_ok-seen.ensures.read.0 c.in_err-run.field-0.0 c.in_ok-seen.ensures.read.2 c.in_err-run.ensures.fault in
    rw (p.1, p.2) (ap (λ (why : Refusal). Err why) (none_fault g.R.Read.remaining c.args.inputs.now c.read_runs.new.inputs c.in_ok-seen.ensures.read.0 c.in_err-run.field-0.0 c.in_ok-seen.ensures.read.1 none fault))

pub returns-in_err-ranges-clause-none : goal.returns-in_err-ranges-clause-none
returns-in_err-ranges-clause-none g c = λ none.
    let agree : runs_fault c.in_ok-seen.ensures.read.0 ≡ None = (one_seen c.in_ok-seen.seen c.in_ok-seen.ensures.read.0 c.in_ok-run.run' c.in_ok-seen.ensures.read.2 c.in_ok-run.ensures.one).1 in
    absurd (none_agree g.R.Read.remaining c.args.inputs.now c.read_runs.new.inputs c.in_ok-seen.ensures.read.0 c.in_ok-seen.ensures.read.1 none agree)

pub returns-clause-none : goal.returns-clause-none
returns-clause-none g c = λ none.
    let agree : runs_fault c.in_ok-seen.ensures.read.0 ≡ None = (one_seen c.in_ok-seen.seen c.in_ok-seen.ensures.read.0 c.in_ok-run.run' c.in_ok-seen.ensures.read.2 c.in_ok-run.ensures.one).1 in
    absurd (none_agree g.R.Read.remaining c.args.inputs.now c.read_runs.new.inputs c.in_ok-seen.ensures.read.0 c.in_ok-seen.ensures.read.1 none agree)

pub returns-in_err-run-clause-refusals : goal.returns-in_err-run-clause-refusals
returns-in_err-run-clause-refusals g c =
    let p = err_from_is_err_and c.from_residual-in_err-run.result c.from_residual-in_err-run.ensures.1 in
    let fault : runs_fault c.in_ok-seen.ensures.read.0 ≡ Some c.in_err-run.field-0.0 = fault_seen c.in_ok-seen.seen c.in_ok-seen.ensures.read.0 c.in_err-run.field-0.0 c.in_ok-seen.ensures.read.2 c.in_err-run.ensures.fault in
    rw (p.1, p.2) (run_refusal g.R.Read.remaining c.args.inputs.now c.read_runs.new.inputs c.in_ok-seen.ensures.read.0 c.in_err-run.field-0.0 c.in_ok-seen.ensures.read.1 fault)

pub returns-in_err-seen-clause-two_runs : goal.returns-in_err-seen-clause-two_runs
returns-in_err-seen-clause-two_runs g c = λ runs read differ. absurd (c.in_err-seen.ensures.unread runs read)

pub returns-in_err-run-clause-two_runs : goal.returns-in_err-run-clause-two_runs
returns-in_err-run-clause-two_runs g c = λ runs read differ.
    let p = err_from_is_err_and c.from_residual-in_err-run.result c.from_residual-in_err-run.ensures.1 in
    let fault : runs_fault c.in_ok-seen.ensures.read.0 ≡ Some c.in_err-run.field-0.0 = fault_seen c.in_ok-seen.seen c.in_ok-seen.ensures.read.0 c.in_err-run.field-0.0 c.in_ok-seen.ensures.read.2 c.in_err-run.ensures.fault in
    let same : runs ≡ c.in_ok-seen.ensures.read.0 = same_runs g.R.Read.remaining (length c.args.inputs.now) c.args.inputs.now c.read_runs.new.inputs runs c.in_ok-seen.ensures.read.0 read c.in_ok-seen.ensures.read.1 in
    let why : Some c.in_err-run.field-0.0 ≡ Some OtherRun = sym fault ∙ ap runs_fault (sym same) ∙ differ in
    rw (p.1, p.2) (cc)

pub returns-in_err-ranges-clause-two_runs : goal.returns-in_err-ranges-clause-two_runs
returns-in_err-ranges-clause-two_runs g c = λ runs read differ.
    let agree : runs_fault c.in_ok-seen.ensures.read.0 ≡ None = (one_seen c.in_ok-seen.seen c.in_ok-seen.ensures.read.0 c.in_ok-run.run' c.in_ok-seen.ensures.read.2 c.in_ok-run.ensures.one).1 in
    let same : runs ≡ c.in_ok-seen.ensures.read.0 = same_runs g.R.Read.remaining (length c.args.inputs.now) c.args.inputs.now c.read_runs.new.inputs runs c.in_ok-seen.ensures.read.0 read c.in_ok-seen.ensures.read.1 in
    let bad : None ≡ Some OtherRun = sym agree ∙ ap runs_fault (sym same) ∙ differ in
    absurd cc

pub returns-clause-two_runs : goal.returns-clause-two_runs
returns-clause-two_runs g c = λ runs read differ.
    let agree : runs_fault c.in_ok-seen.ensures.read.0 ≡ None = (one_seen c.in_ok-seen.seen c.in_ok-seen.ensures.read.0 c.in_ok-run.run' c.in_ok-seen.ensures.read.2 c.in_ok-run.ensures.one).1 in
    let same : runs ≡ c.in_ok-seen.ensures.read.0 = same_runs g.R.Read.remaining (length c.args.inputs.now) c.args.inputs.now c.read_runs.new.inputs runs c.in_ok-seen.ensures.read.0 read c.in_ok-seen.ensures.read.1 in
    let bad : None ≡ Some OtherRun = sym agree ∙ ap runs_fault (sym same) ∙ differ in
    absurd cc
