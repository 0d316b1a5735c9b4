use Rattle.std.proofs.Common.{ap, sym, length, ◌∙◌}
use Rattle.std.proofs.lemmas.List.{length-map}
use Rattle.pc_model.specs.TripleLists.{entry_of}
use Rattle.pc_verify.specs.Findings.{head_of}
use Rattle.pc_verify.proofs.findings.part_finding.Goals as goal

pub returns-in_ok-points-in-Ok : goal.returns-in_ok-points-in-Ok
returns-in_ok-points-in-Ok c = (
  c.in-Ok.part,
  c.in-Ok.ensures.exact,
  c.head_of.ensures ∙ ap (head_of c.args.bytes.now) c.run.ensures,
  c.in_ok-points-in-Ok.ensures,
  c.len.ensures ∙ sym (length-map c.entries.result entry_of) ∙ ap length c.entries.ensures.entries,
)
