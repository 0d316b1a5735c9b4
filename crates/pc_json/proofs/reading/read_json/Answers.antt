use Rattle.std.proofs.Common.{subst, sym, Some}
use Rattle.std.specs.Prelude.{IfOk, option_map, ◌≡◌}
use Rattle.serde_json.specs.View.{view}
use Rattle.pc_json.specs.JsonLines.{read_pair}
use Rattle.pc_json.proofs.JsonLaws.{line_is, no_line}
use Rattle.pc_json.proofs.reading.read_json.Goals as goal

pub returns-in_default : goal.returns-in_default
returns-in_default c = no_line c.args.line.now c.in_default.ensures.cases.0

pub returns-in-Ok-from_str : goal.returns-in-Ok-from_str
returns-in-Ok-from_str c =
    let is = line_is c.args.line.now c.in-Ok.text.now (Some (view c.in-Ok-from_str.value)) c.in-Ok.ensures.cases.0 c.in-Ok.ensures.cases.1 c.in-Ok-from_str.ensures.ok in
    subst (λ o. IfOk c.line_pair.result (λ found. option_map read_pair found ≡ o)) (sym is) c.line_pair.ensures
