use Rattle.std.proofs.Common.{◌≡◌, ap, subst, ◌∙◌, string_bytes}
use Rattle.std.specs.Prelude.{OnOk}
use Rattle.serde_json.specs.Data.{put}
use Rattle.serde_json.specs.View.{members_view}
use Rattle.pc_json.proofs.JsonLaws.{as_base64, as_text, view_string}
use Rattle.pc_json.proofs.writing.put_bytes.Goals as goal

pub returns-in_ok-text-in-Ok : goal.returns-in_ok-text-in-Ok
returns-in_ok-text-in-Ok c =
    let old = members_view c.args.members.now.entries in
    let text = c.in_ok-text-in-Ok.text in
    let is = ap (λ d. put c.args.name.now d old) (view_string text) ∙ as_text c.args.name.now c.args.name64.now c.args.bytes.now (string_bytes text) old (c.in_ok-text-in-Ok.ensures.ok ∙ c.in-Ok.ensures.cases.0) c.in-Ok.ensures.cases.1 in
    subst (λ members. OnOk c.put.result (members_view c.put.new.map.entries ≡ members)) is c.put.ensures.ok

pub returns-in_ok-text-in-Err : goal.returns-in_ok-text-in-Err
returns-in_ok-text-in-Err c =
    let old = members_view c.args.members.now.entries in
    let text = c.in_ok-text-in-Err.text in
    let is = ap (λ d. put c.args.name64.now d old) (view_string text) ∙ as_base64 c.args.name.now c.args.name64.now c.args.bytes.now (string_bytes text) old c.in_ok-text-in-Err.ensures.text c.in-Err.ensures.cases.0 in
    subst (λ members. OnOk c.put-in-Err.result (members_view c.put-in-Err.new.map.entries ≡ members)) is c.put-in-Err.ensures.ok
