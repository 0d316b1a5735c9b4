use Rattle.std.proofs.Common.{ap, sym, ◌∙◌}
use Rattle.std.specs.Prelude.{option_map, unwrap_or}
use Rattle.serde_json.specs.Events.{members_len}
use Rattle.pc_json.proofs.JsonLaws.{length_of}
use Rattle.pc_json.proofs.reading.member_count.Goals as goal

pub returns-in-Some : goal.returns-in-Some
returns-in-Some c = c.len.ensures.len ∙ sym (length_of c.in-Some.members.now.entries) ∙ ap (λ o. unwrap_or (option_map members_len o) 0) c.in-Some.ensures
