use Rattle.std.proofs.Common.{arith}
use Rattle.pc_collapse.proofs.DealtFiles.{all_become, become_worth}
use Rattle.pc_collapse.proofs.rounds.round.Goals as goal

pub returns : goal.returns
returns g c =
    let len = c.in_ok-joined.ensures.len in
    let dealt = c.in_ok-dealt.dealt.ok.0 in
    let joined = c.in_ok-joined.joined.ok.0 in
    become_worth _ _ _ c.in_ok-dealt.ensures (c.gather.ensures _ (all_become c.in_ok-dealt.dealt.items c.in_ok-joined.joined.items (omega (arith, len, dealt, joined)) c.in_ok-joined.ensures.each))
