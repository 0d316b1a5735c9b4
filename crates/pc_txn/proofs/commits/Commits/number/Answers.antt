use Rattle.std.proofs.Common.{sym, ap, ◌∙◌}
use Rattle.std.specs.Prelude.{option_map, slice_get}
use Rattle.pc_txn.specs.Commits.{CommitNote, Noted}
use Rattle.pc_txn.proofs.Filing.{found_at, filed_at, none_at}
use Rattle.pc_txn.proofs.commits.Commits.number.Goals as goal

pub returns-in-Some : goal.returns-in-Some
returns-in-Some c =
    let a = c.self.inside in
    let found = found_at a.heads.items _ c.args.place _ _ c.as_slice.ensures.value c.head_at.ensures c.in-Some.is in
    sym (ap (option_map (λ (n : CommitNote). n.number)) (ap (λ (n : Noted). slice_get n.items c.args.place) (sym c.self.view_is) ∙ filed_at 0 a.heads.items a.reads.items c.args.place c.in-Some.head found))

pub returns-in-None : goal.returns-in-None
returns-in-None c =
    let a = c.self.inside in
    let found = found_at a.heads.items _ c.args.place _ _ c.as_slice.ensures.value c.head_at.ensures c.in-None.is in
    sym (ap (option_map (λ (n : CommitNote). n.number)) (ap (λ (n : Noted). slice_get n.items c.args.place) (sym c.self.view_is) ∙ none_at 0 a.heads.items a.reads.items c.args.place found))
