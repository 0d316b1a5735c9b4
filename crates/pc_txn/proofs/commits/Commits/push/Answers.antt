use Rattle.std.proofs.Common.{◌≡◌, ◌++◌, ◌∷◌, [], ◌≤◌, ◌+◌, ℕ, length, List, sym, ap, ◌∙◌, subst, arith}
use Rattle.std.proofs.lemmas.List.{length-append}
use Rattle.pc_txn.specs.declared.commits.Head.{Head}
use Rattle.pc_txn.specs.Commits.{Noted, commit_note, notes_from, EndAt}
use Rattle.pc_txn.proofs.Filing.{filed_with, ends_with}
use Rattle.pc_txn.proofs.commits.Commits.push.Goals as goal

pub invariant_of-self : goal.invariant_of-self
invariant_of-self c =
    let a = c.self.inside in
    let rs = c.move_into.new.list in
    let h : Head = record { number = c.args.number; reads_end = c.len.result } in
    let reads_end : c.len.result ≡ length rs.items = c.len.ensures ∙ rs.ok.0 in
    let longer : length a.reads.items ≤ c.len.result = (let more = ap length c.move_into.ensures.list ∙ length-append a.reads.items c.args.reads.now.items in omega (arith, reads_end, more)) in
    subst (λ (hs : List Head). EndAt 0 hs (length rs.items)) (sym c.push_reserved.ensures.items)
    (subst (λ (n : ℕ). EndAt 0 (a.heads.items ++ h ∷ []) n) reads_end (ends_with 0 a.heads.items h (length a.reads.items) c.self.invariant longer))

pub returns-clause-commits : goal.returns-clause-commits
returns-clause-commits c =
    let a = c.self.inside in
    let h : Head = record { number = c.args.number; reads_end = c.len.result } in
    let rs = c.args.reads.now.items in
    let reads_end : c.len.result ≡ length a.reads.items + length rs = c.len.ensures ∙ (c.move_into.new.list.ok.0 ∙ (ap length c.move_into.ensures.list ∙ length-append a.reads.items rs)) in
    (λ i. notes_from 0 (c.push_reserved.ensures.items i) (c.move_into.ensures.list i))
    ∙ (filed_with 0 a.heads.items h a.reads.items rs c.self.invariant reads_end
    ∙ ap (λ (n : Noted). n.items ++ commit_note c.args.number rs ∷ []) c.self.view_is)
