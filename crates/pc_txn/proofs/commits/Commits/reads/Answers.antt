use Rattle.std.proofs.Common.{◌≡◌, ◌≤◌, ◌<◌, ℕ, length, List, sym, ap, ◌∙◌, subst}
use Rattle.std.specs.Prelude.{slice_range}
use Rattle.pc_model.specs.Receipts.{Read}
use Rattle.pc_txn.specs.Commits.{Noted, reads_in, reads_at, begin_at}
use Rattle.pc_txn.proofs.Filing.{found_at, filed_at, none_at, lies, has_place}
use Rattle.pc_txn.proofs.commits.Commits.reads.Goals as goal

pub returns-in_default : goal.returns-in_default
returns-in_default c =
    let a = c.self.inside in
    let found = found_at a.heads.items _ c.args.place _ _ c.as_slice.ensures.value c.head_at.ensures c.in_default.is in
    sym (ap (λ (n : Noted). reads_at n.items c.args.place) (sym c.self.view_is) ∙ ap reads_in (none_at 0 a.heads.items a.reads.items c.args.place found))

pub begin_of-begin-requires : goal.begin_of-begin-requires
begin_of-begin-requires c =
    let a = c.self.inside in
    let found = found_at a.heads.items _ c.args.place _ _ c.as_slice.ensures.value c.head_at.ensures c.in-Some.is in
    subst (λ hs. c.args.place < length hs) (sym c.as_slice-2.ensures.value) (has_place a.heads.items c.args.place c.in-Some.head found)

pub part_of-requires : goal.part_of-requires
part_of-requires c =
    let a = c.self.inside in
    let found = found_at a.heads.items _ c.args.place _ _ c.as_slice.ensures.value c.head_at.ensures c.in-Some.is in
    let at = lies 0 a.heads.items (length a.reads.items) c.args.place c.in-Some.head c.self.invariant found in
    let begins = c.begin_of-begin.ensures ∙ ap (λ hs. begin_at 0 hs c.args.place) c.as_slice-2.ensures.value in (
      subst (λ (b : ℕ). b ≤ c.in-Some.head.reads_end) (sym begins) at.0,
      subst (λ (rs : List Read). c.in-Some.head.reads_end ≤ length rs) (sym c.as_slice-3.ensures.value) at.1,
    )

pub returns : goal.returns
returns c =
    let a = c.self.inside in
    let h = c.in-Some.head in
    let found = found_at a.heads.items _ c.args.place _ _ c.as_slice.ensures.value c.head_at.ensures c.in-Some.is in
    let begins : c.begin_of-begin.result ≡ begin_at 0 a.heads.items c.args.place = c.begin_of-begin.ensures ∙ ap (λ hs. begin_at 0 hs c.args.place) c.as_slice-2.ensures.value in
    (c.part_of.ensures ∙ (λ i. slice_range (c.as_slice-3.ensures.value i) (begins i) h.reads_end))
    ∙ sym (ap (λ (n : Noted). reads_at n.items c.args.place) (sym c.self.view_is) ∙ ap reads_in (filed_at 0 a.heads.items a.reads.items c.args.place h found))
