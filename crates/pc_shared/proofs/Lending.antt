-- A receipt as a view of a session and the log.
use Rattle.std.proofs.Common.{◌≡◌, ◌+◌, ◌-◌, ◌<◌, ℕ, List, [], ◌∷◌, ◌++◌, length, get_or, All, Option, Some, None, option_map, refl, ap, sym, ◌∙◌, subst, arith}
use Rattle.std.specs.Prelude.{slice_get}
use Rattle.std.proofs.lemmas.Option.{slice_get-map, slice_get_within, get_or_from_slice_get}
use Rattle.pc_types.specs.declared.Entry.{Entry}
use Rattle.pc_types.specs.declared.Receipt.{Receipt}
use Rattle.pc_model.specs.Database.{Database}
use Rattle.pc_model.specs.History.{History, log_of}
use Rattle.pc_model.specs.Replies.{Setting}
use Rattle.pc_model.specs.Receipts.{Read, IsReceipt}
use Rattle.pc_txn.specs.Commits.{CommitNote, commit_note, notes_of, reads_in, reads_at}
use Rattle.pc_kept_log.specs.Logs.{writes_of_entry}
use Rattle.pc_shared.specs.Lent.{entry_writes, AreLentBy}
use Rattle.pc_shared.specs.Sitters.{Sitter, IsSitterSettled}

-- a fact of all is one of the element at the place
pub at_place : {X : Type 0} (P : X → Type 0) (xs : List X) (i : ℕ) (x : X) → All P xs → slice_get xs i ≡ Some x → P x
at_place P xs i x all is = subst P (get_or_from_slice_get xs i x x is) (all i x (slice_get_within xs i x is))

-- the entry after the front
entry_there : (front behind : List Entry) (e : Entry) → slice_get (front ++ e ∷ behind) (length front) ≡ Some e
entry_there [] behind e = refl
entry_there (f ∷ front) behind e = entry_there front behind e

-- an exact receipt has the writes of its entry
writes_there : (base : Database) (log : List Entry) (s : ℕ) (r : Receipt) → IsReceipt base log s r → entry_writes log r.number ≡ r.writes
writes_there base log s r is =
    let number = is.3.number in
    let place : r.number - 1 ≡ length is.0 = omega (arith, number) in
    ap (λ (n : ℕ). writes_of_entry (slice_get log n)) place ∙ (ap (λ (l : List Entry). writes_of_entry (slice_get l (length is.0))) is.2 ∙ ap writes_of_entry (entry_there is.0 is.1 _))

-- of sessions that a history has settled the receipts are views of its log
pub all_lent : (st : Setting) (hist : History) (ss : List Sitter) → All (IsSitterSettled st hist) ss → All (AreLentBy (log_of hist)) ss
all_lent st hist ss settled i d lt j r lt' =
    let s = get_or ss i d in
    let is = (settled i d lt).exact.each j r lt' in
    (is.3.session, writes_there st.base (log_of hist) s.number (get_or s.receipts j r) is)

abbrev note_of : Receipt → CommitNote
note_of r = commit_note r.number r.reads

module _ (log : List Entry) (s : Sitter) (lent_by : AreLentBy log s) where
  by_case : (place number : ℕ) (reads : List Read) (o : Option Receipt) → slice_get s.receipts place ≡ o → Some number ≡ option_map (λ (n : CommitNote). n.number) (option_map note_of o) → reads ≡ reads_in (option_map note_of o)
      → Some (record { number = number; session = s.number; reads = reads; writes = entry_writes log number }) ≡ o
  by_case place number reads None there told is = absurd (cc (told))
  by_case place number reads (Some r) there told is =
      let one = at_place (λ (r : Receipt). (r.session ≡ s.number) × (entry_writes log r.number ≡ r.writes)) s.receipts place r lent_by there in
      let same : number ≡ r.number = cc (told) in
      let writes = ap (entry_writes log) same ∙ one.1 in
      (λ i. Some (record { number = same i; session = sym one.0 i; reads = is i; writes = writes i }))

  -- a receipt is that of its note and its entry
  pub lent : (place number : ℕ) (reads : List Read) → Some number ≡ option_map (λ (n : CommitNote). n.number) (slice_get (notes_of s.receipts) place) → reads ≡ reads_at (notes_of s.receipts) place
      → Some (record { number = number; session = s.number; reads = reads; writes = entry_writes log number }) ≡ slice_get s.receipts place
  lent place number reads told is =
      let noted = slice_get-map note_of s.receipts place in
      by_case place number reads (slice_get s.receipts place) refl (told ∙ ap (option_map (λ (n : CommitNote). n.number)) noted) (is ∙ ap reads_in noted)

-- if there is no note there is none
unnoted : (o : Option Receipt) → None ≡ option_map (λ (n : CommitNote). n.number) (option_map note_of o) → None ≡ o
unnoted None told = refl
unnoted (Some r) told = absurd (cc (told))

pub none_lent : (rs : List Receipt) (place : ℕ) → None ≡ option_map (λ (n : CommitNote). n.number) (slice_get (notes_of rs) place) → None ≡ slice_get rs place
none_lent rs place told = unnoted (slice_get rs place) (told ∙ ap (option_map (λ (n : CommitNote). n.number)) (slice_get-map note_of rs place))
