-- The state of a session after each call.
use Rattle.std.proofs.Common.{◌≡◌, ℕ, Bool, true, false, true≢false, List, [], ◌∷◌, ◌++◌, map, refl, ap, sym, ◌∙◌}
use Rattle.std.specs.Prelude.{Option, Some, None, is_some, ℤ}
use Rattle.std.proofs.lemmas.List.{map_push}
use Rattle.pc_types.specs.declared.Event.{Event}
use Rattle.pc_types.specs.declared.Event.TheVariants as asked
use Rattle.pc_types.specs.declared.Reply.TheVariants as told
use Rattle.pc_types.specs.declared.Receipt.{Receipt}
use Rattle.pc_types.specs.declared.Step.{Step}
use Rattle.pc_types.specs.declared.Change.TheVariants.{Add}
use Rattle.pc_types.specs.declared.Write.{Write}
use Rattle.pc_types.specs.Changes.{change_to}
use Rattle.pc_model.specs.Database.{write_of, with_write, written}
use Rattle.pc_model.specs.History.{History}
use Rattle.pc_model.specs.Replies.{Setting}
use Rattle.pc_model.specs.Calls.{step_of, Extends}
use Rattle.pc_model.specs.Receipts.{Read, with_read, Own, own_record, own_of, receipt_of}
use Rattle.pc_model.proofs.OwnCallLaws.{own_open}
use Rattle.pc_model.proofs.SessionCallLaws.{begun_own, found_own, absent_own, get_died_own, put_own, put_died_own, del_own, del_died_own, add_own, add_died_own, committed_own, aborted_own}
use Rattle.pc_txn.specs.declared.got.Got.{Got}
use Rattle.pc_txn.specs.declared.got.Got.TheVariants as got
use Rattle.pc_txn.specs.Commits.{CommitNote, commit_note, notes_of}
use Rattle.pc_txn.specs.Notes.{noting, reads_after, got_value}
use Rattle.pc_shared.specs.Asked.{IsGot, IsWriteMade, IsAdded, write_event}
use Rattle.pc_shared.specs.Finds.{value_found, found_in}
use Rattle.pc_shared.specs.Sitters.{SessionKeeps}

-- these facts of a session are all that is asked
whole : (busy : Bool) (rs : List Read) (ks : List CommitNote) (o : Own) (n : ℕ) (seen : History) → o ≡ own_of n seen → busy ≡ o.is_open → rs ≡ o.reads → ks ≡ notes_of o.receipts → SessionKeeps busy rs ks n seen
whole busy rs ks o n seen is b r k = record {
  when_open = sym (own_open n seen) ∙ (ap (λ (o : Own). o.is_open) (sym is) ∙ sym b);
  of_commits = k ∙ ap (λ (o : Own). notes_of o.receipts) is;
  while_busy = λ yes. r ∙ ap (λ (o : Own). o.reads) is;
}

-- the same if its transaction is over, whatever it keeps of that
idle : (busy : Bool) (rs : List Read) (ks : List CommitNote) (o : Own) (n : ℕ) (seen : History) → o ≡ own_of n seen → busy ≡ false → o.is_open ≡ false → ks ≡ notes_of o.receipts → SessionKeeps busy rs ks n seen
idle busy rs ks o n seen is over shut k = record {
  when_open = sym (own_open n seen) ∙ (ap (λ (o : Own). o.is_open) (sym is) ∙ (shut ∙ sym over));
  of_commits = k ∙ ap (λ (o : Own). notes_of o.receipts) is;
  while_busy = λ yes. absurd (true≢false (sym yes ∙ over));
}

module _ (st : Setting) (n : ℕ) (before after : History) where
  abbrev o : Own
  o = own_of n before

  begun : (t : ℕ) → Extends st before (step_of (asked.Begin n) (told.Begun t)) after → own_record true [] [] o.receipts ≡ own_of n after
  begun t x = begun_own st n before after o.receipts t refl x

  committed : (number : ℕ) → Extends st before (step_of (asked.Commit n) (told.Committed number)) after → own_record false o.writes o.reads (o.receipts ++ receipt_of n number o ∷ []) ≡ own_of n after
  committed number x = committed_own st n before after o.is_open o.writes o.reads o.receipts refl number x

  aborted : Extends st before (step_of (asked.Abort n) told.Aborted) after → own_record false o.writes o.reads o.receipts ≡ own_of n after
  aborted x = aborted_own st n before after o.is_open o.writes o.reads o.receipts refl x

  -- the reads that the history gives it after a read
  abbrev reads_then : Got → List ℕ → List Read
  reads_then (got.Found value) key = with_read o.writes o.reads key (Some value)
  reads_then got.Absent key = with_read o.writes o.reads key None
  reads_then got.Died key = o.reads

  got_own : (key : List ℕ) (g : Got) → IsGot st before n key g after → own_record o.is_open o.writes (reads_then g key) o.receipts ≡ own_of n after
  got_own key (got.Found v) x = found_own st n before after o.is_open o.writes o.reads o.receipts refl key v x
  got_own key got.Absent x = absent_own st n before after o.is_open o.writes o.reads o.receipts refl key x
  got_own key got.Died x = get_died_own st n before after o.is_open o.writes o.reads o.receipts refl key x

  -- the writes that it gives it after a write that was made, or whose request died
  abbrev writes_then : List ℕ → Option (List ℕ) → Bool → List Write
  writes_then key content true = with_write o.writes (write_of key (change_to content))
  writes_then key content false = o.writes

  made_own : (key : List ℕ) (content : Option (List ℕ)) (made : Bool) → IsWriteMade st before (write_event n key content) made after → own_record o.is_open (writes_then key content made) o.reads o.receipts ≡ own_of n after
  made_own key (Some value) true x = put_own st n before after o.is_open o.writes o.reads o.receipts refl key value x
  made_own key (Some value) false x = put_died_own st n before after o.is_open o.writes o.reads o.receipts refl key value x
  made_own key None true x = del_own st n before after o.is_open o.writes o.reads o.receipts refl key x
  made_own key None false x = del_died_own st n before after o.is_open o.writes o.reads o.receipts refl key x

  -- and after an add
  abbrev writes_added : List ℕ → ℤ → Option ℤ → List Write
  writes_added key delta (Some sum) = with_write o.writes (write_of key (Add delta))
  writes_added key delta None = o.writes

  summed_own : (key : List ℕ) (delta : ℤ) (sum : Option ℤ) → IsAdded st before (asked.Add n key delta) sum after → own_record o.is_open (writes_added key delta sum) o.reads o.receipts ≡ own_of n after
  summed_own key delta (Some sum) x = add_own st n before after o.is_open o.writes o.reads o.receipts refl key delta sum x
  summed_own key delta None x = add_died_own st n before after o.is_open o.writes o.reads o.receipts refl key delta x

  -- except for commits no call gives it a receipt
  pub begun_receipts : (t : ℕ) → Extends st before (step_of (asked.Begin n) (told.Begun t)) after → (own_of n after).receipts ≡ o.receipts
  begun_receipts t x = ap (λ (o : Own). o.receipts) (sym (begun t x))

  pub got_receipts : (key : List ℕ) (g : Got) → IsGot st before n key g after → (own_of n after).receipts ≡ o.receipts
  got_receipts key g x = ap (λ (o : Own). o.receipts) (sym (got_own key g x))

  pub made_receipts : (key : List ℕ) (content : Option (List ℕ)) (made : Bool) → IsWriteMade st before (write_event n key content) made after → (own_of n after).receipts ≡ o.receipts
  made_receipts key content made x = ap (λ (o : Own). o.receipts) (sym (made_own key content made x))

  pub summed_receipts : (key : List ℕ) (delta : ℤ) (sum : Option ℤ) → IsAdded st before (asked.Add n key delta) sum after → (own_of n after).receipts ≡ o.receipts
  summed_receipts key delta sum x = ap (λ (o : Own). o.receipts) (sym (summed_own key delta sum x))

  pub aborted_receipts : Extends st before (step_of (asked.Abort n) told.Aborted) after → (own_of n after).receipts ≡ o.receipts
  aborted_receipts x = ap (λ (o : Own). o.receipts) (sym (aborted x))

  pub committed_receipts : (number : ℕ) → Extends st before (step_of (asked.Commit n) (told.Committed number)) after → (own_of n after).receipts ≡ o.receipts ++ receipt_of n number o ∷ []
  committed_receipts number x = ap (λ (o : Own). o.receipts) (sym (committed number x))

  module _ (busy then : Bool) (rs rs' : List Read) (ks ks' : List CommitNote) (k : SessionKeeps busy rs ks n before) where
    opened : busy ≡ o.is_open
    opened = sym (own_open n before ∙ k.when_open)

    pub begin_keeps : (t : ℕ) → Extends st before (step_of (asked.Begin n) (told.Begun t)) after → then ≡ true → rs' ≡ [] → ks' ≡ ks → SessionKeeps then rs' ks' n after
    begin_keeps t x b r s = whole then rs' ks' (own_record true [] [] o.receipts) n after (begun t x) b r (s ∙ k.of_commits)

    noted : (key : List ℕ) (g : Got) (own_write : Bool) → busy ≡ true → own_write ≡ is_some (written o.writes key) → reads_after g own_write rs key ≡ reads_then g key
    noted key (got.Found v) own_write is mine = (λ i. noting (mine i) (k.while_busy is i) key (Some v))
    noted key got.Absent own_write is mine = (λ i. noting (mine i) (k.while_busy is i) key None)
    noted key got.Died own_write is mine = k.while_busy is

    pub read_keeps : (key : List ℕ) (g : Got) (own_write : Bool) → busy ≡ true → own_write ≡ is_some (written o.writes key) → IsGot st before n key g after → then ≡ busy → rs' ≡ reads_after g own_write rs key → ks' ≡ ks → SessionKeeps then rs' ks' n after
    read_keeps key g own_write is mine x b r s = whole then rs' ks' (own_record o.is_open o.writes (reads_then g key) o.receipts) n after (got_own key g x) (b ∙ opened) (r ∙ noted key g own_write is mine) (s ∙ k.of_commits)

    pub write_keeps : (key : List ℕ) (content : Option (List ℕ)) (made : Bool) → busy ≡ true → IsWriteMade st before (write_event n key content) made after → then ≡ busy → rs' ≡ rs → ks' ≡ ks → SessionKeeps then rs' ks' n after
    write_keeps key content made is x b r s = whole then rs' ks' (own_record o.is_open (writes_then key content made) o.reads o.receipts) n after (made_own key content made x) (b ∙ opened) (r ∙ k.while_busy is) (s ∙ k.of_commits)

    pub add_keeps : (key : List ℕ) (delta : ℤ) (sum : Option ℤ) → busy ≡ true → IsAdded st before (asked.Add n key delta) sum after → then ≡ busy → rs' ≡ rs → ks' ≡ ks → SessionKeeps then rs' ks' n after
    add_keeps key delta sum is x b r s = whole then rs' ks' (own_record o.is_open (writes_added key delta sum) o.reads o.receipts) n after (summed_own key delta sum x) (b ∙ opened) (r ∙ k.while_busy is) (s ∙ k.of_commits)

    pub commit_keeps : (number : ℕ) → busy ≡ true → Extends st before (step_of (asked.Commit n) (told.Committed number)) after → then ≡ false → ks' ≡ ks ++ commit_note number rs ∷ [] → SessionKeeps then rs' ks' n after
    commit_keeps number is x over s =
        let told : notes_of (o.receipts ++ receipt_of n number o ∷ []) ≡ notes_of o.receipts ++ commit_note number o.reads ∷ [] = map_push (λ (r : Receipt). commit_note r.number r.reads) o.receipts (receipt_of n number o) in
        idle then rs' ks' (own_record false o.writes o.reads (o.receipts ++ receipt_of n number o ∷ [])) n after (committed number x) over refl (s ∙ ((λ i. k.of_commits i ++ commit_note number (k.while_busy is i) ∷ []) ∙ sym told))

    pub abort_keeps : Extends st before (step_of (asked.Abort n) told.Aborted) after → then ≡ false → ks' ≡ ks → SessionKeeps then rs' ks' n after
    abort_keeps x over s = idle then rs' ks' (own_record false o.writes o.reads o.receipts) n after (aborted x) over refl (s ∙ k.of_commits)

-- the value that the newest step found
pub step_found : (st : Setting) (before after : History) (step : Step) → Extends st before step after → found_in after ≡ value_found step.reply
step_found st before after step x = ap found_in x.1.1

pub got_found : (st : Setting) (n : ℕ) (before after : History) (key : List ℕ) (g : Got) → IsGot st before n key g after → found_in after ≡ got_value g
got_found st n before after key (got.Found v) x = step_found st before after (step_of (asked.Get n key) (told.Found v)) x
got_found st n before after key got.Absent x = step_found st before after (step_of (asked.Get n key) told.Absent) x
got_found st n before after key got.Died x = step_found st before after (step_of (asked.Get n key) told.Died) x

pub made_found : (st : Setting) (before after : History) (event : Event) (made : Bool) → IsWriteMade st before event made after → found_in after ≡ None
made_found st before after event true x = step_found st before after (step_of event told.Ok) x
made_found st before after event false x = step_found st before after (step_of event told.Died) x

pub summed_found : (st : Setting) (before after : History) (event : Event) (sum : Option ℤ) → IsAdded st before event sum after → found_in after ≡ None
summed_found st before after event (Some sum) x = step_found st before after (step_of event (told.Sum sum)) x
summed_found st before after event None x = step_found st before after (step_of event told.Died) x
