-- The tickets that a collapser holds, ticket after ticket.
use Rattle.std.proofs.Common.{◌≡◌, ◌⊎◌, ℕ, suc, Bool, true, false, ◌||◌, Option, Some, None, MatchOption, List, [], ◌∷◌, ◌++◌, All, map, refl, ap, sym, subst, ◌∙◌, inl, inr, arith}
use Rattle.std.proofs.lemmas.List.{map-append}
use Rattle.std.proofs.lemmas.List.Elements.{All-nil, All-cons, All-append}
use Rattle.std.proofs.lemmas.List.Folds.{list_any-append}
use Rattle.pc_types.specs.declared.Refusal.{Refusal}
use Rattle.pc_types.specs.declared.Refusal.TheVariants.{NoFile, OutOfMemory}
use Rattle.pc_model.specs.Files.{File, joined_file}
use Rattle.pc_model.specs.Numbers.{same_number, is_one_of}
use Rattle.pc_model.specs.History.{History}
use Rattle.pc_model.specs.Replies.{Setting, IsLegalHistory}
use Rattle.pc_model.specs.Sets as set
use Rattle.pc_model.specs.Sets.{Set, number_order}
use Rattle.pc_model.proofs.SetLaws.{contains-from_list}
use Rattle.pc_model.proofs.ContentLaws.{contains-union}
use Rattle.pc_board.specs.Passes.{Pass}
use Rattle.pc_latch.specs.Tickets.{IsNoTicket}
use Rattle.pc_workers.specs.Boards.{HasClaimed}
use Rattle.pc_workers.specs.Collapsing.{has_point, HasSeenPublished, HasCollapsed, CollapserHasStopped, HasShown, HasEnded}
use Rattle.pc_workers.proofs.BoardCalls.{claimed_none, claimed_on, still_greatest}

or_false : (a : Bool) → (a || false) ≡ a
or_false true = refl
or_false false = refl

in_two : (a b c : Bool) → (a || ((b || c) || false)) ≡ ((a || (b || false)) || c)
in_two true b c = refl
in_two false true c = refl
in_two false false c = or_false c

-- after other files one more has its points
pub has_point_more : (files : List File) (file : File) (point : ℕ) → has_point (files ++ file ∷ []) point ≡ (has_point files point || set.contains file.points point)
has_point_more files file point =
    list_any-append (λ (f : File). set.contains f.points point) files (file ∷ [])
    ∙ ap (λ (b : Bool). has_point files point || b) (or_false (set.contains file.points point))

-- a join in the last one's place has the points of both
pub has_point_joined : (files : List File) (last file : File) (point : ℕ) → has_point (files ++ joined_file last file ∷ []) point ≡ (has_point (files ++ last ∷ []) point || set.contains file.points point)
has_point_joined files last file point =
    let any = λ (f : File). set.contains f.points point in
    let has = has_point files point in
    list_any-append any files (joined_file last file ∷ [])
    ∙ (ap (λ (b : Bool). has || (b || false)) (contains-union last.points file.points point)
    ∙ (in_two has (set.contains last.points point) (set.contains file.points point)
    ∙ ap (λ (b : Bool). b || set.contains file.points point) (sym (list_any-append any files (last ∷ [])))))

-- the set of one point
pub one_point : (point number : ℕ) → set.contains (let one : Set number_order = set.insert set.empty number in one) point ≡ is_one_of point (number ∷ [])
one_point point number = contains-from_list number_order (number ∷ []) point

-- The numbers that were claimed since were shown, and the files have just the points after them.
pub record Holds (points : ℕ) (before after : Pass) (files : List File) : Type 0 where
  pub taken : List ℕ
  pub claims : HasClaimed before after taken
  pub shown : All (HasSeenPublished points after) taken
  pub holds : (point : ℕ) → has_point files point ≡ is_one_of point (map suc taken)

pub holds_none : (points : ℕ) (pass : Pass) (files : List File) → files ≡ [] → Holds points pass pass files
holds_none points pass files none =
    record { taken = []; claims = claimed_none pass; shown = All-nil (HasSeenPublished points pass); holds = λ p. ap (λ fs. has_point fs p) none }

-- shown numbers are still shown
still_shown : (points : ℕ) (before after : Pass) (numbers taken : List ℕ) → HasClaimed before after numbers → All (HasSeenPublished points before) taken → All (HasSeenPublished points after) taken
still_shown points before after numbers taken a all = λ k d lt. let is = all k d lt in (is.0, omega (arith, is.1, still_greatest before after numbers a))

pub holds_more : (points number : ℕ) (first middle last : Pass) (files more : List File) (file : File) → Holds points first middle files → HasShown points middle last number → file.points ≡ set.insert set.empty (suc number)
    → ((point : ℕ) → has_point more point ≡ (has_point files point || set.contains file.points point)) → Holds points first last more
holds_more points number first middle last files more file h s of_it together = record {
  taken = h.taken ++ number ∷ [];
  claims = claimed_on first middle last h.taken (number ∷ []) h.claims s.0;
  shown = All-append (HasSeenPublished points last) h.taken (number ∷ []) (still_shown points middle last (number ∷ []) h.taken s.0 h.shown) (All-cons (HasSeenPublished points last) number [] s.1 (All-nil (HasSeenPublished points last)));
  holds = λ point.
      together point
      ∙ ((λ i. h.holds point i || set.contains (of_it i) point)
      ∙ (ap (λ (b : Bool). is_one_of point (map suc h.taken) || b) (one_point point (suc number))
      ∙ (sym (list_any-append (same_number point) (map suc h.taken) (suc number ∷ []))
      ∙ ap (is_one_of point) (sym (map-append suc h.taken (number ∷ []))))));
}

pub ends_so : (points : ℕ) (first middle last : Pass) (files : List File) → Holds points first middle files → HasEnded points middle last → HasCollapsed points first last files
ends_so points first middle last files h e = record {
  taken = h.taken;
  last = e.0;
  claims = claimed_on first middle last h.taken e.0 h.claims e.1;
  shown = still_shown points middle last e.0 h.taken e.1 h.shown;
  holds = h.holds;
  ended = e.2;
}

pub stops_so : (st : Setting) (points number : ℕ) (seen : History) (first middle last : Pass) (files : List File) (why : Refusal) → Holds points first middle files → HasShown points middle last number → IsLegalHistory st seen × IsNoTicket st seen (suc number) why
    → CollapserHasStopped st points seen first last why
stops_so st points number seen first middle last files why h s is = record {
  numbers = h.taken ++ number ∷ [];
  claims = claimed_on first middle last h.taken (number ∷ []) h.claims s.0;
  shown = All-append (HasSeenPublished points last) h.taken (number ∷ []) (still_shown points middle last (number ∷ []) h.taken s.0 h.shown) (All-cons (HasSeenPublished points last) number [] s.1 (All-nil (HasSeenPublished points last)));
  cause = inr (h.taken, number, refl, is.0, is.1);
}

pub stops_for_memory : (st : Setting) (points : ℕ) (seen : History) (first last : Pass) (files : List File) (why : Refusal) → Holds points first last files → why ≡ OutOfMemory → CollapserHasStopped st points seen first last why
stops_for_memory st points seen first last files why h is = record { numbers = h.taken; claims = h.claims; shown = h.shown; cause = inl is }

-- a ticket's file is that of a number that was claimed and shown
abbrev IsNext : ℕ → Pass → Pass → File → Type 0
IsNext points before after file = (number : ℕ) × HasShown points before after number × (file.points ≡ set.insert set.empty (suc number))

pub is_next : (points : ℕ) (before after : Pass) (next : Option File) (file : File) → next ≡ Some file → MatchOption next (HasEnded points before after) (IsNext points before after) → IsNext points before after file
is_next points before after next file is m = subst (λ (o : Option File). MatchOption o (HasEnded points before after) (IsNext points before after)) is m

pub is_none : (points : ℕ) (before after : Pass) (next : Option File) → next ≡ None → MatchOption next (HasEnded points before after) (IsNext points before after) → HasEnded points before after
is_none points before after next is m = subst (λ (o : Option File). MatchOption o (HasEnded points before after) (IsNext points before after)) is m

-- why a ticket is refused
pub ticket_why : (st : Setting) (seen : History) (number : ℕ) (why : Refusal) → IsNoTicket st seen number why → (why ≡ NoFile) ⊎ (why ≡ OutOfMemory)
ticket_why st seen number NoFile is = inl refl
ticket_why st seen number OutOfMemory is = inr refl
ticket_why st seen number other is = absurd is
