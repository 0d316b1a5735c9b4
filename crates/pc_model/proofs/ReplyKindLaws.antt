-- Of which kind a legal reply is.
use Rattle.pc_types.specs.Changes.{added}
use Rattle.std.proofs.Common.{◌≡◌, ◌⊎◌, ◌==◌, ◌+◌, not, length, ℕ, Bool, true, false, cond, List, [], ◌∷◌, ◌++◌, sym, subst, ⊎_elim}
use Rattle.std.specs.Prelude.{Option, Some, None, MatchOption, IfSome, is_none, ◌||◌, ℤ}
use Rattle.pc_types.specs.declared.Phase.{Phase}
use Rattle.pc_types.specs.declared.Phase.TheVariants as phase
use Rattle.pc_types.specs.declared.Class.{Class}
use Rattle.pc_types.specs.declared.Class.TheVariants.{Before, During, After}
use Rattle.pc_types.specs.declared.Mode.TheVariants.{Shared, Exclusive}
use Rattle.pc_types.specs.declared.Outcome.{Outcome}
use Rattle.pc_types.specs.declared.Outcome.TheVariants.{Granted, Queued, Died}
use Rattle.pc_types.specs.declared.Event.{Event}
use Rattle.pc_types.specs.declared.Event.TheVariants as asked
use Rattle.pc_types.specs.declared.Reply.{Reply}
use Rattle.pc_types.specs.declared.Reply.TheVariants as told
use Rattle.pc_types.specs.declared.Refusal.{Refusal}
use Rattle.pc_types.specs.declared.Refusal.TheVariants as why
use Rattle.pc_types.specs.declared.limits.TheConstants.{MOST_FILES, MOST_POINTS, MOST_TRANSACTIONS}
use Rattle.pc_model.specs.Maps.{get}
use Rattle.pc_model.specs.Database.{written, seen}
use Rattle.pc_model.specs.History.{History, is_open, begun, writes_of, transaction_number_of, log_of, contents, point_of}
use Rattle.pc_model.specs.Points.{taken}
use Rattle.pc_model.specs.Files.{File, shelf, file_at, join_of}
use Rattle.pc_model.specs.Locks.{outcome, queue_of}
use Rattle.pc_model.specs.Replies.{Setting, first_refusal, or_else, no_session, is_full, log_is_full, transaction_causes, write_causes, not_yet, wrong_phase, held_back_reply, closed_set, is_empty, join_causes, read_reply, by_outcome, TakesFirst, IsFileReply, IsLegal, add_causes, seen_by, sum_or_zero}
use Rattle.pc_model.specs.ReplyKinds.{IsBeginReply, IsGetReply, IsWriteReply, IsCommitReply, IsAbortReply, IsMoveReply, IsTakeReply, IsDoneReply, IsJoinReply, IsReplyTo, IsAddReply}
use Rattle.pc_model.proofs.CertainReplies.{answer_or_kind, by_either, by_causes, by_phase, by_count, by_held}

-- if what is certain is of the kind, and so are the answer and a refusal, a legal reply is
by_due : (Kind : Reply → Type 0) → Kind (told.Refused why.OutOfMemory) → (o : Option Reply) → IfSome o Kind → (Answer : Type 0) (reply : Reply) → (Answer → Kind reply)
    → MatchOption o (Answer ⊎ (reply ≡ told.Refused why.OutOfMemory)) (λ due. reply ≡ due) → Kind reply
by_due Kind out o is Answer reply fits legal = ⊎_elim (λ answered. fits answered.1) (λ kind. kind) (answer_or_kind Kind out o is Answer reply legal)

-- an answer that is this one is of the kind if this one is
as_told : (Kind : Reply → Type 0) (answer reply : Reply) → Kind answer → reply ≡ answer → Kind reply
as_told Kind answer reply fits is = subst Kind (sym is) fits

module _ (Kind : Reply → Type 0) (refused : (r : Refusal) → Kind (told.Refused r)) where
  legal_kind : (causes : List (Bool × Refusal)) (Answer : Type 0) (reply : Reply) → (Answer → Kind reply) → MatchOption (first_refusal causes) (Answer ⊎ (reply ≡ told.Refused why.OutOfMemory)) (λ due. reply ≡ due) → Kind reply
  legal_kind causes = by_due Kind (refused why.OutOfMemory) (first_refusal causes) (by_causes Kind refused causes)

read_kind : (o : Outcome) (found : Option (List ℕ)) → IsGetReply (by_outcome o (read_reply found))
read_kind Granted None = tt
read_kind Granted (Some v) = tt
read_kind Queued found = tt
read_kind Died found = tt

write_kind : (o : Outcome) → IsWriteReply (by_outcome o told.Ok)
write_kind Granted = tt
write_kind Queued = tt
write_kind Died = tt

add_kind : (o : Outcome) (sum : ℤ) → IsAddReply (by_outcome o (told.Sum sum))
add_kind Granted sum = tt
add_kind Queued sum = tt
add_kind Died sum = tt

none_left_kind : (b : Bool) → IfSome (cond b (Some told.NoneLeft) None) IsTakeReply
none_left_kind true = tt
none_left_kind false = tt

took_kind : (keys : List (List ℕ)) (reply : Reply) → TakesFirst keys reply → IsTakeReply reply
took_kind [] reply takes = absurd takes
took_kind (key ∷ keys) reply takes = subst IsTakeReply (sym takes.1) tt

file_kind : (files : List File) (number : ℕ) (reply : Reply) → IsFileReply files number reply → IsJoinReply reply
file_kind [] number reply is = absurd is
file_kind (f ∷ fs) number reply is = subst IsJoinReply (sym is) tt

move_kind : (st : Setting) (from : Phase) (class : Class) (h : History) (to : Phase) (reply : Reply)
    → MatchOption (held_back_reply st from class h) ((reply ≡ told.Phase to (point_of h)) ⊎ (reply ≡ told.Refused why.OutOfMemory)) (λ due. reply ≡ due) → IsMoveReply reply
move_kind st from class h to reply =
    by_due IsMoveReply tt (held_back_reply st from class h) (by_held IsMoveReply (λ r. tt) (λ count. tt) st from class h) (reply ≡ told.Phase to (point_of h)) reply (as_told IsMoveReply (told.Phase to (point_of h)) reply tt)

pub reply_kind : (st : Setting) (h : History) (e : Event) (r : Reply) → IsLegal st h e r → IsReplyTo e r
reply_kind st h (asked.Begin s) r legal =
    legal_kind IsBeginReply (λ w. tt) ((no_session st s, why.NoSession) ∷ (is_open s h, why.AlreadyBegun) ∷ (begun h == MOST_TRANSACTIONS, why.LogFull) ∷ []) (r ≡ told.Begun (begun h + 1)) r (as_told IsBeginReply (told.Begun (begun h + 1)) r tt) legal
reply_kind st h (asked.Get s key) r legal =
    let found = seen (written (writes_of s h) key) (get (contents st.base h) key) in
    let o = outcome (queue_of key h) (transaction_number_of s h) Shared in
    legal_kind IsGetReply (λ w. tt) (transaction_causes st s h ++ (is_full st key h, why.Full) ∷ []) (r ≡ by_outcome o (read_reply found)) r (as_told IsGetReply (by_outcome o (read_reply found)) r (read_kind o found)) legal
reply_kind st h (asked.Put s key value) r legal =
    let o = outcome (queue_of key h) (transaction_number_of s h) Exclusive in
    legal_kind IsWriteReply (λ w. tt) (write_causes st s key h) (r ≡ by_outcome o told.Ok) r (as_told IsWriteReply (by_outcome o told.Ok) r (write_kind o)) legal
reply_kind st h (asked.Del s key) r legal =
    let o = outcome (queue_of key h) (transaction_number_of s h) Exclusive in
    legal_kind IsWriteReply (λ w. tt) (write_causes st s key h) (r ≡ by_outcome o told.Ok) r (as_told IsWriteReply (by_outcome o told.Ok) r (write_kind o)) legal
reply_kind st h (asked.Add s key delta) r legal =
    let o = outcome (queue_of key h) (transaction_number_of s h) Exclusive in
    let sum = sum_or_zero (added delta (seen_by st s key h)) in
    legal_kind IsAddReply (λ w. tt) (write_causes st s key h ++ add_causes st s key delta h) (r ≡ by_outcome o (told.Sum sum)) r (as_told IsAddReply (by_outcome o (told.Sum sum)) r (add_kind o sum)) legal
reply_kind st h (asked.Commit s) r legal =
    let answer : Reply = told.Committed (length (log_of h) + 1) in
    legal_kind IsCommitReply (λ w. tt) (transaction_causes st s h ++ (log_is_full h, why.LogFull) ∷ []) (r ≡ answer) r (as_told IsCommitReply answer r tt) legal
reply_kind st h (asked.Abort s) r legal =
    let causes : List (Bool × Refusal) = (no_session st s, why.NoSession) ∷ (not (is_open s h), why.NoTransaction) ∷ [] in
    by_due IsAbortReply tt (or_else (first_refusal causes) (Some told.Aborted)) (by_either IsAbortReply (first_refusal causes) (Some told.Aborted) (by_causes IsAbortReply (λ w. tt) causes) tt) ⊥ r (λ none. absurd none) legal
reply_kind st h asked.StartPoint r legal =
    let causes : List (Bool × Refusal) = (point_of h == MOST_POINTS, why.PointsFull) ∷ (log_is_full h, why.LogFull) ∷ [] in
    let answer : Reply = told.Phase phase.Prepare (point_of h + 1) in
    by_due IsMoveReply tt (or_else (wrong_phase phase.Rest h) (first_refusal causes)) (by_phase IsMoveReply (λ w. tt) phase.Rest h (first_refusal causes) (by_causes IsMoveReply (λ w. tt) causes)) (r ≡ answer) r (as_told IsMoveReply answer r tt) legal
reply_kind st h asked.Seal r legal = move_kind st phase.Prepare Before h phase.Resolve r legal
reply_kind st h asked.OpenCapture r legal = move_kind st phase.Resolve During h phase.Capture r legal
reply_kind st h asked.Take r legal =
    let none : Option Reply = cond (is_empty (closed_set h)) (Some told.NoneLeft) None in
    by_due IsTakeReply tt (or_else (wrong_phase phase.Capture h) none) (by_phase IsTakeReply (λ w. tt) phase.Capture h none (none_left_kind (is_empty (closed_set h)))) (TakesFirst (closed_set h) r) r (took_kind (closed_set h) r) legal
reply_kind st h asked.Done r legal =
    let causes : List (Bool × Refusal) = (length (shelf st.run h) == MOST_FILES, why.ShelfFull) ∷ (log_is_full h, why.LogFull) ∷ [] in
    let answer : Reply = told.PartDone (point_of h) (length (shelf st.run h) + 1) (length (taken h)) in
    let later : Option Reply = or_else (not_yet (length (closed_set h))) (first_refusal causes) in
    by_due IsDoneReply tt (or_else (wrong_phase phase.Capture h) later)
    (by_phase IsDoneReply (λ w. tt) phase.Capture h later (by_count IsDoneReply (λ w. tt) (λ count. tt) (length (closed_set h)) (first_refusal causes) (by_causes IsDoneReply (λ w. tt) causes))) (r ≡ answer) r (as_told IsDoneReply answer r tt) legal
reply_kind st h asked.Rest r legal = move_kind st phase.Complete After h phase.Rest r legal
reply_kind st h (asked.Join a b) r legal =
    let x = file_at (shelf st.run h) a in
    let y = file_at (shelf st.run h) b in
    let n : ℕ = length (shelf st.run h) in
    legal_kind IsJoinReply (λ w. tt) ((is_none x || is_none y, why.NoFile) ∷ (n == MOST_FILES, why.ShelfFull) ∷ join_causes x y) (IsFileReply (join_of x y) (n + 1) r) r (file_kind (join_of x y) (n + 1) r) legal
