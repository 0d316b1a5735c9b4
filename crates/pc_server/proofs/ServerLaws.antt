-- What each act of a process that serves leaves.
use Rattle.std.proofs.Common.{◌≡◌, ℕ, ◌+◌, ◌-◌, ◌^◌, ◌<◌, ◌≤◌, ◌⊎◌, inl, inr, ◌==◌, ◌&&◌, ◌||◌, Bool, true, false, List, [], ◌∷◌, ◌++◌, Ok, Err, length, refl, sym, ap, subst, ◌∙◌, arith, append_assoc}
use Rattle.std.specs.Prelude.{codes, Option, Result, OnOk, IfSome, Some, None, MatchBool, cond, min, nat_lt}
use Rattle.std.specs.Global.{Vec}
use Rattle.std.proofs.lemmas.Bool.Decides.{nat_tests}
use Rattle.std.proofs.lemmas.List.{length-append, append-nil}
use Rattle.pc_io.specs.Tallies.{Puts, inner_of}
use Rattle.pc_types.specs.declared.Event.{Event}
use Rattle.pc_types.specs.declared.Reply.{Reply}
use Rattle.pc_types.specs.declared.Phase.{Phase}
use Rattle.pc_types.specs.declared.Phase.TheVariants.{Rest, Prepare, Resolve, Capture, Complete}
use Rattle.pc_types.specs.declared.Refusal.{Refusal}
use Rattle.pc_types.specs.declared.Step.{Step}
use Rattle.pc_io.specs.declared.tally.Tally.{Tally}
use Rattle.pc_model.specs.History.{History, contents, log_of, effect, entries_by, phase_of}
use Rattle.pc_model.specs.Log.{after}
use Rattle.pc_model.specs.Maps.{len}
use Rattle.pc_model.specs.Replies.{Setting, IsLegal, IsLegalHistory}
use Rattle.pc_model.specs.Files.{shelf}
use Rattle.pc_engine.specs.Stands.{Stands}
use Rattle.pc_engine.specs.Store.{Store, setting_of}
use Rattle.pc_model.specs.Calls.{session_of}
use Rattle.pc_engine.specs.Waiting.{waits_after}
use Rattle.pc_texts.specs.Texts.{reply_text}
use Rattle.pc_lines.specs.declared.lines.Line.{Line}
use Rattle.pc_lines.specs.declared.lines.Line.TheVariants as line
use Rattle.pc_types.specs.declared.Entry.{Entry}
use Rattle.pc_turn.specs.Turns.{AreMarks, IsLogOut, TurnEnds, exceeds_lag}
use Rattle.pc_turn.specs.declared.turn.Marks.{Marks}
use Rattle.pc_turn.specs.declared.turn.TurnEnd.{TurnEnd}
use Rattle.pc_turn.specs.declared.turn.TurnEnd.TheVariants as end
use Rattle.pc_serving.specs.OpenSessions.{open_after, open_now}
use Rattle.pc_serving.proofs.OpenLaws.{open_told}
use Rattle.pc_serving.specs.Points.{due_in, is_checkpoint, IsShelvedAs, IsTurn}
use Rattle.pc_serving.specs.Requests.{request_of}
use Rattle.pc_serving.specs.Serving.{AnswersServed, Serves, awaits, granted_text, is_of_client, is_wait, wrong_phase_text}
use Rattle.pc_serving.specs.declared.answers.Served.{Served}
use Rattle.pc_serving.specs.declared.pace.Pace.{Pace}
use Rattle.pc_serving.specs.declared.pace.Turned.{Turned}
use Rattle.pc_serving.specs.declared.pace.Turned.TheVariants as turned
use Rattle.pc_serving.specs.declared.request.Request.{Request}
use Rattle.pc_serving.specs.declared.request.Request.TheVariants as request
use Rattle.pc_server.specs.Acts.{Act, Lead, AnswersRequest, answers_of, commits_in, committed_in, stats_line, stats_of}
use Rattle.pc_server.specs.Acts.Act.{Answered, WentOn}
use Rattle.pc_server.specs.Turns.{AreCounts, IsNoted, Stays, paced}
use Rattle.pc_server.specs.declared.counts.Counts.{Counts}
use Rattle.pc_server.specs.declared.server.Server.{Server}
use Rattle.pc_server.proofs.CountLaws.{Follows, all_counted, counted, line_follows, step_follows}

-- what is due is the checkpointer's
due_is_checkpoint : (pace : Pace) (phase : Phase) → IfSome (due_in pace phase) (λ event. is_checkpoint event ≡ true)
due_is_checkpoint pace Rest = by _
  where
    by : (b : Bool) → IfSome (cond b None (Some Event.StartPoint)) (λ event. is_checkpoint event ≡ true)
    by true = tt
    by false = refl
due_is_checkpoint pace Prepare = refl
due_is_checkpoint pace Resolve = refl
due_is_checkpoint pace Capture = by pace.has_left
  where
    by : (b : Bool) → IfSome (cond b (Some Event.Take) (Some Event.Done)) (λ event. is_checkpoint event ≡ true)
    by true = refl
    by false = refl
due_is_checkpoint pace Complete = refl

-- who waits goes on waiting while the checkpointer takes a step
awaits_on : (st : Setting) (s : ℕ) (step : Step) (h : History) → is_checkpoint step.event ≡ true → awaits st s h ≡ awaits st s (step ∷ h)
awaits_on st s step h e = sym (ap (λ b. cond b (awaits st s h) (waits_after st s (step ∷ h) && ((is_wait step.reply && (s == session_of step.event)) || awaits st s h))) e)

-- the later history's log has more after that of the earlier one
abbrev pub Extends : History → History → Type 0
Extends before after = (more : List Entry) × (log_of after ≡ log_of before ++ more)

pub no_shorter : (before after : History) → Extends before after → length (log_of before) ≤ length (log_of after)
no_shorter before after (more, e) = subst (λ l. length (log_of before) ≤ length l) (sym e) (omega (arith, length-append (log_of before) more))

-- what is written and kept of a log stays within it
marks_stay : (before after : History) (marks : Marks) → Extends before after → AreMarks (log_of before) marks → AreMarks (log_of after) marks
marks_stay before after marks extends within = (within.0, omega (arith, within.1, no_shorter before after extends))

-- a step adds to the log, or leaves it
pub step_extends : (step : Step) (h : History) → Extends h (step ∷ h)
step_extends step h = (entries_by (effect step) h, refl)

abbrev pub went_on : Server → Store → Pace → Counts → Server
went_on old world pace counts = record { served = record { world = world; waiting = old.served.waiting }; pace = pace; answers = old.answers; counts = counts; marks = old.marks; lag = old.lag }

-- an entry that came was counted
noted_on : (run : ℕ) (commits : Bool) (before after : History) (world : Store) (was is : Counts) → Stands world after → Follows commits (log_of before) (log_of after) → AreCounts run (log_of before) was → IsNoted commits world.log (length (log_of before)) was is → AreCounts run (log_of after) is
noted_on run commits before after world was is stands follows counts noted =
    let here = subst (λ l. IsNoted commits l (length (log_of before)) was is) stands.parts.log noted in
    counted run commits (log_of before) (log_of after) was is follows counts here.none here.some

-- the checkpointer had its turn
pub went : (st : Setting) (gone turn : List Act) (at history next : History) (old : Server) (world : Store) (pace : Pace) (counts : Counts) (result : Result Turned Refusal) → Stays st gone at turn history old
    → setting_of world ≡ setting_of old.served.world → Stands world next → IsTurn (setting_of old.served.world) old.pace history pace next result → IsNoted false world.log (length old.served.world.log) old.counts counts
    → (Stays st gone at turn history (went_on old world pace counts) × (result ≡ Ok turned.Nothing)) ⊎ ((step : Step) × Stays st gone at (WentOn step ∷ turn) (step ∷ history) (went_on old world pace counts) × IsShelvedAs step.reply result)
went st gone turn at history next old world pace counts result stays kept stands (inl none) noted =
    inl (
      record {
        serves = record { stands = subst (Stands world) none.1 stands; setting = kept ∙ stays.serves.setting; awaited = stays.serves.awaited };
        gone_by = stays.gone_by;
        turn_by = stays.turn_by;
        waiting = stays.waiting;
        written = stays.written;
        kept = stays.kept;
        within = stays.within;
        counts = noted_on st.run false history history world old.counts counts (subst (Stands world) none.1 stands) (inl refl) stays.counts (subst (λ l. IsNoted false world.log (length l) old.counts counts) stays.serves.stands.parts.log noted);
      },
      none.3,
    )
went st gone turn at history next old world pace counts result stays kept stands (inr (event, reply, due, legal, after, paces, shelved)) noted =
    let is : is_checkpoint event ≡ true = subst (λ o. IfSome o (λ e. is_checkpoint e ≡ true)) due (due_is_checkpoint old.pace (phase_of history)) in
    let step : Step = record { event = event; reply = reply } in
    inr (
      step,
      record {
        serves = record { stands = subst (Stands world) after stands; setting = kept ∙ stays.serves.setting; awaited = λ s. stays.serves.awaited s ∙ awaits_on st s step history is };
        gone_by = stays.gone_by;
        turn_by = (history, stays.turn_by, is, subst (λ t. IsLegal t history event reply) stays.serves.setting legal, refl);
        waiting = stays.waiting;
        written = stays.written;
        kept = stays.kept;
        within = marks_stay history (step ∷ history) old.marks (step_extends step history) stays.within;
        counts = noted_on st.run false history (step ∷ history) world old.counts counts (subst (Stands world) after stands) (step_follows step history is) stays.counts (subst (λ l. IsNoted false world.log (length l) old.counts counts) stays.serves.stands.parts.log noted);
      },
      shelved,
    )

same_extends : (before after : History) → after ≡ before → Extends before after
same_extends before after e = ([], ap log_of e ∙ sym (append-nil (log_of before)))

one_more : (before after : History) (step : Step) → after ≡ step ∷ before → Extends before after
one_more before after step e = subst (Extends before) (sym e) (step_extends step before)

extends_on : (a b c : History) → Extends a b → Extends b c → Extends a c
extends_on a b c (x, p) (y, q) = (x ++ y, q ∙ ap (λ l. l ++ y) p ∙ append_assoc (log_of a) x y)

-- an answer adds to the log, or leaves it
line_extends : (st : Setting) (before after : History) (l : Line) (text : List ℕ) → AnswersServed st before l text after → Extends before after
line_extends st before after (line.Asks event) text a = by (is_of_client event) a
  where
    by : (b : Bool) → MatchBool b
        ((reply : Reply) × IsLegal st before event reply × (after ≡ record { event = event; reply = reply } ∷ before) × (text ≡ (reply_text reply ++ codes "\n") ++ granted_text st (record { event = event; reply = reply }) before))
        ((text ≡ wrong_phase_text) × (after ≡ before))
        → Extends before after
    by true (reply, legal, e, t) = one_more before after (record { event = event; reply = reply }) e
    by false (t, e) = same_extends before after e
line_extends st before after line.Silent text (said, (s, e), t) = same_extends before after e
line_extends st before after line.Malformed text (said, (s, e), t) = same_extends before after e
line_extends st before after (line.Sets key value) text (said, (s, e), t) = same_extends before after e
line_extends st before after (line.SetsRefused why) text (said, (s, e), t) = same_extends before after e
line_extends st before after (line.AsksRefused why) text (said, (s, e), t) = same_extends before after e
line_extends st before after (line.Shows view) text (said, (v, e), t) = same_extends before after e

pub answer_extends : (st : Setting) (before after : History) (asked : Request) (text : List ℕ) → AnswersRequest st before asked text after → Extends before after
answer_extends st before after (request.Line l) text a = line_extends st before after l text a
answer_extends st before after request.Run text (t, e) = same_extends before after e
answer_extends st before after request.Stats text (t, e) = same_extends before after e
answer_extends st before after request.Quit text (t, e) = same_extends before after e

abbrev pub after_answer : Server → Served → Tally (Vec ℕ) → Pace → Counts → Server
after_answer old served answers pace counts = record { served = served; pace = pace; answers = answers; counts = counts; marks = old.marks; lag = old.lag }

-- a line was answered
pub answered : (st : Setting) (gone turn : List Act) (at history next : History) (old : Server) (served : Served) (answers : Tally (Vec ℕ)) (pace : Pace) (counts : Counts) (line text : List ℕ) (asked : Request) → Stays st gone at turn history old
    → Serves st served.world served.waiting next → AnswersRequest st history asked text next → (inner_of answers).items ≡ (inner_of old.answers).items ++ text → request_of line ≡ asked → AreCounts st.run (log_of next) counts
    → Stays st gone at (Answered line text ∷ turn) next (after_answer old served answers pace counts)
answered st gone turn at history next old served answers pace counts line text asked stays serves told grown asks are = record {
  serves = serves;
  gone_by = stays.gone_by;
  turn_by = (history, stays.turn_by, subst (λ r. AnswersRequest st history r text next) (sym asks) told);
  waiting = grown ∙ ap (λ t. t ++ text) stays.waiting;
  written = stays.written;
  kept = stays.kept;
  within = marks_stay history next old.marks (answer_extends st history next asked text told) stays.within;
  counts = are;
}

-- what holds of a success
pub on_ok : {X E A B : Type 0} (r : Result X E) → (A → B) → OnOk r A → OnOk r B
on_ok (Ok x) f a = f a
on_ok (Err e) f a = tt

-- what is answered to a request, be the line what it may
abbrev pub Told : Setting → List Act → History → List Act → History → Server → Request → Server → Type 0
Told st gone at turn history old asked new =
    (text : List ℕ) × (next : History) × AnswersRequest st history asked text next × ((line : List ℕ) → request_of line ≡ asked → Stays st gone at (Answered line text ∷ turn) next new)

abbrev items_known : Vec ℕ → Option (List ℕ)
items_known bytes = Some bytes.items

-- a request that asks no event was answered
pub put_told : (st : Setting) (gone turn : List Act) (at history : History) (old : Server) (answers : Tally (Vec ℕ)) (result : Result (Unit {0}) Refusal) (text : List ℕ) (asked : Request) → Stays st gone at turn history old
    → AnswersRequest st history asked text history → Puts items_known old.answers answers result text → OnOk result (Told st gone at turn history old asked (after_answer old old.served answers old.pace old.counts))
put_told st gone turn at history old answers (Ok u) text asked stays told puts =
    (text, history, told, λ line asks. answered st gone turn at history history old old.served answers old.pace old.counts line text asked stays stays.serves told puts.0 asks stays.counts)
put_told st gone turn at history old answers (Err e) text asked stays told puts = tt

-- the end was asked for
pub quit_told : (st : Setting) (gone turn : List Act) (at history : History) (old : Server) (asked : Request) → Stays st gone at turn history old → asked ≡ request.Quit → Told st gone at turn history old asked old
quit_told st gone turn at history old asked stays is =
    let told : AnswersRequest st history asked [] history = subst (λ r. AnswersRequest st history r [] history) (sym is) (refl, refl) in
    ([], history, told, λ line asks. answered st gone turn at history history old old.served old.answers old.pace old.counts line [] asked stays stays.serves told (sym (append-nil (inner_of old.answers).items)) asks stays.counts)

-- the line of a script was answered, and what it has added to the log was counted
pub line_told : (st : Setting) (gone turn : List Act) (at history : History) (old new : Server) (served : Served) (answers : Tally (Vec ℕ)) (pace : Pace) (counts : Counts) (result : Result (Unit {0}) Refusal) (l : Line) (u : Unit {0}) → Stays st gone at turn history old → result ≡ Ok u
    → new ≡ after_answer old served answers pace counts → IsNoted true served.world.log (length old.served.world.log) old.counts counts
    → OnOk result ((next : History) × (text : List ℕ) × Serves st served.world served.waiting next × AnswersServed st history l text next × Puts items_known old.answers answers (Ok tt) text)
    → Told st gone at turn history old (request.Line l) new
line_told st gone turn at history old new served answers pace counts result l u stays is same noted told =
    let (next, text, serves, said, puts) = subst (λ r. OnOk r ((next : History) × (text : List ℕ) × Serves st served.world served.waiting next × AnswersServed st history l text next × Puts items_known old.answers answers (Ok tt) text)) is told in
    let before = subst (λ log. IsNoted true served.world.log (length log) old.counts counts) stays.serves.stands.parts.log noted in
    let are = noted_on st.run true history next served.world old.counts counts serves.stands (line_follows st history next (request.Line l) text said) stays.counts before in
    (text, next, said, λ line asks. subst (Stays st gone at (Answered line text ∷ turn) next) (sym same) (answered st gone turn at history next old served answers pace counts line text (request.Line l) stays serves said puts.0 asks are))

-- a write that has succeeded, of a text that is known to be another
pub puts_ok : (old new : Tally (Vec ℕ)) (result : Result (Unit {0}) Refusal) (text other : List ℕ) → text ≡ other → Puts items_known old new result text → OnOk result (Puts items_known old new (Ok tt) other)
puts_ok old new (Ok u) text other same puts = subst (λ t. Puts items_known old new (Ok tt) t) same puts
puts_ok old new (Err e) text other same puts = tt

-- a request that asks no event was answered, if that has succeeded
pub put_told_ok : (st : Setting) (gone turn : List Act) (at history : History) (old : Server) (answers : Tally (Vec ℕ)) (result : Result (Unit {0}) Refusal) (text : List ℕ) (asked : Request) → Stays st gone at turn history old
    → AnswersRequest st history asked text history → OnOk result (Puts items_known old.answers answers (Ok tt) text) → OnOk result (Told st gone at turn history old asked (after_answer old old.served answers old.pace old.counts))
put_told_ok st gone turn at history old answers (Ok u) text asked stays told puts = put_told st gone turn at history old answers (Ok u) text asked stays told puts
put_told_ok st gone turn at history old answers (Err e) text asked stays told puts = tt

-- the same numbers are printed by the same line
same_stats : {a b c d e f p q r s t u : ℕ} → a ≡ p → b ≡ q → c ≡ r → d ≡ s → e ≡ t → f ≡ u → stats_line a b c d e f ≡ stats_line p q r s t u
same_stats {a} {b} {c} {d} {e} {f} {p} {q} {r} {s} {t} {u} one two three four five six =
    ap (λ n. stats_line n b c d e f) one ∙ (ap (λ n. stats_line p n c d e f) two ∙ (ap (λ n. stats_line p q n d e f) three
    ∙ (ap (λ n. stats_line p q r n e f) four ∙ (ap (λ n. stats_line p q r s n f) five ∙ ap (stats_line p q r s t) six))))

-- the numbers that are printed
pub stats_told : (st : Setting) (gone turn : List Act) (at history : History) (old : Server) → Stays st gone at turn history old
    → stats_line (length old.served.world.log) old.counts.commits (length old.served.world.shelf) (open_now old.served.world) old.counts.bytes (committed_in old.served.world) ≡ stats_of st history
stats_told st gone turn at history old stays =
    let entries : length old.served.world.log ≡ length (log_of history) = ap length stays.serves.stands.parts.log in
    let commits : old.counts.commits ≡ commits_in (log_of history) = all_counted st history old.counts (subst (λ s. IsLegalHistory s history) stays.serves.setting stays.serves.stands.legal) stays.counts in
    let points : length old.served.world.shelf ≡ length (shelf st.run history) = ap length (stays.serves.stands.parts.cycle.shelved ∙ ap (λ (s : Setting). shelf s.run history) stays.serves.setting) in
    let opened : open_now old.served.world ≡ open_after st history = open_told st old.served.world old.served.waiting history stays.serves in
    let pairs : committed_in old.served.world ≡ len (contents st.base history) =
    ap (λ log. len (after old.served.world.base.pairs log)) stays.serves.stands.parts.log ∙ ap (λ (s : Setting). len (after s.base (log_of history))) stays.serves.setting in
    same_stats entries commits points opened (stays.counts.1) pairs

-- if the log has no more than before, no commit counts
pub same_pace : (pace : Pace) (n : ℕ) → pace ≡ paced pace n n
same_pace pace n = by (nat_lt n n) refl
  where
    by : (b : Bool) → nat_lt n n ≡ b → pace ≡ cond b (record pace { commits = min (pace.commits + 1) (2 ^ 64 - 1) }) pace
    by true e = absurd (let less : n < n = grind (arith, nat_tests, e) in omega (arith, less))
    by false e = refl

pub stats_pace : (old new : Server) (answers : Tally (Vec ℕ)) → new ≡ after_answer old old.served answers old.pace old.counts → new.pace ≡ paced old.pace (length old.served.world.log) (length new.served.world.log)
stats_pace old new answers same = ap (λ (s : Server). s.pace) same ∙ (same_pace old.pace (length old.served.world.log) ∙ ap (λ (s : Server). paced old.pace (length old.served.world.log) (length s.served.world.log)) (sym same))

pub always_ok : {X E P : Type 0} (r : Result X E) → P → OnOk r P
always_ok (Ok x) p = p
always_ok (Err e) p = tt

-- acts after others
pub lead_on : (st : Setting) (start at history : History) (gone turn : List Act) → Lead st start gone at → Lead st at turn history → Lead st start (turn ++ gone) history
lead_on st start at history gone [] before e = subst (Lead st start gone) (sym e) before
lead_on st start at history gone (Answered line text ∷ turn) before (between, led, told) = (between, lead_on st start at between gone turn before led, told)
lead_on st start at history gone (WentOn step ∷ turn) before (between, led, is, legal, e) = (between, lead_on st start at between gone turn before led, is, legal, e)

-- The same end of a turn, of what is the same.
pub same_ends : {T U : Type 0} (written kept : T → Option (List ℕ)) (contents : U → Option (List ℕ)) (entries log : List Entry) (lag : ℕ) (sent answers : List ℕ) (before after : Marks) (log_old log_new : T) (out_old out_new : Tally U) (result : TurnEnd) → entries ≡ log → sent ≡ answers
    → TurnEnds written kept contents entries lag sent before after log_old log_new out_old out_new result → TurnEnds written kept contents log lag answers before after log_old log_new out_old out_new result
same_ends written kept contents entries log lag sent answers before after log_old log_new out_old out_new result same told ends =
    subst (λ l. TurnEnds written kept contents l lag answers before after log_old log_new out_old out_new result) same
    (subst (λ t. TurnEnds written kept contents entries lag t before after log_old log_new out_old out_new result) told ends)

-- if the log went out, at most as many entries as the lag are not kept
pub kept_enough : {T : Type 0} (written kept : T → Option (List ℕ)) (log : List Entry) (lag : ℕ) (before after : Marks) (old new : T) → IsLogOut written kept log lag before after old new true → length log ≤ after.kept + lag
kept_enough written kept log lag before after old new out = by (exceeds_lag lag before.kept (length log)) refl out.2
  where
    by : (b : Bool) → exceeds_lag lag before.kept (length log) ≡ b → MatchBool b ((kept new ≡ written new) × (after.kept ≡ length log)) (after.kept ≡ before.kept) → length log ≤ after.kept + lag
    by true e is = omega (arith, is.1)
    by false e is = grind (arith, nat_tests, e, is)

-- after a whole turn at most as many entries as the lag are not kept
pub turn_keeps : {T U : Type 0} (written kept : T → Option (List ℕ)) (contents : U → Option (List ℕ)) (log : List Entry) (answers : List ℕ) (before after : Marks) (log_old log_new : T) (out_old out_new : Tally U) (result : TurnEnd) (lag : ℕ)
    → TurnEnds written kept contents log lag answers before after log_old log_new out_old out_new result → result ≡ end.Whole → length log ≤ after.kept + lag
turn_keeps written kept contents log answers before after log_old log_new out_old out_new result lag ends whole =
    kept_enough written kept log lag before after log_old log_new (subst (TurnEnds written kept contents log lag answers before after log_old log_new out_old out_new) whole ends).0

-- a whole turn ended
pub turn_ended : {T U : Type 0} (written kept : T → Option (List ℕ)) (contents : U → Option (List ℕ)) (st : Setting) (gone turn : List Act) (at history : History) (old : Server) (answers : Tally (Vec ℕ)) (after : Marks) (log_old log_new : T) (out_old out_new : Tally U) (result : TurnEnd) (lag : ℕ) → lag ≤ old.lag → Stays st gone at turn history old
    → TurnEnds written kept contents (log_of history) lag (answers_of turn) old.marks after log_old log_new out_old out_new result → (inner_of answers).items ≡ [] → AreMarks (log_of history) after
    → result ≡ end.Whole → Stays st (turn ++ gone) history [] history (record { served = old.served; pace = old.pace; answers = answers; counts = old.counts; marks = after; lag = old.lag })
turn_ended written kept contents st gone turn at history old answers after log_old log_new out_old out_new result lag less stays ends none within whole =
    let out = (subst (TurnEnds written kept contents (log_of history) lag (answers_of turn) old.marks after log_old log_new out_old out_new) whole ends).0 in
    let enough : length (log_of history) ≤ after.kept + lag = turn_keeps written kept contents (log_of history) (answers_of turn) old.marks after log_old log_new out_old out_new result lag ends whole in
    record {
      serves = stays.serves;
      gone_by = lead_on st [] at history gone turn stays.gone_by stays.turn_by;
      turn_by = refl;
      waiting = none;
      written = omega (arith, out.1);
      kept = omega (arith, enough, less);
      within = within;
      counts = stays.counts;
    }

-- acts add to the log, or leave it
pub lead_extends : (st : Setting) (before after : History) (acts : List Act) → Lead st before acts after → Extends before after
lead_extends st before after [] e = same_extends before after e
lead_extends st before after (Answered line text ∷ acts) (between, led, told) = extends_on before between after (lead_extends st before between acts led) (answer_extends st between after (request_of line) text told)
lead_extends st before after (WentOn step ∷ acts) (between, led, is, legal, e) = extends_on before between after (lead_extends st before between acts led) (one_more between after step e)

-- the answers of acts after others
pub answers_on : (gone turn : List Act) → answers_of (turn ++ gone) ≡ answers_of gone ++ answers_of turn
answers_on gone [] = sym (append-nil (answers_of gone))
answers_on gone (Answered line text ∷ turn) = ap (λ t. t ++ text) (answers_on gone turn) ∙ append_assoc (answers_of gone) (answers_of turn) text
answers_on gone (WentOn step ∷ turn) = answers_on gone turn
