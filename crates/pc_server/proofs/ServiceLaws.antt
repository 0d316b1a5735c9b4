-- What has gone out, act by act.
use Rattle.std.proofs.Common.{◌≡◌, ℕ, zero, suc, ◌+◌, ◌≤◌, ◌⊎◌, inl, inr, Bool, true, false, List, [], ◌∷◌, ◌++◌, length, take, drop, take_all, append-nil, refl, sym, ap, subst, ◌∙◌, arith, append_assoc}
use Rattle.std.specs.Prelude.{Option, Some, None, Result, Ok, MatchBool}
use Rattle.std.specs.List.{flat_map}
use Rattle.std.specs.Io.KnownBytes.{Appends}
use Rattle.std.proofs.lemmas.List.{length-append, take-append-drop, take-append-le}
use Rattle.std.proofs.lemmas.List.Concat.{flat_map-append}
use Rattle.pc_io.specs.Counted.{AppendsBeginning}
use Rattle.pc_io.specs.Tallies.{inner_of}
use Rattle.pc_types.specs.declared.Entry.{Entry}
use Rattle.pc_types.specs.declared.Refusal.{Refusal}
use Rattle.pc_types.specs.declared.Step.{Step}
use Rattle.pc_io.specs.declared.tally.Tally.{Tally}
use Rattle.pc_io.proofs.KnownBytesLaws.{appends_nothing, appends_then, begins_after}
use Rattle.pc_model.specs.History.{History, log_of}
use Rattle.pc_model.specs.Replies.{Setting}
use Rattle.pc_log.specs.Texts.{entry_text}
use Rattle.pc_turn.specs.Devices.{Grows}
use Rattle.pc_turn.specs.Turns.{IsLogOut, TurnEnds, exceeds_lag, rest_text}
use Rattle.pc_turn.specs.declared.turn.Marks.{Marks}
use Rattle.pc_turn.specs.declared.turn.TurnEnd.TheVariants as end
use Rattle.pc_serving.specs.Points.{IsShelvedAs}
use Rattle.pc_serving.specs.Requests.{request_of}
use Rattle.pc_serving.specs.declared.pace.Turned.{Turned}
use Rattle.pc_serving.specs.declared.pace.Turned.TheVariants as turned
use Rattle.pc_server.specs.Acts.{Act, AnswersRequest, answers_of}
use Rattle.pc_server.specs.Acts.Act.{Answered, WentOn}
use Rattle.pc_server.specs.Turns.{Stays}
use Rattle.pc_server.specs.Inputs.{IsInputRead, ServesOn}
use Rattle.pc_server.specs.Services.{GrowsFrom, Holds, IsCutOff, entries_text, first_text}
use Rattle.pc_server.specs.declared.server.Server.{Server}
use Rattle.pc_server.specs.declared.service.Service.{Service}
use Rattle.pc_server.proofs.ServerLaws.{Extends, answer_extends, answers_on, kept_enough, lead_extends, lead_on, step_extends}

-- all of a text is a prefix of it
all_begins : (a b : Option (List ℕ)) (x : List ℕ) → Appends a b x → AppendsBeginning a b x
all_begins None b x p = tt
all_begins (Some a) None x p = absurd p
all_begins (Some a) (Some b) x p = (length x, omega arith, p ∙ ap (λ t. a ++ t) (sym (take_all (length x) x (omega arith))))

-- what was appended is a prefix of a longer text
appended_begins : (a b : Option (List ℕ)) (x y : List ℕ) → Appends a b x → AppendsBeginning a b (x ++ y)
appended_begins None b x y p = tt
appended_begins (Some a) None x y p = absurd p
appended_begins (Some a) (Some b) x y p =
    (length x, omega (arith, length-append x y), p ∙ ap (λ t. a ++ t) (sym (take-append-le (length x) x y (omega arith) ∙ take_all (length x) x (omega arith))))

grows_on : (a b c : Option (List ℕ)) → Grows a b → Grows b c → Grows a c
grows_on a b c (x, p) (y, q) = (x ++ y, appends_then a b c x y p q)

-- what has grown by a text has grown by its beginning
less_grown : (a b : Option (List ℕ)) (x y : List ℕ) → GrowsFrom a b (x ++ y) → GrowsFrom a b x
less_grown a b x y (between, p, q) = by a between p q
  where
    by : (a between : Option (List ℕ)) → Appends a between (x ++ y) → Grows between b → GrowsFrom a b x
    by None between p q = (between, tt, q)
    by (Some a) None p q = absurd p
    by (Some a) (Some c) p q = (Some (a ++ x), refl, grows_on (Some (a ++ x)) (Some c) b (y, p ∙ sym (append_assoc a x y)) q)

-- what goes on to grow
grown_more : (a b c : Option (List ℕ)) (x : List ℕ) → GrowsFrom a b x → Grows b c → GrowsFrom a c x
grown_more a b c x (between, p, q) more = (between, p, grows_on between b c q more)

-- by a prefix of a text
begun_grows : (a b : Option (List ℕ)) (x : List ℕ) → AppendsBeginning a b x → Grows a b
begun_grows None b x p = ([], tt)
begun_grows (Some a) None x p = absurd p
begun_grows (Some a) (Some b) x (n, le, is) = (take n x, is)

-- the first entries of a log that goes on
first_stay : (count : ℕ) (before after : History) → Extends before after → count ≤ length (log_of before) → first_text count (log_of before) ≡ first_text count (log_of after)
first_stay count before after (more, e) within = ap (flat_map entry_text) (sym (take-append-le count (log_of before) more within) ∙ ap (take count) (sym e))

-- the first entries, and those after them
all_entries : (count : ℕ) (log : List Entry) → first_text count log ++ rest_text count log ≡ first_text (length log) log
all_entries count log = sym (flat_map-append entry_text (take count log) (drop count log)) ∙ ap (flat_map entry_text) (take-append-drop count log ∙ sym (take_all (length log) log (omega arith)))

-- the text of all entries, in two pieces
two_pieces : (count : ℕ) (log : List Entry) → first_text count log ++ rest_text count log ≡ entries_text log
two_pieces count log = all_entries count log ∙ ap (flat_map entry_text) (take_all (length log) log (omega arith))

take_begins : {X : Type 0} (n : ℕ) (xs ys : List X) → (rest : List X) × (take n (xs ++ ys) ≡ take n xs ++ rest)
take_begins zero xs ys = ([], refl)
take_begins (suc n) [] ys = (take (suc n) ys, refl)
take_begins (suc n) (x ∷ xs) ys = let r = take_begins n xs ys in (r.0, ap (λ t. x ∷ t) r.1)

-- the first entries of an earlier log are a prefix of the first ones of a later one
first_begin : (count : ℕ) (before after : History) → Extends before after → (rest : List ℕ) × (first_text count (log_of after) ≡ first_text count (log_of before) ++ rest)
first_begin count before after (more, e) =
    let r = take_begins count (log_of before) more in
    (flat_map entry_text r.0, ap (first_text count) e ∙ ap (flat_map entry_text) r.1 ∙ flat_map-append entry_text (take count (log_of before)) r.0)

module _ {T U : Type 0} (written keeps : T → Option (List ℕ)) (contents : U → Option (List ℕ)) (log out : Option (List ℕ)) (st : Setting) where
  -- nothing went out
  pub begins : (server : Server) (device : T) (answers : Tally U) → Stays st [] [] [] [] server → server.marks ≡ record { written = 0; kept = 0 } → log ≡ written device → out ≡ contents (inner_of answers) → Grows (written device) (keeps device)
      → Holds written keeps contents log out st [] [] [] [] (record { server = server; log = device; out = answers })
  begins server device answers stays none from to grows =
      let nothing : Appends log (written device) [] = subst (λ o. Appends o (written device) []) (sym from) (appends_nothing (written device)) in
      record {
        stays = stays;
        sent = subst (λ o. Appends o (contents (inner_of answers)) []) (sym to) (appends_nothing (contents (inner_of answers)));
        logged = subst (λ (m : Marks). Appends log (written device) (first_text m.written (log_of []))) (sym none) nothing;
        kept = subst (λ (m : Marks). GrowsFrom log (keeps device) (first_text m.kept (log_of []))) (sym none) (written device, nothing, grows);
      }

  -- the server went on, and nothing went out
  goes_on : (gone turn turn_new : List Act) (at history next : History) (old : Service T U) (server : Server) → Holds written keeps contents log out st gone at turn history old → Extends history next → Stays st gone at turn_new next server → server.marks ≡ old.server.marks
      → Holds written keeps contents log out st gone at turn_new next (record { server = server; log = old.log; out = old.out })
  goes_on gone turn turn_new at history next old server holds extends stays same =
      let (ordered, within) = holds.stays.within in
      let out : first_text old.server.marks.written (log_of history) ≡ first_text server.marks.written (log_of next) =
      first_stay old.server.marks.written history next extends within ∙ ap (λ (m : Marks). first_text m.written (log_of next)) (sym same) in
      let safe : first_text old.server.marks.kept (log_of history) ≡ first_text server.marks.kept (log_of next) =
      first_stay old.server.marks.kept history next extends (omega (arith, ordered, within)) ∙ ap (λ (m : Marks). first_text m.kept (log_of next)) (sym same) in
      record {
        stays = stays;
        sent = holds.sent;
        logged = subst (Appends log (written old.log)) out holds.logged;
        kept = subst (GrowsFrom log (keeps old.log)) safe holds.kept;
      }

  -- a line was answered
  pub line_answered : (gone turn : List Act) (at history next : History) (old : Service T U) (server : Server) (line text : List ℕ) → Holds written keeps contents log out st gone at turn history old
      → AnswersRequest st history (request_of line) text next → Stays st gone at (Answered line text ∷ turn) next server → server.marks ≡ old.server.marks
      → Holds written keeps contents log out st gone at (Answered line text ∷ turn) next (record { server = server; log = old.log; out = old.out })
  line_answered gone turn at history next old server line text holds told stays same =
      goes_on gone turn (Answered line text ∷ turn) at history next old server holds (answer_extends st history next (request_of line) text told) stays same

  -- the checkpointer had its turn
  pub point_went : (gone turn : List Act) (at history : History) (old : Service T U) (server : Server) (result : Result Turned Refusal) → Holds written keeps contents log out st gone at turn history old → server.marks ≡ old.server.marks
      → (Stays st gone at turn history server × (result ≡ Ok turned.Nothing)) ⊎ ((step : Step) × Stays st gone at (WentOn step ∷ turn) (step ∷ history) server × IsShelvedAs step.reply result)
      → (Holds written keeps contents log out st gone at turn history (record { server = server; log = old.log; out = old.out }) × (result ≡ Ok turned.Nothing))
      ⊎ ((step : Step) × Holds written keeps contents log out st gone at (WentOn step ∷ turn) (step ∷ history) (record { server = server; log = old.log; out = old.out }) × IsShelvedAs step.reply result)
  point_went gone turn at history old server result holds same (inl (stays, none)) = inl (goes_on gone turn turn at history history old server holds ([], sym (append-nil (log_of history))) stays same, none)
  point_went gone turn at history old server result holds same (inr (step, stays, told)) =
      inr (step, goes_on gone turn (WentOn step ∷ turn) at history (step ∷ history) old server holds (step_extends step history) stays same, told)

  -- what has gone out of the log
  log_is_out : (turn_log : List Entry) (lag : ℕ) (before after : Marks) (a b : T) → Appends log (written a) (first_text before.written turn_log) → GrowsFrom log (keeps a) (first_text before.kept turn_log) → IsLogOut written keeps turn_log lag before after a b true
      → Appends log (written b) (first_text after.written turn_log) × GrowsFrom log (keeps b) (first_text after.kept turn_log)
  log_is_out turn_log lag before after a b logged kept ((appended, grown), e, is, idle) = (whole, by (exceeds_lag lag before.kept (length turn_log)) is)
    where
      whole : Appends log (written b) (first_text after.written turn_log)
      whole = subst (Appends log (written b)) (all_entries before.written turn_log ∙ ap (λ n. first_text n turn_log) (sym e))
          (appends_then log (written a) (written b) (first_text before.written turn_log) (rest_text before.written turn_log) logged appended)

      by : (due : Bool) → MatchBool due ((keeps b ≡ written b) × (after.kept ≡ length turn_log)) (after.kept ≡ before.kept) → GrowsFrom log (keeps b) (first_text after.kept turn_log)
      by true (all, there) = (written b, subst (Appends log (written b)) (ap (λ n. first_text n turn_log) (e ∙ sym there)) whole, subst (Grows (written b)) (sym all) ([], appends_nothing (written b)))
      by false same = subst (λ n. GrowsFrom log (keeps b) (first_text n turn_log)) (sym same) (grown_more log (keeps a) (keeps b) (first_text before.kept turn_log) kept grown)

  -- a turn ended
  pub turn_whole : (gone turn : List Act) (at history : History) (old : Service T U) (server : Server) (device : T) (answers : Tally U) (lag : ℕ) → Holds written keeps contents log out st gone at turn history old
      → TurnEnds written keeps contents (log_of history) lag (answers_of turn) old.server.marks server.marks old.log device old.out answers end.Whole → Stays st (turn ++ gone) history [] history server
      → Holds written keeps contents log out st (turn ++ gone) history [] history (record { server = server; log = device; out = answers })
  turn_whole gone turn at history old server device answers lag holds (is_out, (sent, failures)) stays =
      let logged = log_is_out (log_of history) lag old.server.marks server.marks old.log device holds.logged holds.kept is_out in
      record {
        stays = stays;
        sent = subst (Appends out (contents (inner_of answers))) (sym (answers_on gone turn)) (appends_then out (contents (inner_of old.out)) (contents (inner_of answers)) (answers_of gone) (answers_of turn) holds.sent sent);
        logged = logged.0;
        kept = logged.1;
      }

  -- of a log some first entries are written, so a prefix of it
  begun_log : (count : ℕ) (entries : List Entry) (device : T) → Appends log (written device) (first_text count entries) → AppendsBeginning log (written device) (entries_text entries)
  begun_log count entries device p =
      subst (AppendsBeginning log (written device)) (two_pieces count entries) (appended_begins log (written device) (first_text count entries) (rest_text count entries) p)

  -- and all of what an earlier log had, if it had no more
  covers : (count : ℕ) (before after : History) (device : T) → Extends before after → length (log_of before) ≤ count → Appends log (written device) (first_text count (log_of after)) → GrowsFrom log (written device) (entries_text (log_of before))
  covers count before after device extends enough p =
      let begun = first_begin count before after extends in
      let all : first_text count (log_of before) ≡ entries_text (log_of before) = ap (flat_map entry_text) (take_all count (log_of before) enough) in
      less_grown log (written device) (entries_text (log_of before)) begun.0 (subst (GrowsFrom log (written device)) (begun.1 ∙ ap (λ t. t ++ begun.0) all) (written device, p, ([], appends_nothing (written device))))

  -- what was sent so far, wherever it ends
  pub held_cut : (gone turn : List Act) (at history : History) (service : Service T U) → Holds written keeps contents log out st gone at turn history service → IsCutOff written keeps contents log out st service.server.lag gone at turn history service.log (inner_of service.out)
  held_cut gone turn at history service holds =
      let on : Extends at history = lead_extends st at history turn holds.stays.turn_by in
      let begun = first_begin service.server.marks.kept at history on in
      let before = less_grown log (keeps service.log) (first_text service.server.marks.kept (log_of at)) begun.0 (subst (GrowsFrom log (keeps service.log)) begun.1 holds.kept) in
      record {
        stands = (service.server.served.world, holds.stays.serves.stands, holds.stays.serves.setting);
        gone_by = holds.stays.gone_by;
        turn_by = holds.stays.turn_by;
        sent = all_begins out (contents (inner_of service.out)) (answers_of gone) holds.sent;
        logged = begun_log service.server.marks.written (log_of history) service.log holds.logged;
        all_written = covers service.server.marks.written at history service.log on holds.stays.written holds.logged;
        kept = (service.server.marks.kept, holds.stays.kept, before);
      }

  -- the log's device failed
  pub log_cut : (gone turn : List Act) (at history : History) (old : Service T U) (after : Marks) (device : T) (answers : Tally U) (lag : ℕ) → Holds written keeps contents log out st gone at turn history old
      → TurnEnds written keeps contents (log_of history) lag (answers_of turn) old.server.marks after old.log device old.out answers end.LogCut
      → IsCutOff written keeps contents log out st old.server.lag gone at turn history device (inner_of answers)
  log_cut gone turn at history old after device answers lag holds (((appended, grown), e, busy), same) =
      let on : Extends at history = lead_extends st at history turn holds.stays.turn_by in
      let begun = first_begin old.server.marks.kept at history on in
      let before = less_grown log (keeps old.log) (first_text old.server.marks.kept (log_of at)) begun.0 (subst (GrowsFrom log (keeps old.log)) begun.1 holds.kept) in
      record {
        stands = (old.server.served.world, holds.stays.serves.stands, holds.stays.serves.setting);
        gone_by = holds.stays.gone_by;
        turn_by = holds.stays.turn_by;
        sent = subst (λ o. AppendsBeginning out (contents (inner_of o)) (answers_of gone)) (sym same) (all_begins out (contents (inner_of old.out)) (answers_of gone) holds.sent);
        logged = subst (AppendsBeginning log (written device)) (two_pieces old.server.marks.written (log_of history))
            (begins_after log (written old.log) (written device) (first_text old.server.marks.written (log_of history)) (rest_text old.server.marks.written (log_of history)) holds.logged appended);
        all_written = grown_more log (written old.log) (written device) (entries_text (log_of at)) (covers old.server.marks.written at history old.log on holds.stays.written holds.logged)
            (begun_grows (written old.log) (written device) (rest_text old.server.marks.written (log_of history)) appended);
        kept = (old.server.marks.kept, holds.stays.kept, grown_more log (keeps old.log) (keeps device) (first_text old.server.marks.kept (log_of at)) before grown);
      }

  -- the answers' device failed
  pub answers_cut : (gone turn : List Act) (at history : History) (old : Service T U) (after : Marks) (device : T) (answers : Tally U) (lag : ℕ) → lag ≤ old.server.lag → Holds written keeps contents log out st gone at turn history old
      → TurnEnds written keeps contents (log_of history) lag (answers_of turn) old.server.marks after old.log device old.out answers end.AnswersCut
      → IsCutOff written keeps contents log out st old.server.lag (turn ++ gone) history [] history device (inner_of answers)
  answers_cut gone turn at history old after device answers lag less holds (is_out, (e, risen, sent)) =
      let logged = log_is_out (log_of history) lag old.server.marks after old.log device holds.logged holds.kept is_out in
      let enough : length (log_of history) ≤ after.kept + lag = kept_enough written keeps (log_of history) lag old.server.marks after old.log device is_out in
      record {
        stands = (old.server.served.world, holds.stays.serves.stands, holds.stays.serves.setting);
        gone_by = lead_on st [] at history gone turn holds.stays.gone_by holds.stays.turn_by;
        turn_by = refl;
        sent = subst (AppendsBeginning out (contents (inner_of answers))) (sym (answers_on gone turn)) (begins_after out (contents (inner_of old.out)) (contents (inner_of answers)) (answers_of gone) (answers_of turn) holds.sent sent);
        logged = begun_log after.written (log_of history) device logged.0;
        all_written = covers after.written history history device ([], sym (append-nil (log_of history))) (omega (arith, is_out.1)) logged.0;
        kept = (after.kept, omega (arith, enough, less), logged.1);
      }

-- of the input nothing was read
pub none_read : (input : Option (List ℕ)) → IsInputRead input input []
none_read None = tt
none_read (Some text) = refl

-- an input may be served from the beginning on
pub serves_from : {T U : Type 0} (written keeps : T → Option (List ℕ)) (contents : U → Option (List ℕ)) (log out : Option (List ℕ)) (st : Setting) (lag : ℕ) (service : Service T U) → service.server.lag ≡ lag → Holds written keeps contents log out st [] [] [] [] service
    → (input : Option (List ℕ)) → ServesOn written keeps contents log out input st lag input [] service
serves_from written keeps contents log out st lag service same holds input = ([], none_read input, ([], [], [], [], holds, refl, same, refl))
