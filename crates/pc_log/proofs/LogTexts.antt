-- What is read of a log's text are its whole entries, and what was written is read again.
use Rattle.std.proofs.Common.{◌≡◌, ℕ, zero, suc, ◌^◌, ◌<◌, eqb, List, [], ◌++◌, length, take, None, Result, Ok, Err, refl, sym, ap, subst, ◌∙◌, append_assoc, arith}
use Rattle.std.specs.Prelude.{All, IfOk}
use Rattle.std.specs.List.{flat_map, AllByRecursion}
use Rattle.std.specs.Int.{w32, w64, to_be_bytes}
use Rattle.std.proofs.lemmas.Bool.{eqb-true}
use Rattle.std.proofs.lemmas.List.{append-nil, take_at}
use Rattle.std.proofs.lemmas.List.Elements.{All-from_recursion, recursion_from_All}
use Rattle.pc_types.specs.declared.refusal.Refusal.{Refusal}
use Rattle.pc_types.specs.declared.refusal.Refusal.TheVariants.{Short, BadRanges}
use Rattle.pc_types.specs.declared.Entry.{Entry}
use Rattle.pc_io.specs.declared.Format.{Format}
use Rattle.pc_io.specs.declared.Format.TheVariants.{First, Second}
use Rattle.pc_io.specs.Fields.{◌>>=◌, where_true, number_at, magic_at, Gives}
use Rattle.pc_io.proofs.FieldLaws.{bind_ok, ok_is, where_ok, TakesText-then, wide32, wide64, number_takes, magic_takes}
use Rattle.pc_types.specs.Bytes.{IsBytes}
use Rattle.pc_io.specs.FieldForms.{TakesText}
use Rattle.pc_log.specs.declared.order.LastToken.{LastToken}
use Rattle.pc_log.specs.Texts.{log_magic, header_text_in, entry_text_in, log_text_in, IsEntry, HasEntry, HasLog, IsLogText}
use Rattle.pc_log.specs.Orders.{token_after, no_token, FollowFrom, InOrder}
use Rattle.pc_log.specs.Reading.{entry_at, entries_at, header_at, log_at, LogReading, none_more, with_entry, of_run, log_read, LogRead, all_at}
use Rattle.pc_log.specs.declared.reading.LogText.{LogText}
use Rattle.pc_log.specs.Laws.{IsLog, AreWholeEntries}
use Rattle.pc_log.proofs.TokenOrders.{HasBegun, begun_after, follow_more}
use Rattle.pc_log.proofs.EntryTexts.{EntryTakes, entry_takes}
use Rattle.pc_log.proofs.StepLaws.{made_ok}
use Rattle.pc_log.proofs.EntriesAgain.{last_after, all_again, magic_is, header_again}
use Rattle.pc_log.proofs.TurnLaws.{turn_is, with_front, read_as}

-- what was found in the bytes, after the last token
record FoundTakes (format : Format) (last : LastToken) (bytes : List ℕ) (found : LogReading) : Type 0 where
  left : List ℕ
  parts : bytes ≡ flat_map (entry_text_in format) found.entries ++ left
  counted : length left ≡ found.rest
  lawful : AllByRecursion IsEntry found.entries
  has : AllByRecursion (HasEntry format) found.entries
  order : FollowFrom last.phase last.point found.entries

none_take : (format : Format) (last : LastToken) (bytes : List ℕ) (fault : Refusal) → FoundTakes format last bytes (none_more bytes fault)
none_take format last bytes fault = record { left = bytes; parts = refl; counted = refl; lawful = tt; has = tt; order = tt }

one_takes : (format : Format) (last : LastToken) (bytes : List ℕ) (entry : Entry) (rest : List ℕ) (found : LogReading) → EntryTakes format last bytes entry rest → FoundTakes format (token_after last entry) rest found → FoundTakes format last bytes (with_entry entry found)
one_takes format last bytes entry rest found first others = record {
  left = others.left;
  parts = first.taken.parts ∙ ap (λ (t : List ℕ). entry_text_in format entry ++ t) others.parts ∙ sym (append_assoc (entry_text_in format entry) (flat_map (entry_text_in format) found.entries) others.left);
  counted = others.counted;
  lawful = (first.lawful, others.lawful);
  has = (first.has, others.has);
  order = follow_more last entry found.entries first.next others.order;
}

entries_take : (format : Format) (turns : ℕ) (last : LastToken) (bytes : List ℕ) → IsBytes bytes → HasBegun last → FoundTakes format last bytes (entries_at format turns last bytes)
unfolding entries_at
entries_take format zero last bytes fits begun = none_take format last bytes Short
entries_take format (suc turns) last bytes fits begun = by_read (entry_at format last bytes) refl (λ entry rest fits begun. entries_take format turns (token_after last entry) rest fits begun)
  where
    by_read : (read : Result (Entry × List ℕ) Refusal) → entry_at format last bytes ≡ read
        → ((entry : Entry) (rest : List ℕ) → IsBytes rest → HasBegun (token_after last entry) → FoundTakes format (token_after last entry) rest (entries_at format turns (token_after last entry) rest))
        → FoundTakes format last bytes (entries_at format (suc turns) last bytes)
    by_read (Ok x) e others =
        let first = entry_takes format last bytes x.0 x.1 fits begun e in
        subst (λ (found : LogReading). FoundTakes format last bytes found) (sym (turn_is format turns last bytes (Ok x) e))
        (one_takes format last bytes x.0 x.1 (entries_at format turns (token_after last x.0) x.1) first (others x.0 x.1 first.taken.rest_fits (begun_after last x.0 begun first.lawful)))
    by_read (Err fault) e others = subst (λ (found : LogReading). FoundTakes format last bytes found) (sym (turn_is format turns last bytes (Err fault) e)) (none_take format last bytes fault)

-- ---- the header

record HeaderTakes (bytes : List ℕ) (format : Format) (run : ℕ) (rest : List ℕ) : Type 0 where
  taken : TakesText bytes (header_text_in format run) rest
  run_fits : run < 2 ^ 64

header_takes : (bytes : List ℕ) (header : Format × ℕ × List ℕ) → IsBytes bytes → header_at bytes ≡ Ok header → HeaderTakes bytes header.0 header.1 header.2
unfolding header_at
header_takes bytes header fits e =
    let a = bind_ok (magic_at (log_magic First) (log_magic Second) bytes) (λ start. number_at Short w64 start.1 >>= λ n. number_at Short w32 n.1 >>= λ base. where_true (eqb base.0 0) BadRanges (start.0, n.0, base.1)) header e in
    let r = bind_ok (number_at Short w64 a.0.1) (λ n. number_at Short w32 n.1 >>= λ base. where_true (eqb base.0 0) BadRanges (a.0.0, n.0, base.1)) header a.2 in
    let b = bind_ok (number_at Short w32 r.0.1) (λ base. where_true (eqb base.0 0) BadRanges (a.0.0, r.0.0, base.1)) header r.2 in
    let g = where_ok (eqb b.0.0 0) BadRanges (a.0.0, r.0.0, b.0.1) header b.2 in
    let m : TakesText bytes (log_magic a.0.0) a.0.1 =
    subst (λ (magic : List ℕ). TakesText bytes magic a.0.1) (magic_is a.0.0) (magic_takes (log_magic First) (log_magic Second) bytes a.0.0 a.0.1 fits a.1) in
    let n = number_takes Short w64 (2 ^ 64) wide64 a.0.1 r.0.0 r.0.1 m.rest_fits r.1 in
    let z = number_takes Short w32 (2 ^ 32) wide32 r.0.1 b.0.0 b.0.1 n.0.rest_fits b.1 in
    let base : TakesText r.0.1 (to_be_bytes w32 0) b.0.1 = subst (λ (k : ℕ). TakesText r.0.1 (to_be_bytes w32 k) b.0.1) (eqb-true _ _ g.0) z.0 in
    let numbers = TakesText-then a.0.1 (to_be_bytes w64 r.0.0) r.0.1 (to_be_bytes w32 0) b.0.1 n.0 base in
    let taken = TakesText-then bytes (log_magic a.0.0) a.0.1 (to_be_bytes w64 r.0.0 ++ to_be_bytes w32 0) b.0.1 m numbers in
    subst (λ (x : Format × ℕ × List ℕ). HeaderTakes bytes x.0 x.1 x.2) g.1 (record { taken = taken; run_fits = n.1 })

-- the header, and what is found after it
record LogTakes (bytes : List ℕ) (read : LogRead) : Type 0 where
  format : Format
  rest : List ℕ
  taken : TakesText bytes (header_text_in format read.run) rest
  run_fits : read.run < 2 ^ 64
  read_is : read ≡ of_run read.run (all_at format no_token rest)

log_takes : (bytes : List ℕ) (read : LogRead) → IsBytes bytes → log_at bytes ≡ Ok read → LogTakes bytes read
unfolding log_at
log_takes bytes read fits e =
    let h = made_ok (header_at bytes) (λ (header : Format × ℕ × List ℕ). of_run header.1 (all_at header.0 no_token header.2)) read e in
    let header = header_takes bytes h.0 fits h.1 in
    subst (λ (x : LogRead). LogTakes bytes x) h.2 (record { format = h.0.0; rest = h.0.2; taken = header.taken; run_fits = header.run_fits; read_is = refl })

-- ---- whole entries

-- the beginning of what was put together
front_of : (front : List Entry) (found : LogReading) (entries : List Entry) → entries ≡ (with_front front found).entries → front ≡ take (length front) entries
front_of front found entries e = sym (ap (take (length front)) e ∙ take_at front found.entries (length front) refl)

pub whole_entries : (bytes : List ℕ) (read : LogRead) → IsBytes bytes → log_at bytes ≡ Ok read → AreWholeEntries bytes read.run read.entries read.rest
whole_entries bytes read fits e =
    let h = log_takes bytes read fits e in
    let all = all_at h.format no_token h.rest in
    let text = entry_text_in h.format in
    let header = header_text_in h.format read.run in
    let found = entries_take h.format (length h.rest) no_token h.rest h.taken.rest_fits (omega arith) in
    let entries_are : read.entries ≡ all.entries = ap (λ (x : LogRead). x.entries) h.read_is in
    let rest_is : read.rest ≡ all.rest = ap (λ (x : LogRead). x.rest) h.read_is in
    record {
      run_fits = h.run_fits;
      is_log = record {
        lawful = subst (λ (es : List Entry). All IsEntry es) (sym entries_are) (All-from_recursion IsEntry all.entries found.lawful);
        in_order = subst (λ (es : List Entry). InOrder es) (sym entries_are) found.order;
      };
      parts = (
        h.format,
        subst (λ (es : List Entry). HasLog h.format es) (sym entries_are) (All-from_recursion (HasEntry h.format) all.entries found.has),
        found.left,
        h.taken.parts ∙ ap (λ (t : List ℕ). header ++ t) (found.parts ∙ ap (λ (es : List Entry). flat_map text es ++ found.left) (sym entries_are)) ∙ sym (append_assoc header (flat_map text read.entries) found.left),
        found.counted ∙ sym rest_is,
      );
      longest = λ others is_log begins. longest_is bytes read h.run_fits e others is_log begins.1.0 begins.1.1 begins.1.2 begins.1.3;
    }
  where
    -- whichever format its text has
    longest_is : (bytes : List ℕ) (read : LogRead) → read.run < 2 ^ 64 → log_at bytes ≡ Ok read → (others : List Entry) → IsLog others → (format : Format) → HasLog format others
        → (left : List ℕ) → bytes ≡ log_text_in format read.run others ++ left → others ≡ take (length others) read.entries
    longest_is bytes read fits e others is_log format has left begins =
        let behind = flat_map (entry_text_in format) others ++ left in
        let found = all_at format no_token behind in
        let again : log_at bytes ≡ Ok (of_run read.run found) =
        ap log_at (begins ∙ append_assoc (header_text_in format read.run) (flat_map (entry_text_in format) others) left) ∙ header_again format read.run behind fits in
        let same : read ≡ of_run read.run found = ok_is read (of_run read.run found) (sym e ∙ again) in
        let texts = all_again format others no_token left (recursion_from_All IsEntry others is_log.lawful) (recursion_from_All (HasEntry format) others has) is_log.in_order in
        front_of others (all_at format (last_after no_token others) left) read.entries (ap (λ (x : LogRead). x.entries) same ∙ ap (λ (f : LogReading). f.entries) texts)

-- what a call has read are the whole entries
pub is_whole : (bytes : List ℕ) (result : Result LogText Refusal) → IsBytes bytes → Gives log_read result (log_at bytes) → IfOk result (λ text. AreWholeEntries bytes text.run text.entries.items text.rest)
is_whole bytes (Ok text) fits given = whole_entries bytes (log_read text) fits given
is_whole bytes (Err e) fits given = tt

-- ---- texts that were written

log_again : (format : Format) (run : ℕ) (entries : List Entry) → run < 2 ^ 64 → All IsEntry entries → HasLog format entries → InOrder entries → log_at (log_text_in format run entries) ≡ Ok (record { run = run; entries = entries; rest = 0; fault = None })
unfolding entries_at
log_again format run entries fits lawful has order =
    let all : all_at format no_token (flat_map (entry_text_in format) entries) ≡ with_front entries (all_at format (last_after no_token entries) []) =
    ap (all_at format no_token) (sym (append-nil (flat_map (entry_text_in format) entries))) ∙ all_again format entries no_token [] (recursion_from_All IsEntry entries lawful) (recursion_from_All (HasEntry format) entries has) order in
    header_again format run (flat_map (entry_text_in format) entries) fits ∙ ap (read_as run) (all ∙ ap (λ (es : List Entry). record { entries = es; rest = 0; fault = None }) (append-nil entries))

-- bytes that are a text of the entries, of either format, are read as these
pub text_again : (bytes : List ℕ) (run : ℕ) (entries : List Entry) → run < 2 ^ 64 → All IsEntry entries → InOrder entries → IsLogText bytes run entries → log_at bytes ≡ Ok (record { run = run; entries = entries; rest = 0; fault = None })
text_again bytes run entries fits lawful order text = ap log_at text.2 ∙ log_again text.0 run entries fits lawful text.1 order
