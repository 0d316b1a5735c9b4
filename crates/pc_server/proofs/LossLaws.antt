-- Nothing that was answered is lost.
use Rattle.std.proofs.Common.{◌≡◌, ℕ, ◌+◌, ◌-◌, ◌^◌, ◌≤◌, ◌<◌, ◌⊎◌, inl, inr, List, [], ◌∷◌, ◌++◌, length, take, take_all, drop, append_assoc, Option, Some, None, Ok, Err, refl, sym, ap, subst, ◌∙◌, arith, min, max}
use Rattle.std.specs.Prelude.{Bool, true, false, nat_lt, Result, MatchResult, All}
use Rattle.std.specs.List.{AllByRecursion, flat_map}
use Rattle.std.proofs.lemmas.List.Elements.{All-from_recursion, recursion_from_All}
use Rattle.std.proofs.Math.Seq.{take-add}
use Rattle.std.proofs.lemmas.Bool.Decides.{nat_tests}
use Rattle.std.proofs.lemmas.List.{append_cancel_left, length-append, take-append-drop, take-append-le}
use Rattle.std.proofs.lemmas.List.Concat.{flat_map-append}
use Rattle.pc_io.specs.Counted.{AppendsBeginning}
use Rattle.pc_io.specs.Tallies.{inner_of}
use Rattle.pc_types.specs.declared.Entry.{Entry}
use Rattle.pc_types.specs.declared.Entry.TheVariants.{Commit}
use Rattle.pc_io.specs.declared.Format.TheVariants.{Second}
use Rattle.pc_types.specs.declared.refusal.Refusal.TheVariants.{Full}
use Rattle.pc_types.specs.declared.limits.TheConstants.{MOST_LOG_ENTRIES}
use Rattle.pc_model.specs.Files.{BaseFile, File, file_at, shelf}
use Rattle.pc_model.specs.Headline.IsMade.{Shelved}
use Rattle.pc_model.specs.History.{History, log_of}
use Rattle.pc_model.specs.Log.{after}
use Rattle.pc_model.specs.Replies.{Setting}
use Rattle.pc_bases.specs.Lawful.{IsBaseFile, IsBaseText}
use Rattle.pc_log.specs.Texts.{entry_text, header_text, log_text_in}
use Rattle.pc_log.proofs.EntriesAgain.{second_has_all}
use Rattle.pc_engine.specs.Stands.{Stands}
use Rattle.pc_engine.specs.Store.{Store, setting_of}
use Rattle.pc_recover.specs.Recovery.{Recovery, recovery}
use Rattle.pc_recover.specs.Restarts.{AreWhole, IsRestored, token_number}
use Rattle.pc_recover.specs.Runs.{IsForeign, start_of}
use Rattle.pc_restarts.specs.Worlds.{EveryCutOfAWorldIsRecovered, IsTextOfShelf, WorldCameBack}
use Rattle.pc_turn.specs.Devices.{Grows}
use Rattle.pc_server.specs.Acts.{Act, answers_of}
use Rattle.pc_server.specs.Files.{HasOnlyFiles, IsTextOf}
use Rattle.pc_server.specs.Inputs.{AreFirstLines, EndsServed, HasStopped}
use Rattle.pc_server.specs.Services.{GrowsFrom, IsCutOff, entries_text, first_text}
use Rattle.pc_server.specs.Answered.{CameBackServed, KeepsAnswered, LosesNoAnswer}
use Rattle.pc_server.specs.declared.serve.Stopped.{Stopped}
use Rattle.pc_server.specs.declared.service.Service.{Service}
use Rattle.pc_server.proofs.ServerLaws.{Extends, lead_extends}
use Rattle.pc_server.proofs.AnsweredLaws.{answered_entry, commit_stays}
use Rattle.pc_server.proofs.FileLaws.{contains_at, second_has_part}
use Rattle.pc_model.proofs.LogLimits.{log_within}
use Rattle.pc_server.proofs.ServingLaws.{serving_ends, stopped_sent}

-- what came back of a text that was written in part is a cut of it
cut_of : (header log text : List ℕ) (w : Option (List ℕ)) → AppendsBeginning (Some header) w text → Grows (Some log) w → take (length log) (header ++ text) ≡ log
cut_of header log text None begun grows = absurd begun
cut_of header log text (Some w) (n, le, is) (x, e) =
    let whole : header ++ text ≡ log ++ (x ++ drop n text) =
    ap (λ t. header ++ t) (sym (take-append-drop n text)) ∙ (sym (append_assoc header (take n text) (drop n text)) ∙ (ap (λ t. t ++ drop n text) (sym is ∙ e) ∙ append_assoc log x (drop n text))) in
    ap (take (length log)) whole ∙ (take-append-le (length log) log (x ++ drop n text) (omega arith) ∙ take_all (length log) log (omega arith))

-- and is as long as what was kept
kept_long : (header log text : List ℕ) (k : Option (List ℕ)) → GrowsFrom (Some header) k text → Grows k (Some log) → length (header ++ text) ≤ length log
kept_long header log text k (None, p, q) grows = absurd p
kept_long header log text None (Some b, p, (y, q)) grows = absurd q
kept_long header log text (Some k) (Some b, p, (y, q)) (z, r) = omega (arith, ap length p, ap length q, ap length r, length-append b y, length-append k z)

-- the text of the first entries is no longer than that of more
first_longer : (p count : ℕ) (log : List Entry) → p ≤ count → length (first_text p log) ≤ length (first_text count log)
first_longer p count log order =
    let place : p + (count - p) ≡ count = omega (arith, order) in
    let both : first_text count log ≡ first_text p log ++ flat_map entry_text (take (count - p) (drop p log)) =
    ap (λ n. first_text n log) (sym place) ∙ (ap (flat_map entry_text) (take-add p (count - p) log) ∙ flat_map-append entry_text (take p log) (take (count - p) (drop p log))) in
    omega (arith, ap length both, length-append (first_text p log) (flat_map entry_text (take (count - p) (drop p log))))

-- as many entries are whole as were kept
enough : (run : ℕ) (log more : List Entry) (count c p : ℕ) → AreWhole Second run (log ++ more) c p → length (header_text run ++ first_text count log) ≤ c → min count (length log) ≤ p
enough run log more count c p whole long = by (nat_lt p (min count (length log))) refl
  where
    by : (b : Bool) → nat_lt p (min count (length log)) ≡ b → min count (length log) ≤ p
    by false e = grind (arith, nat_tests, e)
    by true e =
        let less : p < min count (length log) = grind (arith, nat_tests, e) in
        let within : p < length (log ++ more) = omega (arith, less, length-append log more) in
        let next : c < length (header_text run ++ first_text (p + 1) (log ++ more)) = whole.next within in
        let same : first_text (p + 1) (log ++ more) ≡ first_text (p + 1) log = ap (flat_map entry_text) (take-append-le (p + 1) log more (omega (arith, less))) in
        let longer = first_longer (p + 1) count log (omega (arith, less)) in
        absurd (omega (arith, next, long, longer, ap length same, length-append (header_text run) (first_text (p + 1) (log ++ more)), length-append (header_text run) (first_text count log)))

-- what was sent, and what was not
sent_apart : (before sent text : List ℕ) (o : Option (List ℕ)) → o ≡ Some (before ++ sent) → AppendsBeginning (Some before) o text → (more : List ℕ) × (text ≡ sent ++ more)
sent_apart before sent text None e begun = absurd begun
sent_apart before sent text (Some all) e (n, le, is) =
    let same : before ++ sent ≡ before ++ take n text = some_is (before ++ sent) all (sym e) ∙ is in
    (drop n text, sym (take-append-drop n text) ∙ ap (λ t. t ++ drop n text) (sym (append_cancel_left before sent (take n text) same)))
  where
    some_is : (x y : List ℕ) → Some x ≡ Some y → x ≡ y
    some_is x y e = cc

sent_begins : (before sent text : List ℕ) (o : Option (List ℕ)) → o ≡ Some (before ++ sent) → AppendsBeginning (Some before) o text → AppendsBeginning (Some []) (Some sent) text
sent_begins before sent text o e begun =
    let (more, is) = sent_apart before sent text o e begun in
    (length sent, omega (arith, ap length is, length-append sent more), sym (ap (take (length sent)) is ∙ (take-append-le (length sent) sent more (omega arith) ∙ take_all (length sent) sent (omega arith))))

on_found : {X E : Type 0} (r : Result X E) (P Q : X → Type 0) (R : E → Type 0) → ((x : X) → P x → Q x) → MatchResult r P R → MatchResult r Q R
on_found (Ok x) P Q R f p = f x p
on_found (Err e) P Q R f p = p

-- a base at point 0 is the one that its run started from
started : (base : BaseFile) → base.point ≡ 0 → base ≡ record { run = base.run; point = 0; pairs = base.pairs }
started base start = ap (λ n. let b : BaseFile = record { run = base.run; point = n; pairs = base.pairs } in b) start

-- whatever the points' files have is a text of a file of the shelf
module _ (st : Setting) (history : History) (first holds : ℕ → List ℕ → Type 0) (only : HasOnlyFiles first holds (shelf st.run history)) (none : (point : ℕ) (text : List ℕ) → first point text → IsForeign st.run text) where
  part_back : (bytes : List ℕ) → ((point : ℕ) × holds point bytes) ⊎ IsForeign st.run bytes → IsTextOfShelf (shelf st.run history) bytes ⊎ IsForeign st.run bytes
  part_back bytes (inr foreign) = inr foreign
  part_back bytes (inl (point, there)) = by (only point bytes there)
    where
      by : first point bytes ⊎ ((file : File) × (file_at (shelf st.run history) point ≡ Some file) × IsTextOf file bytes) → IsTextOfShelf (shelf st.run history) bytes ⊎ IsForeign st.run bytes
      by (inl was) = inr (none point bytes was)
      by (inr (file, at, is)) = inl (file, Shelved file (contains_at (shelf st.run history) point file at), is.0, (Second, second_has_part file, is.1))

  parts_back : (parts : List (List ℕ)) → AllByRecursion (λ bytes. ((point : ℕ) × holds point bytes) ⊎ IsForeign st.run bytes) parts → AllByRecursion (λ bytes. IsTextOfShelf (shelf st.run history) bytes ⊎ IsForeign st.run bytes) parts
  parts_back [] all = tt
  parts_back (bytes ∷ parts) all = (part_back bytes all.0, parts_back parts all.1)

-- what came back of a process is what came back of its world
world_back : (world : Store) (history : History) (first holds : ℕ → List ℕ → Type 0) (written kept : Option (List ℕ)) (base : List ℕ) (parts : List (List ℕ)) (log : List ℕ) → Stands world history
    → HasOnlyFiles first holds (shelf world.base.run history) → ((point : ℕ) (text : List ℕ) → first point text → IsForeign world.base.run text) → CameBackServed (setting_of world) holds written kept base parts log → WorldCameBack world base parts
world_back world history first holds written kept base parts log stands only none back =
    let start : world.base ≡ start_of (setting_of world) = started world.base stands.parts.start in
    record {
      base_is = subst (IsBaseText base) (sym start) back.base_is;
      base_fits = subst IsBaseFile (sym start) back.base_fits;
      parts_are = subst (λ (files : List File). All (λ bytes. IsTextOfShelf files bytes ⊎ IsForeign world.base.run bytes) parts) (sym stands.parts.cycle.shelved)
          (All-from_recursion _ parts (parts_back (setting_of world) history first holds only none parts (recursion_from_All _ parts back.parts_are)));
    }

module _ (law : EveryCutOfAWorldIsRecovered) {T U : Type 0} (written keeps : T → Option (List ℕ)) (contents : U → Option (List ℕ)) (before sent : List ℕ) (lag : ℕ) (gone turn : List Act) (at history : History) (device : T) (answers : U) (first holds : ℕ → List ℕ → Type 0) where
  -- how it ended
  abbrev Cut : Setting → Type 0
  Cut st = IsCutOff written keeps contents (Some (header_text st.run)) (Some before) st lag gone at turn history device answers

  -- what was recovered has all that was answered
  found_keeps : (world : Store) (c : ℕ) (parts : List (List ℕ)) (found : Recovery) → Stands world history → contents answers ≡ Some (before ++ sent) → Cut (setting_of world)
      → ((count : ℕ) → GrowsFrom (Some (header_text world.base.run)) (keeps device) (first_text count (log_of at)) → length (header_text world.base.run ++ first_text count (log_of at)) ≤ c)
      → IsRestored Second world.base.run world.base.pairs world.log 0 parts c found → KeepsAnswered (setting_of world) lag gone sent (log_of history) found
  found_keeps world c parts found stands known cut long restored =
      let first = max found.entries (token_number found.point world.log) in
      let on : Extends at history = lead_extends (setting_of world) at history turn cut.turn_by in
      let whole = subst (λ l. AreWhole Second world.base.run l c found.entries) (stands.parts.log ∙ on.1) restored.entries in
      let (count, enough_kept, kept) = cut.kept in
      let all : min count (length (log_of at)) ≤ found.entries = enough world.base.run (log_of at) on.0 count c found.entries whole (long count kept) in
      let few : length (log_of history) ≤ MOST_LOG_ENTRIES = log_within (setting_of world) history stands.legal in
      let few_at : length (log_of at) < 2 ^ 64 = omega (arith, few, ap length on.1, length-append (log_of at) on.0) in
      let split = sent_apart before sent (answers_of gone) (contents answers) known cut.sent in
      record {
        first = first;
        pairs = restored.pairs ∙ ap (λ l. after world.base.pairs (take first l)) stands.parts.log;
        answered = λ number fits is.
            let entry = answered_entry (setting_of world) at gone sent split.0 number fits few_at cut.gone_by split.1 is in
            let (front, back, session, writes, log, place) = entry in
            (commit_stays at history number on entry, omega (arith, place, ap length log, length-append front (Commit session writes ∷ back), enough_kept, all));
      }

  -- whatever came back
  world_loses_none : (world : Store) (base : List ℕ) (parts : List (List ℕ)) (log : List ℕ) → Stands world history → contents answers ≡ Some (before ++ sent) → Cut (setting_of world) → HasOnlyFiles first holds (shelf world.base.run history) → ((point : ℕ) (text : List ℕ) → first point text → IsForeign world.base.run text) → CameBackServed (setting_of world) holds (written device) (keeps device) base parts log
      → MatchResult (recovery base parts log) (KeepsAnswered (setting_of world) lag gone sent (log_of history)) (λ refusal. refusal ≡ Full)
  world_loses_none world base parts log stands known cut only none back =
      let run = world.base.run in
      let c = length log in
      let is : take c (log_text_in Second run world.log) ≡ log = ap (λ l. take c (log_text_in Second run l)) stands.parts.log ∙ cut_of (header_text run) log (entries_text (log_of history)) (written device) cut.logged back.as_written in
      let found = subst (λ bytes. MatchResult (recovery base parts bytes) (IsRestored Second run world.base.pairs world.log 0 parts c) (λ refusal. refusal ≡ Full)) is
      (law Second world history base parts c stands (second_has_all world.log) (world_back world history first holds (written device) (keeps device) base parts log stands only none back)) in
      on_found (recovery base parts log) (IsRestored Second run world.base.pairs world.log 0 parts c) (KeepsAnswered (setting_of world) lag gone sent (log_of history)) (λ refusal. refusal ≡ Full)
      (λ found restored. found_keeps world c parts found stands known cut (λ count kept. kept_long (header_text run) log (first_text count (log_of at)) (keeps device) kept back.all_kept) restored) found

  -- of any setting
  pub loses_none : (st : Setting) (base : List ℕ) (parts : List (List ℕ)) (log : List ℕ) → contents answers ≡ Some (before ++ sent) → Cut st → HasOnlyFiles first holds (shelf st.run history) → ((point : ℕ) (text : List ℕ) → first point text → IsForeign st.run text) → CameBackServed st holds (written device) (keeps device) base parts log
      → MatchResult (recovery base parts log) (KeepsAnswered st lag gone sent (log_of history)) (λ refusal. refusal ≡ Full)
  loses_none st base parts log known cut only none back =
      let (world, stands, same) = cut.stands in
      subst (λ (s : Setting). Cut s → HasOnlyFiles first holds (shelf s.run history) → ((point : ℕ) (text : List ℕ) → first point text → IsForeign s.run text) → CameBackServed s holds (written device) (keeps device) base parts log → MatchResult (recovery base parts log) (KeepsAnswered s lag gone sent (log_of history)) (λ refusal. refusal ≡ Full)) same
      (λ cut_w only_w none_w back_w. world_loses_none world base parts log stands known cut_w only_w none_w back_w) cut only none back

-- if it is killed, all that was written is kept, and so nothing lags behind
killed_cut : {T U : Type 0} (written keeps : T → Option (List ℕ)) (contents : U → Option (List ℕ)) (log out : Option (List ℕ)) (st : Setting) (lag : ℕ) (gone turn : List Act) (at history : History) (device : T) (answers : U) → IsCutOff written keeps contents log out st lag gone at turn history device answers
    → IsCutOff written written contents log out st 0 gone at turn history device answers
killed_cut written keeps contents log out st lag gone turn at history device answers cut =
    let all : entries_text (log_of at) ≡ first_text (length (log_of at)) (log_of at) = ap (flat_map entry_text) (sym (take_all (length (log_of at)) (log_of at) (omega arith))) in
    record {
      stands = cut.stands;
      gone_by = cut.gone_by;
      turn_by = cut.turn_by;
      sent = cut.sent;
      logged = cut.logged;
      all_written = cut.all_written;
      kept = (length (log_of at), omega arith, subst (GrowsFrom log (written device)) all cut.all_written);
    }

killed_ends : {T U : Type 0} (written keeps : T → Option (List ℕ)) (contents : U → Option (List ℕ)) (log out input : Option (List ℕ)) (st : Setting) (lag : ℕ) (files : List File) (device : T) (answers : U) → EndsServed written keeps contents log out input st lag files device answers
    → EndsServed written written contents log out input st 0 files device answers
killed_ends written keeps contents log out input st lag files device answers (lines, firsts, (gone, turn, at, history, rest, cut, these, there)) =
    (lines, firsts, (gone, turn, at, history, rest, killed_cut written keeps contents log out st lag gone turn at history device answers cut, these, there))

module _ (law : EveryCutOfAWorldIsRecovered) {T U : Type 0} (written keeps : T → Option (List ℕ)) (contents : U → Option (List ℕ)) (before sent : List ℕ) (input left : Option (List ℕ)) (stopped : Stopped) (st : Setting) (lag : ℕ) (first holds : ℕ → List ℕ → Type 0)
    (none : (point : ℕ) (text : List ℕ) → first point text → IsForeign st.run text) where
  -- at every end
  ends_lose_none : (device : T) (answers : U) (files : List File) → contents answers ≡ Some (before ++ sent) → EndsServed written keeps contents (Some (header_text st.run)) (Some before) input st lag files device answers → HasOnlyFiles first holds files
      → LosesNoAnswer holds (written device) (keeps device) sent input st lag
  ends_lose_none device answers files known (lines, first_lines, (gone, turn, at, history, rest, cut, these, there)) only = (
    gone,
    turn,
    at,
    history,
    cut.gone_by,
    cut.turn_by,
    (rest, subst (AreFirstLines input) these first_lines),
    sent_begins before sent (answers_of gone) (contents answers) known cut.sent,
    λ base parts log back. loses_none law written keeps contents before sent lag gone turn at history device answers first holds st base parts log known cut (subst (HasOnlyFiles first holds) (sym there) only) none back,
  )

module _ (law : EveryCutOfAWorldIsRecovered) {T U : Type 0} (written keeps : T → Option (List ℕ)) (contents : U → Option (List ℕ)) (before sent : List ℕ) (input left : Option (List ℕ)) (stopped : Stopped) (st : Setting) (lag : ℕ) (first holds : ℕ → List ℕ → Type 0)
    (none : (point : ℕ) (text : List ℕ) → first point text → IsForeign st.run text) where
  -- and if all was sent
  ended : (service : Service T U) (files : List File)
      → HasStopped written keeps contents (Some (header_text st.run)) (Some before) input st lag left files service stopped ⊎ EndsServed written keeps contents (Some (header_text st.run)) (Some before) input st lag files service.log (inner_of service.out)
      → EndsServed written keeps contents (Some (header_text st.run)) (Some before) input st lag files service.log (inner_of service.out)
  ended service files (inr ends) = ends
  ended service files (inl stops) =
      let (lines, firsts, (gone, at, holds_all, these, same, there)) = stopped_sent written keeps contents (Some (header_text st.run)) (Some before) input left st lag files service stopped stops in
      (lines, firsts, serving_ends written keeps contents (Some (header_text st.run)) (Some before) st lag files lines service (gone, [], at, at, holds_all, these, same, there))

  pub all_lose_none : (service : Service T U) (files : List File) → contents (inner_of service.out) ≡ Some (before ++ sent)
      → HasStopped written keeps contents (Some (header_text st.run)) (Some before) input st lag left files service stopped ⊎ EndsServed written keeps contents (Some (header_text st.run)) (Some before) input st lag files service.log (inner_of service.out)
      → HasOnlyFiles first holds files → LosesNoAnswer holds (written service.log) (keeps service.log) sent input st lag
  all_lose_none service files known ends only = ends_lose_none law written keeps contents before sent input left stopped st lag first holds none service.log (inner_of service.out) files known (ended service files ends) only

  -- a kill loses nothing that was written, so what it leaves is what a device leaves that keeps all that is written, without a lag
  pub kills_lose_none : (service : Service T U) (files : List File) → contents (inner_of service.out) ≡ Some (before ++ sent)
      → HasStopped written keeps contents (Some (header_text st.run)) (Some before) input st lag left files service stopped ⊎ EndsServed written keeps contents (Some (header_text st.run)) (Some before) input st lag files service.log (inner_of service.out)
      → HasOnlyFiles first holds files → LosesNoAnswer holds (written service.log) (written service.log) sent input st 0
  kills_lose_none service files known ends only =
      ends_lose_none law written written contents before sent input left stopped st 0 first holds none service.log (inner_of service.out) files known
      (killed_ends written keeps contents (Some (header_text st.run)) (Some before) input st lag files service.log (inner_of service.out) (ended service files ends)) only
