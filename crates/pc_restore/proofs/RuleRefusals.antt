-- What the rules of recovery refuse bytes with.
use Rattle.std.proofs.Common.{◌≡◌, ◌≢◌, ℕ, zero, suc, ◌+◌, Bool, true, false, cond, eqb, ltb, nat_eq, List, [], ◌∷◌, ◌++◌, Option, Some, None, Result, Ok, Err, length, take, drop, subst, ◌∙◌}
use Rattle.std.specs.Prelude.{nat_le, ◌&&◌, ⊤}
use Rattle.std.specs.Ordering.{is_lt}
use Rattle.std.specs.Cmp.Lexicographic.{pointwise}
use Rattle.std.specs.Int.{w16, w32, w64, Width, byte_len, from_be_bytes}
use Rattle.pc_types.specs.declared.refusal.Refusal.{Refusal}
use Rattle.pc_types.specs.declared.refusal.Refusal.TheVariants as why
use Rattle.pc_io.specs.declared.formats.Format.{Format}
use Rattle.pc_io.specs.declared.formats.Format.TheVariants.{First, Second}
use Rattle.pc_io.specs.Fields.{◌>>=◌, where_true, bytes_at, number_at, space_bytes, format_told, magic_at, sized_key_at, value_at}
use Rattle.pc_model.specs.Database.{key_cmp}
use Rattle.pc_model.specs.Files.{File, BaseFile, joined_file}
use Rattle.pc_model.specs.LaidFiles.{gap_above, laid_file}
use Rattle.pc_model.specs.Replies.{join_causes}
use Rattle.pc_part.specs.Joins.{first_cause}
use Rattle.pc_bases.specs.Layings.{gap_causes, lay_causes, limit_causes}
use Rattle.pc_part.specs.Reading.{items_at, next_key_at}
use Rattle.pc_bases.specs.Reading.{pair_at, pairs_at, base_fields_at, base_at}
use Rattle.pc_bases.specs.Texts.{base_magic}
use Rattle.pc_log.specs.Reading as log_text
use Rattle.pc_log.specs.Texts.{log_magic}
use Rattle.pc_restore.specs.Recoveries.{IsRulesRefusal}
use Rattle.pc_recover.specs.Recovery.{decoded_files, files_to, try_folded, log_of_run, read_after_crash, read_files, recovered_point, recovery, ok_unless, with_files}

-- a refusal here is one of the rules
abbrev pub IsOfRules : {X : Type 0} → Result X Refusal → Type 0
IsOfRules (Ok x) = ⊤
IsOfRules (Err e) = IsRulesRefusal e

pub rules_then : {X Y : Type 0} (r : Result X Refusal) (f : X → Result Y Refusal) → IsOfRules r → ((x : X) → IsOfRules (f x)) → IsOfRules (r >>= f)
rules_then (Ok x) f h k = k x
rules_then (Err e) f h k = h

rules_where : {X : Type 0} (test : Bool) (fault : Refusal) (x : X) → IsRulesRefusal fault → IsOfRules (where_true test fault x)
rules_where true fault x h = tt
rules_where false fault x h = h

-- ---- the fields of a text

rules_counted : {X : Type 0} (test : Bool) (x : X) → IsOfRules (cond test (Err why.Short) (Ok x))
rules_counted true x = tt
rules_counted false x = tt

rules_number : (w : Width) (bytes : List ℕ) → IsOfRules (number_at why.Short w bytes)
rules_number w bytes = rules_counted (ltb (length bytes) (byte_len w)) (from_be_bytes w (take (byte_len w) bytes), drop (byte_len w) bytes)

rules_bytes : (count : ℕ) (bytes : List ℕ) → IsOfRules (bytes_at why.Short count bytes)
rules_bytes count bytes = rules_counted (ltb (length bytes) count) (take count bytes, drop count bytes)

rules_told : (first second magic : List ℕ) → IsOfRules (format_told first second magic)
rules_told first second magic = by (pointwise nat_eq magic second)
  where
    by : (t : Bool) → IsOfRules {X = Format} (cond t (Ok Second) (where_true (pointwise nat_eq magic first) why.BadMagic First))
    by true = tt
    by false = rules_where (pointwise nat_eq magic first) why.BadMagic First tt

rules_magic : (first second bytes : List ℕ) → IsOfRules (magic_at first second bytes)
unfolding magic_at
rules_magic first second bytes = rules_then _ _ (rules_bytes 8 bytes) (λ magic. rules_then _ _ (rules_told first second magic.0) (λ format. tt))

rules_key : (format : Format) (last : List ℕ) (count : ℕ) (bytes : List ℕ) → IsOfRules (next_key_at format last count bytes)
unfolding next_key_at sized_key_at
rules_key format last count bytes =
    rules_then _ _ (rules_then _ _ (rules_where (nat_le 1 count && nat_le count 255) why.BadLength count tt) (λ lawful. rules_then _ _ (rules_bytes (lawful + space_bytes format) bytes) (λ text. tt)))
    (λ key. rules_where (is_lt (key_cmp last key.0)) why.KeyOrder key tt)

rules_value : (bytes : List ℕ) → IsOfRules (value_at why.Short bytes)
unfolding value_at
rules_value bytes = rules_then _ _ (rules_number w32 bytes) (λ count. rules_then _ _ (rules_where (nat_le count.0 65535) why.BadLength count.0 tt) (λ lawful. rules_bytes lawful count.1))

-- ---- a base

rules_pair : (format : Format) (last bytes : List ℕ) → IsOfRules (pair_at format last bytes)
unfolding pair_at
rules_pair format last bytes = rules_then _ _ (rules_number w16 bytes) (λ count. rules_then _ _ (rules_key format last count.0 count.1) (λ key. rules_then _ _ (rules_value key.1) (λ value. tt)))

rules_pairs : (format : Format) (count : ℕ) (last bytes : List ℕ) → IsOfRules (pairs_at format count last bytes)
unfolding items_at
rules_pairs format zero last bytes = tt
rules_pairs format (suc count) last bytes = rules_then _ _ (rules_pair format last bytes) (λ first. rules_then _ _ (rules_pairs format count first.0.0 first.1) (λ others. tt))

pub rules_base : (bytes : List ℕ) → IsOfRules (base_at bytes)
unfolding base_fields_at
rules_base bytes = rules_then _ _ (rules_then _ _ (rules_magic (base_magic First) (base_magic Second) bytes) (λ start. rules_then _ _ (rules_number w64 start.1) (λ run. rules_then _ _ (rules_number w32 run.1)
    (λ point. rules_then _ _ (rules_where (nat_le point.0 65535) why.BadRanges point.0 tt) (λ lawful. rules_then _ _ (rules_number w32 point.1) (λ count. rules_then _ _ (rules_pairs start.0 count.0 [] count.1)
    (λ pairs. rules_where (eqb (length pairs.1) 0) why.Trailing _ tt))))))) (λ base. tt)

-- ---- the files, and the log

-- causes that are all of the rules
abbrev AreOfRules : List (Bool × Refusal) → Type 0
AreOfRules [] = ⊤
AreOfRules (c ∷ causes) = IsRulesRefusal c.1 × AreOfRules causes

rules_unless : {X : Type 0} (causes : List (Bool × Refusal)) (x : X) → AreOfRules causes → IsOfRules (ok_unless (first_cause causes) x)
rules_unless [] x h = tt
rules_unless ((true, e) ∷ causes) x h = h.0
rules_unless ((false, e) ∷ causes) x h = rules_unless causes x h.1

rules_folded : (file : File) (files : List File) → IsOfRules (try_folded file files)
rules_folded file [] = tt
rules_folded file (next ∷ files) = rules_then _ _ (rules_unless (join_causes (Some file) (Some next)) (joined_file file next) (tt, (tt, (tt, tt)))) (λ joined. rules_folded joined files)

rules_laid : (base : BaseFile) (joined : File) → IsOfRules (ok_unless (first_cause (lay_causes base joined)) (laid_file base joined))
rules_laid base joined = rules_unless (lay_causes base joined) (laid_file base joined) (tt, by (gap_above base.point joined.points))
  where
    by : (gap : Option ℕ) → AreOfRules (gap_causes gap ++ limit_causes base.pairs base.point joined.triples)
    by None = (tt, tt)
    by (Some point) = (tt, (tt, tt))

rules_with_files : (base : BaseFile) (files : List File) → IsOfRules (with_files base files)
rules_with_files base [] = tt
rules_with_files base (file ∷ files) = rules_then _ _ (rules_folded file files) (λ joined. rules_laid base joined)

rules_log : (bytes : List ℕ) → IsOfRules (log_text.log_at bytes)
unfolding log_text.log_at log_text.header_at
rules_log bytes = rules_then _ _ (rules_then _ _ (rules_magic (log_magic First) (log_magic Second) bytes) (λ start. rules_then _ _ (rules_number w64 start.1) (λ run. rules_then _ _ (rules_number w32 run.1)
    (λ base. rules_where (eqb base.0 0) why.BadRanges _ tt)))) (λ header. tt)

pub rules_log_of : (run : ℕ) (bytes : List ℕ) → IsOfRules (log_of_run run bytes)
rules_log_of run bytes = by (ltb (length bytes) 20)
  where
    by : (t : Bool) → IsOfRules {X = log_text.LogRead} (cond t (Ok (record { run = run; entries = []; rest = length bytes; fault = None })) (log_text.log_at bytes >>= λ log. where_true (eqb log.run run) why.OtherRun (read_after_crash bytes log)))
    by true = tt
    by false = rules_then _ _ (rules_log bytes) (λ log. rules_where (eqb log.run run) why.OtherRun (read_after_crash bytes log) tt)

pub rules_recovery : (base : List ℕ) (parts : List (List ℕ)) (log : List ℕ) → IsOfRules (recovery base parts log)
unfolding recovery
rules_recovery base parts log = rules_then _ _ (rules_base base)
    (λ first. rules_then _ _ (rules_with_files first (files_to (recovered_point first.point (read_files (decoded_files first.run parts))) (read_files (decoded_files first.run parts)))) (λ laid. rules_then _ _ (rules_log_of first.run log) (λ read. tt)))

pub of_rules : {X : Type 0} (r : Result X Refusal) (e : Refusal) → IsOfRules r → r ≡ Err e → IsRulesRefusal e
of_rules (Ok x) e h is = absurd (let no : Ok x ≡ Err e = is in cc)
of_rules (Err d) e h is = let same : d ≡ e = cc in subst IsRulesRefusal same h

-- so their refusal is in the list
pub rules_refuse : (base : List ℕ) (parts : List (List ℕ)) (log : List ℕ) (e : Refusal) → recovery base parts log ≡ Err e → IsRulesRefusal e
rules_refuse base parts log e is = of_rules (recovery base parts log) e (rules_recovery base parts log) is
