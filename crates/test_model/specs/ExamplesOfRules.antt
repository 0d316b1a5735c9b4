-- Single rules, each shown at one place: rules of locks, of files, of refusals and of reads; and the limits of the store as numbers.
use Rattle.std.specs.Prelude.{◌≡◌, ℕ, zero, suc, Bool, true, false, List, [], ◌∷◌, Some, None, reverse}
use Rattle.pc_types.specs.declared.Phase.TheVariants.{Rest}
use Rattle.pc_types.specs.declared.Event.TheVariants as asked
use Rattle.pc_types.specs.declared.Reply.TheVariants as told
use Rattle.pc_types.specs.declared.Refusal.TheVariants as why
use Rattle.pc_types.specs.declared.Step.{Step}
use Rattle.pc_types.specs.Keys.{key_of, space_of, own_bytes}
use Rattle.pc_types.specs.Limits.{IsKey}
use Rattle.pc_io.specs.declared.Format.TheVariants.{First, Second}
use Rattle.pc_model.specs.Maps as map_of
use Rattle.pc_model.specs.Sets as set
use Rattle.pc_model.specs.Database.{database_of, KeysRise}
use Rattle.pc_model.specs.History.{History}
use Rattle.pc_types.specs.declared.Mode.TheVariants.{Shared, Exclusive}
use Rattle.pc_types.specs.declared.Outcome.TheVariants.{Granted, Queued, Died}
use Rattle.pc_types.specs.declared.Request.{Request}
use Rattle.pc_types.specs.declared.limits.TheConstants.{MOST_CLAIMS, MOST_COLLAPSERS, MOST_FILES, MOST_FILE_ENTRIES, MOST_KEYS, MOST_KEY_BYTES, MOST_LOG_ENTRIES, MOST_PASSES, MOST_POINTS, MOST_SESSIONS, MOST_TRANSACTIONS, MOST_VALUE_BYTES, MOST_WORKERS, MOST_WRITES, SPACE_BYTES}
use Rattle.pc_model.specs.Locks.{outcome, queue_after, queue_without}
use Rattle.pc_model.specs.Points.{Triples, joined, laid}
use Rattle.pc_model.specs.Files.{File, conflict}
use Rattle.pc_model.specs.LaidFiles.{gap_above, laid_file}
use Rattle.pc_model.specs.Replies.{Setting, first_refusal, transaction_causes, too_many, certain, join_refusal}
use Rattle.pc_model.specs.Reads.{HasRightReads}
use Rattle.pc_log.specs.Reading.{most_body_bytes}
use Rattle.test_model.specs.Examples.{step, plain, a, a_in_7, b, k, z, v1, v2, v5, v6, v9}
use Rattle.test_model.specs.ExamplesOfLocks.{older_waits}

-- a shared request of the transaction, granted or waiting
abbrev pub shared : ℕ → Bool → Request
shared t granted = record { transaction = t; mode = Shared; granted = granted }

-- an exclusive request of the transaction, granted or waiting
abbrev pub exclusive : ℕ → Bool → Request
exclusive t granted = record { transaction = t; mode = Exclusive; granted = granted }

-- Rules of locks, on single queues.
pub record LockRules : Type 0 where
  -- what the own exclusive lock covers is granted, and the queue stays
  pub covered : outcome (exclusive 3 true ∷ shared 2 false ∷ []) 3 Shared ≡ Granted
  pub covered_stays : queue_after (exclusive 3 true ∷ shared 2 false ∷ []) 3 Shared Granted ≡ exclusive 3 true ∷ shared 2 false ∷ []
  -- a new request that fits all granted ones, but not a waiting one, is not granted
  pub waiting_ones_count : outcome (shared 5 true ∷ exclusive 3 false ∷ []) 4 Shared ≡ Died
  -- the oldest of all waits
  pub oldest_waits : outcome (shared 5 true ∷ exclusive 3 false ∷ []) 2 Shared ≡ Queued
  -- older than one, but not than all, dies
  pub not_the_oldest_dies : outcome (shared 5 true ∷ shared 2 true ∷ []) 3 Exclusive ≡ Died
  -- an upgrade is granted beside a request that waits
  pub upgrade_beside_a_waiting_one : outcome (shared 5 true ∷ exclusive 3 false ∷ []) 5 Exclusive ≡ Granted
  -- it dies next to another granted one
  pub upgrade_beside_a_granted_one : outcome (shared 5 true ∷ shared 6 true ∷ []) 5 Exclusive ≡ Died
  -- it takes the place of the shared request
  pub upgraded_in_place : queue_after (shared 5 true ∷ exclusive 3 false ∷ []) 5 Exclusive Granted ≡ exclusive 5 true ∷ exclusive 3 false ∷ []
  -- requests are granted from the front, and none after the first that doesn't fit
  pub granted_from_the_front : queue_without (exclusive 5 true ∷ shared 4 false ∷ shared 3 false ∷ exclusive 2 false ∷ shared 1 false ∷ []) 5
      ≡ shared 4 true ∷ shared 3 true ∷ exclusive 2 false ∷ shared 1 false ∷ []
  -- also if one that fits comes after it
  pub none_is_overtaken : queue_without (shared 6 true ∷ shared 5 true ∷ exclusive 4 false ∷ []) 6 ≡ shared 5 true ∷ exclusive 4 false ∷ []

-- the triples of one key
abbrev pub one_triple : List ℕ → ℕ → List ℕ → Triples
one_triple key point value = map_of.insert map_of.empty key (record { point = point; content = Some value })

-- the triples of one key that is absent
abbrev pub one_tombstone : List ℕ → ℕ → Triples
one_tombstone key point = map_of.insert map_of.empty key (record { point = point; content = None })

-- a file of one point
abbrev pub file_at_point : ℕ → ℕ → Triples → File
file_at_point run point triples = record { run = run; points = set.insert set.empty point; triples = triples }

-- Rules of files: conflicts, joins, laying and gaps.
pub record FileRules : Type 0 where
  -- two contents at one point are a conflict
  pub two_values_conflict : conflict (one_triple a 1 v1) (one_triple a 1 v2) ≡ true
  pub value_and_tombstone_conflict : conflict (one_triple a 1 v1) (one_tombstone a 1) ≡ true
  -- those of two points aren't, nor is the same content twice, nor are two keys
  pub two_points_do_not : conflict (one_triple a 1 v1) (one_triple a 2 v2) ≡ false
  pub the_same_does_not : conflict (one_triple a 1 v1) (one_triple a 1 v1) ≡ false
  pub the_same_tombstone_does_not : conflict (one_tombstone a 1) (one_tombstone a 1) ≡ false
  pub two_keys_do_not : conflict (one_triple a 1 v1) (one_triple b 1 v2) ≡ false
  -- a tombstone of a greater point outlives a value in a join, in both orders
  pub tombstone_joined : (joined (one_triple a 1 v1) (one_tombstone a 2)).entries ≡ (one_tombstone a 2).entries
  pub tombstone_joined_first : (joined (one_tombstone a 2) (one_triple a 1 v1)).entries ≡ (one_tombstone a 2).entries
  -- only triples of points above the base's are laid
  pub laid_above : (laid (database_of ((a, v9) ∷ [])) 1 (joined (one_triple a 1 v1) (one_triple b 2 v2))).entries ≡ (a, v9) ∷ (b, v2) ∷ []
  -- a file of lower points leaves the base's point
  pub laid_below : (laid_file (record { run = 1; point = 3; pairs = database_of ((a, v9) ∷ []) }) (file_at_point 1 2 (one_triple a 2 v1))).point ≡ 3
  -- a gap is the first missing point above the base's
  pub gap_is_the_first : gap_above 0 (set.from_list (4 ∷ 1 ∷ [])) ≡ Some 2
  pub gap_above_the_base : gap_above 2 (set.from_list (5 ∷ 3 ∷ [])) ≡ Some 4
  pub no_gap_above_the_base : gap_above 3 (set.from_list (4 ∷ 1 ∷ [])) ≡ None
  pub no_gap_below_the_base : gap_above 5 (set.from_list (4 ∷ 1 ∷ [])) ≡ None

-- the key of space 0 whose two bytes differ for each number
abbrev pub numbered_key : ℕ → List ℕ
numbered_key n = key_of 0 (107 ∷ n ∷ [])

-- a transaction of session 1 that put the keys of the numbers below this one
abbrev pub many_puts : ℕ → History
many_puts zero = step (asked.Begin 1) (told.Begun 1) ∷ []
many_puts (suc n) = step (asked.Put 1 (numbered_key n) v1) told.Ok ∷ many_puts n

-- Keys: each is of some bytes in a space, and they are ordered by space, and in one space byte by byte.
pub record KeyRules : Type 0 where
  pub key_of_one_byte : IsKey a
  pub key_of_no_byte : ¬ IsKey (key_of 7 [])
  pub space_told : (space_of a_in_7 ≡ 7) × (own_bytes a_in_7 ≡ 97 ∷ [])
  pub same_bytes_in_two_spaces : KeysRise ((a, v1) ∷ (a_in_7, v1) ∷ [])
  pub space_before_bytes : KeysRise ((a, v1) ∷ (z, v1) ∷ (a_in_7, v1) ∷ (key_of 256 (97 ∷ []), v1) ∷ [])
  pub shorter_first : KeysRise ((key_of 7 (97 ∷ []), v1) ∷ (key_of 7 (97 ∷ 0 ∷ []), v1) ∷ [])

-- The limits of the store. Everywhere else each has its name.
pub record LimitRules : Type 0 where
  -- of a space, of a key's own bytes, and of a value, in bytes
  pub space_bytes : SPACE_BYTES ≡ 2
  pub most_key_bytes : MOST_KEY_BYTES ≡ 255
  pub most_value_bytes : MOST_VALUE_BYTES ≡ 65535
  -- of a store: its sessions, the keys that it has room for, and the transactions that it begins
  pub most_sessions : MOST_SESSIONS ≡ 64
  pub most_keys : MOST_KEYS ≡ 1048576
  pub most_transactions : MOST_TRANSACTIONS ≡ 1099511627776
  -- of the keys that a transaction writes
  pub most_writes : MOST_WRITES ≡ 256
  -- of a log's entries, and of a run's points
  pub most_log_entries : MOST_LOG_ENTRIES ≡ 16777216
  pub most_points : MOST_POINTS ≡ 65535
  -- of a shelf's files, and of a file's entries
  pub most_files : MOST_FILES ≡ 65536
  pub most_file_entries : MOST_FILE_ENTRIES ≡ 4294967295
  -- of a board's passes, and of a pass's claims; of the threads that collapse, and of those that run clients
  pub most_passes : MOST_PASSES ≡ 65
  pub most_claims : MOST_CLAIMS ≡ 4294967295
  pub most_collapsers : MOST_COLLAPSERS ≡ 64
  pub most_workers : MOST_WORKERS ≡ 64
  -- of the body of a log's entry, in bytes: that of the first format has no spaces
  pub most_body_bytes_first : most_body_bytes First ≡ 16844036
  pub most_body_bytes_second : most_body_bytes Second ≡ 16844548

-- Rules of refusals, and of those that no short history meets.
pub record RefusalRules : Type 0 where
  -- a 257th key is one too many, and a key that was written isn't
  pub key_257_is_too_many : too_many 1 a (many_puts 256) ≡ true
  pub key_256_is_not : too_many 1 a (many_puts 255) ≡ false
  pub written_key_is_not : too_many 1 (numbered_key 7) (many_puts 256) ≡ false
  -- TooManyWrites comes before Full
  pub too_many_before_full : (st : Setting) (history : History) (s : ℕ) (key : List ℕ) → first_refusal (transaction_causes st s history) ≡ None → too_many s key history ≡ true →
      certain st history (asked.Del s key) ≡ Some (told.Refused why.TooManyWrites)
  -- the points end with 65,535
  pub no_point_65536 : certain plain (step asked.Rest (told.Phase Rest 65535) ∷ []) asked.StartPoint ≡ Some (told.Refused why.PointsFull)
  pub point_65535 : certain plain (step asked.Rest (told.Phase Rest 65534) ∷ []) asked.StartPoint ≡ None
  -- the refusals of a join: NoFile, OtherRun, Conflict
  pub join_of_no_file : join_refusal [] (Some (file_at_point 1 1 (one_triple a 1 v1))) None ≡ Some (told.Refused why.NoFile)
  pub other_run_before_conflict : join_refusal [] (Some (file_at_point 1 1 (one_triple a 1 v1))) (Some (file_at_point 2 1 (one_triple a 1 v2))) ≡ Some (told.Refused why.OtherRun)
  pub conflict_refused : join_refusal [] (Some (file_at_point 1 1 (one_triple a 1 v1))) (Some (file_at_point 1 1 (one_triple a 1 v2))) ≡ Some (told.Refused why.Conflict)

-- a transaction that read a key before another one committed it, and commits after it
abbrev pub overtaken_read : List Step
overtaken_read = step (asked.Begin 1) (told.Begun 1)
    ∷ step (asked.Get 1 k) (told.Found v5)
    ∷ step (asked.Begin 2) (told.Begun 2)
    ∷ step (asked.Put 2 k v6) told.Ok
    ∷ step (asked.Commit 2) (told.Committed 1)
    ∷ step (asked.Commit 1) (told.Committed 2)
    ∷ []

-- a transaction that reads past its own write
abbrev pub own_write_missed : List Step
own_write_missed = step (asked.Begin 1) (told.Begun 1)
    ∷ step (asked.Put 1 k v6) told.Ok
    ∷ step (asked.Get 1 k) (told.Found v5)
    ∷ step (asked.Commit 1) (told.Committed 1)
    ∷ []

-- a transaction that reads its own write
abbrev pub own_write_read : List Step
own_write_read = step (asked.Begin 1) (told.Begun 1)
    ∷ step (asked.Put 1 k v6) told.Ok
    ∷ step (asked.Get 1 k) (told.Found v6)
    ∷ step (asked.Commit 1) (told.Committed 1)
    ∷ []

-- a transaction that is open still, and one that was aborted, of which nothing is said
abbrev pub wrong_reads_without_commit : List Step
wrong_reads_without_commit = step (asked.Begin 1) (told.Begun 1)
    ∷ step (asked.Get 1 k) (told.Found v9)
    ∷ step (asked.Abort 1) told.Aborted
    ∷ step (asked.Begin 1) (told.Begun 2)
    ∷ step (asked.Commit 1) (told.Committed 1)
    ∷ step (asked.Begin 2) (told.Begun 3)
    ∷ step (asked.Get 2 k) told.Absent
    ∷ []

-- Rules of reads, from a base in which k has 5.
pub record ReadRules : Type 0 where
  pub overtaken_read_is_wrong : ¬ HasRightReads (database_of ((k, v5) ∷ [])) (reverse overtaken_read)
  pub own_write_missed_is_wrong : ¬ HasRightReads (database_of ((k, v5) ∷ [])) (reverse own_write_missed)
  pub own_write_read_is_right : HasRightReads (database_of ((k, v5) ∷ [])) (reverse own_write_read)
  pub wait_and_read_is_right : HasRightReads (database_of ((k, v5) ∷ [])) (reverse older_waits)
  pub only_commits_count : HasRightReads (database_of ((k, v5) ∷ [])) (reverse wrong_reads_without_commit)
