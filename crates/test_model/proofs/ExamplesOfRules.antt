-- Single rules and limits, by computing.
use Rattle.std.proofs.Common.{◌≡◌, [], ◌∷◌, Some, true, false, refl, ap, reverse, arith}
use Rattle.pc_model.specs.Maps as map_of
use Rattle.pc_model.specs.Database.{database_of}
use Rattle.pc_model.specs.Files.{same_content}
use Rattle.pc_model.specs.Reads.{HasRightReads}
use Rattle.test_model.specs.Examples.{k, v5, v6}
use Rattle.test_model.specs.ExamplesOfRules.{LockRules, FileRules, KeyRules, LimitRules, RefusalRules, ReadRules, overtaken_read, own_write_missed}
use Rattle.test_model.proofs.Causes as causes

pub lock_rules : LockRules
lock_rules = record {
  covered = refl;
  covered_stays = refl;
  waiting_ones_count = refl;
  oldest_waits = refl;
  not_the_oldest_dies = refl;
  upgrade_beside_a_waiting_one = refl;
  upgrade_beside_a_granted_one = refl;
  upgraded_in_place = refl;
  granted_from_the_front = refl;
  none_is_overtaken = refl;
}

pub file_rules : FileRules
unfolding map_of.empty map_of.get map_of.insert map_of.remove
file_rules = record {
  two_values_conflict = refl;
  value_and_tombstone_conflict = refl;
  two_points_do_not = refl;
  the_same_does_not = refl;
  the_same_tombstone_does_not = refl;
  two_keys_do_not = refl;
  tombstone_joined = refl;
  tombstone_joined_first = refl;
  laid_above = refl;
  laid_below = refl;
  gap_is_the_first = refl;
  gap_above_the_base = refl;
  no_gap_above_the_base = refl;
  no_gap_below_the_base = refl;
}

pub key_rules : KeyRules
key_rules = record {
  key_of_one_byte = (omega (arith), omega (arith));
  key_of_no_byte = λ e. omega (arith, e.0);
  space_told = (refl, refl);
  same_bytes_in_two_spaces = refl;
  space_before_bytes = refl;
  shorter_first = refl;
}

pub limit_rules : LimitRules
limit_rules = record {
  space_bytes = refl;
  most_key_bytes = refl;
  most_value_bytes = refl;
  most_sessions = refl;
  most_keys = refl;
  most_transactions = refl;
  most_writes = refl;
  most_log_entries = refl;
  most_points = refl;
  most_files = refl;
  most_file_entries = refl;
  most_passes = refl;
  most_claims = refl;
  most_collapsers = refl;
  most_workers = refl;
  most_body_bytes_first = refl;
  most_body_bytes_second = refl;
}

pub refusal_rules : RefusalRules
unfolding map_of.empty map_of.get map_of.insert map_of.remove
refusal_rules = record {
  key_257_is_too_many = refl;
  key_256_is_not = refl;
  written_key_is_not = refl;
  too_many_before_full = causes.too_many_before_full;
  no_point_65536 = refl;
  point_65535 = refl;
  join_of_no_file = refl;
  other_run_before_conflict = refl;
  conflict_refused = refl;
}

two_values : Some v5 ≡ Some v6 → ⊥
two_values e = let other : true ≡ false = ap (same_content (Some v5)) e in cc

overtaken : ¬ HasRightReads (database_of ((k, v5) ∷ [])) (reverse overtaken_read)
unfolding map_of.empty map_of.get map_of.insert map_of.remove
overtaken right = two_values (right.0.0 refl)

missed : ¬ HasRightReads (database_of ((k, v5) ∷ [])) (reverse own_write_missed)
unfolding map_of.empty map_of.get map_of.insert map_of.remove
missed right = two_values (right.0.0 refl)

pub read_rules : ReadRules
unfolding map_of.empty map_of.get map_of.insert map_of.remove
read_rules = record {
  overtaken_read_is_wrong = overtaken;
  own_write_missed_is_wrong = missed;
  own_write_read_is_right = ((λ _. refl, tt), (tt, (tt, (tt, tt))));
  wait_and_read_is_right = ((λ _. refl, tt), (tt, (tt, (tt, (tt, (tt, (tt, (tt, tt))))))));
  only_commits_count = (tt, (tt, (tt, (tt, (tt, (tt, (tt, tt)))))));
}
