-- What a run's whole log gives.
use Rattle.std.specs.Prelude.{◌≡◌, ℕ, ◌<◌, ◌≤◌, ◌^◌, List, [], Some, None, Ok, if◌then◌else◌}
use Rattle.pc_types.specs.declared.Entry.{Entry}
use Rattle.pc_model.specs.Database.{Database}
use Rattle.pc_model.specs.Log.{has_token, state_at}
use Rattle.pc_bases.specs.Reading.{base_at}
use Rattle.pc_log.specs.Laws.{IsLog}
use Rattle.pc_log.specs.Texts.{IsLogText}
use Rattle.pc_points.specs.Points.{point_state}

-- from the base that a run started from and a text of its whole log, without any part: the state of each point whose token it has
abbrev pub LogsGiveStates : Type 0
LogsGiveStates =
    (run : ℕ) (start : Database) (log : List Entry) (n : ℕ) (base text : List ℕ) → run < 2 ^ 64 → IsLog log → base_at base ≡ Ok (record { run = run; point = 0; pairs = start }) → IsLogText text run log → 1 ≤ n →
    point_state n base [] text ≡ Ok (if has_token n log then Some (state_at start log n) else None)
