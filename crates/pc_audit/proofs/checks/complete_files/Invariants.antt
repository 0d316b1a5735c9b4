use Rattle.std.proofs.Common.{◌↔◌, take, All, List}
use Rattle.pc_types.specs.declared.Entry.{Entry}
use Rattle.pc_model.specs.Database.{Database}
use Rattle.pc_replay.specs.Audits.{IsRight, TriplesRise}
use Rattle.pc_audit.specs.Checks.{IsFileRight}
use Rattle.pc_audit.proofs.checks.complete_files.Given as goal

-- the copies so far are correct if and only if the first files are
abbrev pub invariant-loop-file : goal.invariant-loop-file
invariant-loop-file l =
    All TriplesRise l.complete.items × ((base : Database) (log : List Entry) → All (IsRight base log) l.complete.items ↔ All (IsFileRight base log) (take l.file-index l.files))
