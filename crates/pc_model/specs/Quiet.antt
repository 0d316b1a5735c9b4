-- Quiet histories: no transaction is open during a checkpoint.
use Rattle.std.specs.Prelude.{◌&&◌, ◌||◌, not, Bool, true, [], ◌∷◌, IsTrue}
use Rattle.pc_types.specs.declared.Phase.TheVariants as phase
use Rattle.pc_model.specs.History.{History}
use Rattle.pc_model.specs.Replies.{Setting, is_in_phase}
use Rattle.pc_model.specs.LegalEffects.{some_active}

-- a quiet run: outside rest, so from each successful StartPoint to the next successful Rest, no transaction was ever active
abbrev pub is_quiet : Setting → History → Bool
is_quiet st [] = true
is_quiet st (step ∷ history) = (is_in_phase phase.Rest (step ∷ history) || not (some_active st (step ∷ history))) && is_quiet st history

-- the run is quiet
abbrev pub IsQuiet : Setting → History → Type 0
IsQuiet st history = IsTrue (is_quiet st history)
