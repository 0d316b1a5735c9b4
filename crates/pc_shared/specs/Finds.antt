-- The value that a session's latest call found.
use Rattle.std.specs.Prelude.{ℕ, List, [], ◌∷◌, Option, Some, None}
use Rattle.pc_types.specs.declared.Reply.{Reply}
use Rattle.pc_types.specs.declared.Reply.TheVariants as told
use Rattle.pc_model.specs.History.{History}

-- the value that was found, if one was
abbrev pub value_found : Reply → Option (List ℕ)
value_found (told.Found value) = Some value
value_found other = None

-- the value that the newest step found
abbrev pub found_in : History → Option (List ℕ)
found_in [] = None
found_in (step ∷ earlier) = value_found step.reply
