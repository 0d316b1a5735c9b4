-- Writes of keys that are all different, as those of one transaction are.
use Rattle.std.specs.Prelude.{◌≡◌, ⊤, false, is_some, List, [], ◌∷◌}
use Rattle.pc_types.specs.declared.Write.{Write}
use Rattle.pc_model.specs.Database.{written}

-- no two of the writes have one key
abbrev pub AreDistinct : List Write → Type 0
AreDistinct [] = ⊤
AreDistinct (w ∷ ws) = (is_some (written ws w.key) ≡ false) × AreDistinct ws
