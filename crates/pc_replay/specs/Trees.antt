-- Databases as trees of keys.
use Rattle.std.specs.Prelude.{Bool, Some}
use Rattle.std.specs.List.{list_all}
use Rattle.pc_model.specs.Maps.{get}
use Rattle.pc_model.specs.Database.{Database}
use Rattle.pc_model.specs.Files.{same_content}

-- each pair of the first database is in the second
abbrev pub has_all : Database → Database → Bool
has_all m n = list_all (λ e. same_content (Some e.1) (get n e.0)) m.entries
