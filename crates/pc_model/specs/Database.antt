-- Databases, and what writes do to them.
use Rattle.std.specs.Prelude.{ℕ, Bool, IsTrue, List, [], ◌∷◌, Option, Some, None, if◌then◌else◌}
use Rattle.std.specs.declared.cmp.Ordering.{Ordering}
use Rattle.std.specs.Ordering.{nat_cmp, eq_by_cmp}
use Rattle.std.specs.Cmp.Lexicographic.{slice_cmp, nat_list_cmp_total}
use Rattle.std.specs.FinMap.{slice_cmp-IsAntisymmetric, nat_cmp-IsAntisymmetric, is_sorted}
use Rattle.pc_model.specs.Maps.{Order, Map, get, insert, remove, code, from_list}
use Rattle.std.specs.Coded.{Coded, coded_list, coded_ℕ}
use Rattle.pc_types.specs.declared.Change.{Change}
use Rattle.pc_types.specs.declared.Write.{Write}
use Rattle.pc_types.specs.Changes.{changed_content, merged}

-- the order of keys, byte by byte: by their two bytes of a space first, and then by their own bytes
abbrev pub key_cmp : List ℕ → List ℕ → Ordering
key_cmp = slice_cmp nat_cmp

-- the same with its laws
abbrev pub key_order : Order (List ℕ)
key_order = record { cmp = key_cmp; total = nat_list_cmp_total; exact = slice_cmp-IsAntisymmetric nat_cmp-IsAntisymmetric }

-- two texts have the same bytes
abbrev pub same_bytes : List ℕ → List ℕ → Bool
same_bytes k l = eq_by_cmp key_cmp k l

-- a database: finitely many keys, each with a value
abbrev pub Database : Type 0
Database = Map key_order (List ℕ)

-- the keys of the entries strictly ascend
abbrev pub KeysRise : {X : Type 0} → List (List ℕ × X) → Type 0
KeysRise entries = IsTrue (is_sorted key_cmp entries)

-- the database of these pairs
abbrev pub database_of : List (List ℕ × List ℕ) → Database
database_of pairs = from_list pairs

-- the database with the key set to the value, or removed
abbrev pub put : Database → List ℕ → Option (List ℕ) → Database
put db key None = remove db key
put db key (Some value) = insert db key value

-- the database after one write
abbrev pub applied : Database → Write → Database
applied db write = put db write.key (changed_content write.change (get db write.key))

-- after the writes, in order
abbrev pub applied_all : Database → List Write → Database
applied_all db [] = db
applied_all db (write ∷ writes) = applied_all (applied db write) writes

-- a write of this change
abbrev pub write_of : List ℕ → Change → Write
write_of key change = record { key = key; change = change }

-- the writes with one more: merged with the earlier write of its key, or else at the end
abbrev pub with_write : List Write → Write → List Write
with_write [] write = write ∷ []
with_write (w ∷ ws) write = if same_bytes w.key write.key then write_of w.key (merged w.change write.change) ∷ ws else w ∷ with_write ws write

-- what the writes do to the key, if anything
abbrev pub written : List Write → List ℕ → Option Change
written [] key = None
written (w ∷ ws) key = if same_bytes w.key key then Some w.change else written ws key

-- what a transaction sees of a key: what its own change, if it has one, makes of what the database has
abbrev pub seen : Option Change → Option (List ℕ) → Option (List ℕ)
seen None there = there
seen (Some own) there = changed_content own there

-- a database is stored as its pairs
abbrev pub database_code : Coded Database
database_code = code (coded_list coded_ℕ) (coded_list coded_ℕ)
