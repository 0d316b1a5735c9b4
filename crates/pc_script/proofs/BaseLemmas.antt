-- The size of a base.
use Rattle.std.proofs.Common.{◌≡◌, ℕ, ◌+◌, ◌≤◌, ◌&&◌, false, not, cond, List, length, Option, Some, None, is_some, arith}
use Rattle.std.specs.Prelude.{nat_lt, is_none}
use Rattle.std.specs.FinMap.{find}
use Rattle.std.specs.FinMap.Entries.{length-put}
use Rattle.std.proofs.lemmas.Bool.Decides.{nat_tests}
use Rattle.pc_model.specs.Maps.{get, insert, len}
use Rattle.pc_model.specs.Database.{Database, key_cmp, key_order}
use Rattle.pc_script.specs.Scripts.{is_base_full}

size_after : (found : Option (List ℕ)) (n capacity : ℕ) → n ≤ capacity → (is_none found && not (nat_lt n capacity)) ≡ false → cond (is_some found) n (n + 1) ≤ capacity
size_after None n capacity fits room = grind (arith, nat_tests)
size_after (Some v) n capacity fits room = fits

-- a base that isn't full has room for the pair
pub room_after : (base : Database) (key value : List ℕ) (capacity : ℕ) → len base ≤ capacity → is_base_full capacity base key ≡ false → len (insert base key value) ≤ capacity
unfolding get insert
room_after base key value capacity fits room =
    rw (length-put key_cmp key_order.total key value base.entries base.rises) (size_after (find key_cmp key base.entries) (length base.entries) capacity fits room)
