-- A key and its head.
use Rattle.std.specs.Prelude.{◌≡◌, ℕ, List}
use Rattle.pc_types.specs.Bytes.{IsBytes}
use Rattle.pc_types.specs.Heads.{head}

-- the number is the head of the key, whose bytes are bytes
pub record IsHeadOf (number : ℕ) (key : List ℕ) : Type 0 where
  pub is : number ≡ head key
  pub bytes : IsBytes key
