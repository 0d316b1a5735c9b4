-- The first bytes of a key as one number.
use Rattle.std.specs.Prelude.{ℕ, zero, suc, ◌+◌, ◌*◌, ◌/◌, ◌^◌, List, [], ◌∷◌}
use Rattle.pc_types.specs.declared.limits.TheConstants.{SPACE_BYTES}
use Rattle.pc_types.specs.Keys.{own_bytes}

-- the number of that many digits of base 256 after n: the bytes, and after the last of them zeros
abbrev pub base_256_value : ℕ → ℕ → List ℕ → ℕ
base_256_value zero n bytes = n
base_256_value (suc k) n [] = base_256_value k (n * 256 + 0) []
base_256_value (suc k) n (b ∷ bytes) = base_256_value k (n * 256 + b) bytes

-- A number of 64 bits for a space and the first eight of a key's own bytes. In space 0 it is their first 63 bits; in another one
-- the highest bit is set, the space follows it, and their first 47 bits.
abbrev pub headed : ℕ → ℕ → ℕ
headed zero own = own / 2
headed (suc space) own = 2 ^ 63 + (suc space * 2 ^ 47 + own / 2 ^ 17)

-- the head of a key, as of one with zeros after it
abbrev pub head : List ℕ → ℕ
head key = headed (base_256_value SPACE_BYTES 0 key) (base_256_value 8 0 (own_bytes key))
