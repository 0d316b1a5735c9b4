-- The bytes that are shown, and what is copied of them.
use Rattle.std.specs.Prelude.{ℕ, List, [], ◌++◌, take, drop, length}
use Rattle.pc_wire.specs.Answers.{key_of_reply, value_of_reply}
use Rattle.pc_wire.specs.declared.shown.Shown.{Shown}
use Rattle.pc_wire.specs.declared.shown.Shown.TheVariants.{Reply, Text}

-- the bytes of the key that is shown
abbrev pub key_shown : Shown → List ℕ
key_shown (Reply reply) = key_of_reply reply
key_shown (Text text) = []

-- the bytes of the value or of the text that is shown
abbrev pub value_shown : Shown → List ℕ
value_shown (Reply reply) = value_of_reply reply
value_shown (Text text) = text

-- a room into which as many of the bytes were copied as it has place for
abbrev pub filled : List ℕ → List ℕ → List ℕ
filled bytes room = take (length room) bytes ++ drop (length bytes) room
