-- The parts dealt in a round, and those that come back.
use Rattle.std.specs.Prelude.{ℕ, ◌<◌, List, [], ◌∷◌, ◌++◌, length, map, slice_index_or, Result, MatchResult, ⊤}
use Rattle.std.specs.declared.vec.Vec.{Vec}
use Rattle.std.specs.declared.alloc.Global.{Global}
use Rattle.std.specs.Option.{option_to_list}
use Rattle.pc_types.specs.declared.Refusal.{Refusal}
use Rattle.pc_model.specs.Files.{File}
use Rattle.pc_collapse.specs.Worth.{AreWorth, IsCauseFor}
use Rattle.pc_collapse.specs.declared.rounds.Dealt.{Dealt}
use Rattle.pc_collapse.specs.declared.rounds.Neighbours.{Neighbours}

-- two neighbours, or an odd last file
abbrev pub neighbour_files : {G : Type 0} → Neighbours G → List File
neighbour_files pair = pair.first ∷ option_to_list pair.second

-- the files of several lists, one list after the other
abbrev pub together : List (List File) → List File
together [] = []
together (files ∷ lists) = files ++ together lists

-- what a collapser was dealt
abbrev pub hand_files : {G : Type 0} → Dealt G → List File
hand_files hand = together (map neighbour_files hand.pairs.items)

-- what all collapsers were dealt
abbrev pub dealt_files : {G : Type 0} → List (Dealt G) → List File
dealt_files hands = together (map hand_files hands)

-- the files become others that represent them, or there is a cause why not
abbrev pub Become : List File → Result (Vec File Global) Refusal → Type 0
Become files result = MatchResult result (λ left. AreWorth files left.items) (IsCauseFor files)

-- the same of what each collapser was dealt, with what it gives back
abbrev pub EachBecomes : {G : Type 0} → List (Dealt G) → List (Result (Vec File Global) Refusal) → Type 0
EachBecomes {G} hands results = (i : ℕ) (hand : Dealt G) (result : Result (Vec File Global) Refusal) → i < length hands → Become (hand_files (slice_index_or hands i hand)) (slice_index_or results i result)

-- the same of each list, with what it became
abbrev pub AllBecome : List (List File) → List (Result (Vec File Global) Refusal) → Type 0
AllBecome [] [] = ⊤
AllBecome (files ∷ lists) (result ∷ results) = Become files result × AllBecome lists results
AllBecome other rest = ⊥
