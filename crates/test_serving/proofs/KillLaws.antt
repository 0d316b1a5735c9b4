-- What a process has left that served, by how it ended.
use Rattle.std.proofs.Common.{◌≡◌, ◌⊎◌, inl, inr, ℕ, zero, suc, ◌==◌, Bool, true, false, cond, List, [], ◌∷◌, ◌++◌, length, take, drop, take_all, take-append-drop, append-nil, le_refl, Option, Some, None, Result, Ok, Err, refl, sym, ap, subst, ◌∙◌}
use Rattle.std.specs.Prelude.{MatchResult, if◌then◌else◌}
use Rattle.std.specs.Borrow.{Bor}
use Rattle.std.specs.declared.alloc.Global.{Global}
use Rattle.std.specs.Io.Buffered.{reader_buffer, reader_capacity, reader_inner, reader_remaining}
use Rattle.std.specs.Io.KnownBytes.{prepend_known}
use Rattle.std.specs.declared.io.buffered.BufReader.{BufReader}
use Rattle.pc_model.specs.Files.{File, file_at}
use Rattle.pc_model.specs.Replies.{Setting}
use Rattle.pc_turn.specs.Devices.{Grows}
use Rattle.pc_server.specs.Files.{HasAllFiles, HasOnlyFiles, WithFiles, WithSomeFiles}
use Rattle.pc_server.specs.Inputs.{ServesOn}
use Rattle.pc_server.specs.declared.serve.ServeFault.{ServeFault}
use Rattle.pc_server.specs.declared.serve.Stopped.{Stopped}
use Rattle.pc_server.specs.declared.serve.Stopped.TheVariants as stopped
use Rattle.pc_server.specs.declared.service.Service.{Service}

-- the first bytes of a text stay if it gets more
pub first_stay : (count : ℕ) (text more : List ℕ) → Grows (Some (take count text)) (Some (take count (text ++ more)))
first_stay zero text more = ([], refl)
first_stay (suc count) [] more = (take (suc count) more, refl)
first_stay (suc count) (x ∷ text) more = let (rest, is) = first_stay count text more in (rest, ap (λ (t : List ℕ). x ∷ t) is)

-- and are among all of it
pub all_grow : (count all : ℕ) (text : List ℕ) → all ≡ length text → Grows (Some (take count text)) (Some (take all text))
all_grow count all text is = (drop count text, ap (λ n. take n text) is ∙ (take_all (length text) text (le_refl (length text)) ∙ sym (take-append-drop count text)))

-- all of a text is kept of it
pub all_kept : (all : ℕ) (text : List ℕ) → all ≡ length text → Grows (Some text) (Some (take all text))
all_kept all text is = ([], ap (λ n. take n text) is ∙ (take_all (length text) text (le_refl (length text)) ∙ sym (append-nil text)))

-- a reader that was just made has all of its input
pub all_left : (reader : BufReader (Bor (List ℕ)) Global) (text : Bor (List ℕ)) → reader_inner reader ≡ text → reader_buffer reader ≡ [] → reader_capacity reader ≡ 16 → reader_remaining (λ (s : Bor (List ℕ)). Some s.now) reader ≡ Some text.now
all_left reader text inner empty capacity =
    ap (λ n. if n == 0 then None else prepend_known (reader_buffer reader) (Some reader.inner.now)) capacity
    ∙ (ap (λ (bytes : List ℕ). prepend_known bytes (Some reader.inner.now)) empty ∙ ap (λ (s : Bor (List ℕ)). Some s.now) inner)

-- no file of a point is there, or is to be
abbrev pub no_file : ℕ → List ℕ → Type 0
no_file point text = ⊥

-- a store has no file at first
pub none_at_first : HasAllFiles no_file []
none_at_first point file there = neither (point == 0) file there
  where
    neither : (b : Bool) (file : File) → cond b None None ≡ Some file → ⊥
    neither true file e = absurd (cc (e))
    neither false file e = absurd (cc (e))

-- a store is served from what its log and its output have at first
pub serves_from : {T U : Type 0} (written keeps : T → Option (List ℕ)) (contents : U → Option (List ℕ)) (st : Setting) (lag : ℕ) (log header out before text left : Option (List ℕ)) (service : Service T U)
    → log ≡ header → out ≡ before → left ≡ text → ServesOn written keeps contents log out text st lag text [] service → ServesOn written keeps contents header before text st lag left [] service
serves_from written keeps contents st lag log header out before text left service one two three serves =
    subst (λ l. ServesOn written keeps contents header before text st lag l [] service) (sym three)
    (subst (λ o. ServesOn written keeps contents header o text st lag text [] service) two
    (subst (λ l. ServesOn written keeps contents l out text st lag text [] service) one serves))

-- what follows of each way in which it may end follows
pub however_it_ends : (Stops : Stopped → List File → Type 0) (Ends : List File → Type 0) {Left : Type 0} (result : Result Stopped ServeFault)
    → MatchResult result (λ why. WithFiles no_file no_file (Stops why)) (λ fault. WithSomeFiles no_file no_file Ends)
    → ((why : Stopped) (files : List File) → Stops why files ⊎ Ends files → HasOnlyFiles no_file no_file files → Left) → Left
however_it_ends Stops Ends (Ok why) (files, stops, all, only) left = left why files (inl stops) only
however_it_ends Stops Ends (Err fault) (files, ends, only) left = left stopped.Ended files (inr ends) only
