-- What the audit reads off the log, and how it lays files.
use Rattle.std.proofs.Common.{◌≡◌, ℕ, suc, ◌+◌, ◌-◌, ◌≤◌, List, [], ◌∷◌, length, take, drop, sym, ap, ◌∙◌, Bool, true, false, arith, All, ◌↔◌, get_or}
use Rattle.std.specs.Prelude.{if◌then◌else◌, nat_lt}
use Rattle.std.proofs.lemmas.Bool.Decides.{nat_tests}
use Rattle.std.proofs.lemmas.List.{length-take-le}
use Rattle.std.proofs.Math.Seq.{take-add}
use Rattle.pc_types.specs.declared.Entry.{Entry}
use Rattle.pc_types.specs.declared.Entry.TheVariants.{Commit, Token}
use Rattle.pc_types.specs.declared.Triple.{Triple}
use Rattle.pc_model.specs.Database.{Database, KeysRise}
use Rattle.pc_model.specs.Log.{after, front, has_token, is_token_of}
use Rattle.pc_model.specs.Points.{laid}
use Rattle.pc_model.specs.TripleLists.{map_entries}
use Rattle.pc_replay.specs.Laying.{laid_in_turn}
use Rattle.pc_replay.specs.Audits.{triples_from, TriplesRise, IsRight, IsRightInTurn}
use Rattle.pc_replay.specs.declared.audits.CompleteFile.{CompleteFile}
use Rattle.pc_model.proofs.PairMapLaws as pairs
use Rattle.pc_model.proofs.LogLaws.{after-append}
use Rattle.pc_replay.proofs.LaidInTurn.{laid_in_turn_is}

-- a log has the token if its front is shorter
pub token_by_length : (n : ℕ) (log : List Entry) → has_token n log ≡ nat_lt (length (front n log)) (length log)
token_by_length n [] = grind (arith, nat_tests)
token_by_length n (Commit s ws ∷ log) = token_by_length n log ∙ one_more (length (front n log)) (length log)
  where
    one_more : (a b : ℕ) → nat_lt a b ≡ nat_lt (suc a) (suc b)
    one_more a b = grind (arith, nat_tests)
token_by_length n (Token phase m ∷ log) = by_token (is_token_of n phase m) (token_by_length n log)
  where
    by_token : (b : Bool) → has_token n log ≡ nat_lt (length (front n log)) (length log) →
        (if b then true else has_token n log) ≡ nat_lt (length (if b then [] else Token phase m ∷ front n log)) (length (Token phase m ∷ log))
    by_token true later = above (length log)
      where
        above : (k : ℕ) → true ≡ nat_lt 0 (suc k)
        above k = grind (arith, nat_tests)
    by_token false later = later ∙ one_more (length (front n log)) (length log)
      where
        one_more : (a b : ℕ) → nat_lt a b ≡ nat_lt (suc a) (suc b)
        one_more a b = grind (arith, nat_tests)

module _ (n : ℕ) (log : List Entry) (place : ℕ) (within : place ≤ length log) (is : take place log ≡ front n log) where
  token_at : has_token n log ≡ nat_lt place (length log)
  token_at = token_by_length n log ∙ ap (λ (l : List Entry). nat_lt (length l) (length log)) (sym is) ∙ ap (λ k. nat_lt k (length log)) (length-take-le place log within)

  pub no_token : place ≡ length log → false ≡ has_token n log
  no_token end = let past : nat_lt place (length log) ≡ false = grind (arith, nat_tests) in sym past ∙ sym token_at

  pub own_token : ¬ (place ≡ length log) → true ≡ has_token n log
  own_token before = let below : nat_lt place (length log) ≡ true = grind (arith, nat_tests) in sym below ∙ sym token_at

-- replay up to an entry, and on from there to a later one
pub after_more : (db : Database) (log : List Entry) (at to : ℕ) → at ≤ to → after (after db (take at log)) (take (to - at) (drop at log)) ≡ after db (take to log)
after_more db log at to low = sym (after-append db (take at log) (take (to - at) (drop at log))) ∙ ap (after db) (sym (take-add at (to - at) log) ∙ ap (λ n. take n log) together)
  where
    together : at + (to - at) ≡ to
    together = omega arith

-- triples that ascend by key, laid in turn, are laid
pub laid_list : (db : Database) (triples : List Triple) → KeysRise (map_entries triples) → laid_in_turn db 0 triples ≡ laid db 0 (triples_from triples)
laid_list db triples rise = laid_in_turn_is db 0 triples (triples_from triples) (pairs.entries_of (map_entries triples) rise)

-- files whose triples ascend are correct if and only if they are correct in turn
pub all_in_turn : (base : Database) (log : List Entry) (files : List CompleteFile) → All TriplesRise files → All (IsRightInTurn base log) files ↔ All (IsRight base log) files
all_in_turn base log files rise = (
  λ all k d below. let right = all k d below in
      record { has_point = right.has_point; is_the_state = sym (laid_list base (get_or files k d).triples.items (rise k d below)) ∙ right.is_the_state },
  λ all k d below. let right = all k d below in
      record { has_point = right.has_point; is_the_state = laid_list base (get_or files k d).triples.items (rise k d below) ∙ right.is_the_state },
)
