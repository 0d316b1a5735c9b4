-- Files of which no two conflict are joined in one pass to the same file as in order.
use Rattle.std.proofs.Common.{◌≡◌, ◌≤◌, nat_lt, eqb, not, ◌||◌, Bool, true, false, cond, List, [], ◌∷◌, Option, Some, None, Result, Ok, Err, refl, sym, ap, subst, ◌∙◌, arith}
use Rattle.std.specs.Prelude.{MatchBool, MatchResult}
use Rattle.std.specs.List.{Contains}
use Rattle.std.proofs.lemmas.Bool.Decides.{nat_tests}
use Rattle.std.proofs.lemmas.List.Elements.{Contains-append_right}
use Rattle.pc_types.specs.declared.refusal.Refusal.{Refusal}
use Rattle.pc_types.specs.declared.refusal.Refusal.TheVariants.{OtherRun, Conflict, Full}
use Rattle.pc_io.specs.Fields.{◌>>=◌}
use Rattle.pc_model.specs.Maps.{len}
use Rattle.pc_model.specs.Files.{File, joined_file, conflict}
use Rattle.pc_part.specs.Joins.{JoinsAssociate, JoinsMakeNoConflict}
use Rattle.pc_merge.specs.Folds.{folded, has_other_run, NoneConflict, IsFold, IsFoldCause, Folds}
use Rattle.pc_model.proofs.TripleCounts.{len_entries}
use Rattle.pc_recover.specs.Recovery.{ok_unless}
use Rattle.pc_recover.specs.Folding.{join_due, joined_on}

-- two files of one run without conflict are joined, if they are few enough
join_is : (a b : File) → eqb b.run a.run ≡ true → conflict a.triples b.triples ≡ false → len (joined_file a b).triples ≤ 4294967295 → join_due a b ≡ Ok (joined_file a b)
join_is a b run none within =
    let one : eqb a.run b.run ≡ true = grind (arith, nat_tests, run) in
    let fits : nat_lt 4294967295 (len (joined_file a b).triples) ≡ false = grind (arith, nat_tests, within) in
    ap (λ x. ok_unless (cond (not x) (Some OtherRun) (cond (conflict a.triples b.triples) (Some Conflict) (cond (nat_lt 4294967295 (len (joined_file a b).triples)) (Some Full) None))) (joined_file a b)) one
    ∙ ap (λ x. ok_unless (cond x (Some Conflict) (cond (nat_lt 4294967295 (len (joined_file a b).triples)) (Some Full) None)) (joined_file a b)) none
    ∙ ap (λ x. ok_unless (cond x (Some Full) None) (joined_file a b)) fits

-- a test of two fails if both do
both_false : (s t : Bool) → (not s || t) ≡ false → (s ≡ true) × (t ≡ false)
both_false true t e = (refl, e)
both_false false t e = cc

has_more : (f : File) (fs : List File) (g : File) → Contains fs g → Contains (f ∷ fs) g
has_more f fs g there = Contains-append_right (f ∷ []) fs g there

has_first : (f : File) (fs : List File) → Contains (f ∷ fs) f
has_first f fs = (0, omega arith, refl)

-- a join has no fewer keys than its first file
keeps_all : (f : File) (fs : List File) → len f.triples ≤ len (folded f fs).triples
keeps_all f [] = omega arith
keeps_all f (g ∷ fs) = len_entries f.triples (folded g fs).triples.entries

module _ (associates : JoinsAssociate) (spread : JoinsMakeNoConflict) where
  -- the first two may be joined first
  first_two : (f g : File) (fs : List File) → folded (joined_file f g) fs ≡ folded f (g ∷ fs)
  first_two f g [] = refl
  first_two f g (h ∷ fs) = associates f g (folded h fs)

  joined_well : (f : File) (fs : List File) → has_other_run f fs ≡ false → ((g : File) → Contains fs g → conflict f.triples g.triples ≡ false) → NoneConflict fs → len (folded f fs).triples ≤ 4294967295 →
      joined_on (Some f) fs ≡ Ok (Some (folded f fs))
  joined_well f [] one apart none within = refl
  joined_well f (g ∷ fs) one apart none within =
      let runs = both_false (eqb g.run f.run) (has_other_run f fs) one in
      let rest : len (folded (joined_file f g) fs).triples ≤ 4294967295 = subst (λ (h : File). len h.triples ≤ 4294967295) (sym (first_two f g fs)) within in
      let fewer = keeps_all (joined_file f g) fs in
      ap (λ r. r >>= λ both. joined_on (Some both) fs) (join_is f g runs.0 (apart g (has_first g fs)) (omega (arith, rest, fewer)))
      ∙ joined_well (joined_file f g) fs runs.1
      (λ h there. spread f g h (apart h (has_more g fs h there)) (none g h (has_first g fs) (has_more g fs h there)))
      (λ a b in_a in_b. none a b (has_more g fs a in_a) (has_more g fs b in_b)) rest
      ∙ ap (λ (h : File). done (Some h)) (first_two f g fs)
    where
      done : Option File → Result (Option File) Refusal
      done joined = Ok joined

  -- the fold of all gives the same as joining them in order
  pub at_once : (files : List File) (file : File) → (let r : Result File Refusal = Ok file in Folds files r) → NoneConflict files → len file.triples ≤ 4294967295 → joined_on None files ≡ Ok (Some file)
  at_once [] file folds none within = let bad = folds in cc
  at_once (f ∷ fs) file folds none within = by (has_other_run f fs) refl folds
    where
      of_fold : has_other_run f fs ≡ false → file ≡ folded f fs → joined_on None (f ∷ fs) ≡ Ok (Some file)
      of_fold one is =
          joined_well f fs one (λ g there. none f g (has_first f fs) (has_more f fs g there)) (λ a b in_a in_b. none a b (has_more f fs a in_a) (has_more f fs b in_b))
          (subst (λ (h : File). len h.triples ≤ 4294967295) is within)
          ∙ ap (λ (h : File). done (Some h)) (sym is)
        where
          done : Option File → Result (Option File) Refusal
          done joined = Ok joined

      answered : Result File Refusal
      answered = Ok file

      by : (t : Bool) → has_other_run f fs ≡ t → MatchBool t (answered ≡ Err OtherRun) (MatchResult answered (IsFold f fs) (IsFoldCause f fs)) → joined_on None (f ∷ fs) ≡ Ok (Some file)
      by true one given = let bad = given in cc
      by false one given = of_fold one given.is
