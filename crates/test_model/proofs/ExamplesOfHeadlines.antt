-- The headline: if a Take carries another content than its key has at the point, the file doesn't give the state.
use Rattle.std.proofs.Common.{[], ◌∷◌, reverse, take, refl, ap, Some, inl, arith}
use mathlib.Core.Bool.{false≢true}
use Rattle.pc_model.specs.Maps as map_of
use Rattle.pc_model.specs.Database.{Database}
use Rattle.pc_model.specs.Sets as set
use Rattle.pc_model.specs.Files.{File, same_content, triples_taken}
use Rattle.pc_model.specs.Replies.{IsLegalHistory}
use Rattle.pc_model.specs.Headline.{TakesPointValue, HasHeadline}
use Rattle.pc_model.specs.Headline.IsMade.{Shelved}
use Rattle.test_model.specs.Examples.{plain, a, v1, v2}
use Rattle.test_model.specs.ExamplesOfPoints.{commit_after_the_point}
use Rattle.test_model.specs.ExamplesOfHeadlines.{another_value_is_taken, ExamplesOfHeadlines}
use Rattle.pc_model.proofs.Ample.{legal_run}
use Rattle.pc_model.proofs.LegalEffectLaws.{legal_has_legal_effects}
use Rattle.pc_model.proofs.ShelfFileLaws.{headline}

right_values : TakesPointValue plain.base (reverse commit_after_the_point)
unfolding map_of.empty map_of.get map_of.insert map_of.remove
right_values = (tt, (tt, (tt, (tt, (refl, (refl, (tt, (tt, (tt, (tt, (tt, (tt, (tt, (tt, (tt, (tt, (tt, (tt, tt))))))))))))))))))

right_legal : IsLegalHistory plain (reverse commit_after_the_point)
unfolding map_of.empty map_of.get map_of.insert map_of.remove
right_legal = legal_run plain commit_after_the_point refl

another_value_is_legal : IsLegalHistory plain (reverse another_value_is_taken)
unfolding map_of.empty map_of.get map_of.insert map_of.remove
another_value_is_legal = (inl refl, (inl (Some v2, refl), legal_run plain (take 6 another_value_is_taken) refl))

another_value : ¬ TakesPointValue plain.base (reverse another_value_is_taken)
unfolding map_of.empty map_of.get map_of.insert map_of.remove
another_value values = false≢true (ap (same_content (Some v1)) values.1.0)

-- the file that holds the other value
abbrev other_file : File
other_file = record { run = 1; points = set.insert set.empty 1; triples = triples_taken 1 ((a, Some v2) ∷ []) }

no_headline : ¬ HasHeadline plain (reverse another_value_is_taken)
unfolding map_of.empty map_of.get map_of.insert map_of.remove
no_headline h = false≢true (ap (λ (db : Database). same_content (Some v1) (map_of.get db a)) (h.is_the_state other_file 1 (Shelved other_file (0, omega arith, refl)) refl))

pub examples_of_headlines : ExamplesOfHeadlines
examples_of_headlines = record {
  right_values = right_values;
  right_headline = headline plain (reverse commit_after_the_point) (legal_has_legal_effects plain (reverse commit_after_the_point) right_legal) right_values;
  another_value_is_legal = another_value_is_legal;
  another_value = another_value;
  no_headline = no_headline;
}
