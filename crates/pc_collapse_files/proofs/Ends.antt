-- How a collapse ends.
use Rattle.std.proofs.Common.{◌≡◌, ◌⊎◌, inl, inr, ℕ, List, [], ◌++◌, Option, Some, None, Err, refl, ap, ◌∙◌}
use Rattle.std.specs.Prelude.{IfSome, IsSome}
use Rattle.std.specs.Io.KnownBytes.{Appends}
use Rattle.pc_types.specs.declared.refusal.Refusal.{Refusal}
use Rattle.pc_types.specs.declared.refusal.Refusal.TheVariants.{Short}
use Rattle.pc_io.specs.declared.tally.Tally.{Tally}
use Rattle.pc_model.specs.Files.{File}
use Rattle.pc_part.specs.Reading.{part_at}
use Rattle.pc_part.specs.Texts.{part_text}
use Rattle.pc_streams.specs.declared.reader.PartReader.{PartReader}
use Rattle.pc_stream_join.specs.Joining.{LeavesShort}
use Rattle.pc_texts.specs.declared.files.NamedFile.{NamedFile}
use Rattle.pc_collapse_files.specs.declared.inputs.CollapseFault.{CollapseFault}
use Rattle.pc_collapse_files.specs.declared.inputs.CollapseFault.TheVariants as fault
use Rattle.pc_collapse_files.specs.Collapses.{AreKnown, IsCollapseCause, IsJoinOf, IsLeftByCollapse, IsNamedOrNot, StaysAs}
use Rattle.pc_collapse_files.specs.Inputs.{IsHeadFault, IsUnwritten}

module _ {R : Type 0} (remaining : R → Option (List ℕ)) (files : List (NamedFile R)) where
  -- a reason why no file is made is a cause
  pub head_cause : (inputs : List (PartReader R)) (Refuses : Refusal → Type 0) (f : CollapseFault) → IsHeadFault remaining files inputs f → IsCollapseCause remaining files inputs Refuses f
  head_cause inputs Refuses (fault.Unopened name why) is = is
  head_cause inputs Refuses (fault.Refused why) is = is
  head_cause inputs Refuses (fault.Unmade why) is = absurd is
  head_cause inputs Refuses (fault.Unjoined why) is = absurd is
  head_cause inputs Refuses fault.Unwritten is = absurd is
  head_cause inputs Refuses (fault.Unnamed why) is = absurd is
  head_cause inputs Refuses fault.Output is = absurd is

  module _ {F : Type 0} (contents : F → Option (List ℕ)) where
    -- so is one why the join isn't written
    pub unwritten_cause : (inputs : List (PartReader R)) (Refuses : Refusal → Type 0) (made : Option (Tally F)) (f : CollapseFault) → IsUnwritten remaining contents files inputs Refuses made f → IsCollapseCause remaining files inputs Refuses f
    unwritten_cause inputs Refuses made (fault.Unopened name why) is = absurd is
    unwritten_cause inputs Refuses made (fault.Refused why) is = absurd is
    unwritten_cause inputs Refuses made (fault.Unmade why) is = (is.0, is.1)
    unwritten_cause inputs Refuses made (fault.Unjoined why) is = (is.0, is.1, is.2, is.3)
    unwritten_cause inputs Refuses made fault.Unwritten is = is.0
    unwritten_cause inputs Refuses made (fault.Unnamed why) is = absurd is
    unwritten_cause inputs Refuses made fault.Output is = absurd is

    -- a whole file that can't get its name leaves the earlier text, or has its name
    pub named_or_not : (before between after : List ℕ → Type 0) → StaysAs before between → (file : File) → IsJoinOf remaining files file
        → (held : Option (List ℕ)) → (AreKnown contents → held ≡ Some (part_text file)) → StaysAs between after ⊎ ((text : List ℕ) → held ≡ Some text → after text)
        → IsNamedOrNot remaining contents files before after
    named_or_not before between after first file join held whole (inl stays) = inl (λ text was. stays text (first text was))
    named_or_not before between after first file join held whole (inr named) = inr (file, join, λ known. named (part_text file) (whole known))

    module _ {W : Type 0} (printed : W → Option (List ℕ)) (before after : List ℕ → Type 0) (stays : StaysAs before after) (out : Tally W) where
      -- no file is left if none is made, and nothing is printed
      pub head_leaves : (inputs : List (PartReader R)) (f : CollapseFault) → IsHeadFault remaining files inputs f → IsLeftByCollapse remaining contents printed files f None before after out out
      head_leaves inputs (fault.Unopened name why) is = (refl, stays, refl)
      head_leaves inputs (fault.Refused why) is = (refl, stays, refl)
      head_leaves inputs (fault.Unmade why) is = absurd is
      head_leaves inputs (fault.Unjoined why) is = absurd is
      head_leaves inputs fault.Unwritten is = absurd is
      head_leaves inputs (fault.Unnamed why) is = absurd is
      head_leaves inputs fault.Output is = absurd is

      -- the state if the join isn't written
      pub unwritten_leaves : (inputs : List (PartReader R)) (Refuses : Refusal → Type 0) (made : Option (Tally F)) (f : CollapseFault) → IsUnwritten remaining contents files inputs Refuses made f → IsLeftByCollapse remaining contents printed files f made before after out out
      unwritten_leaves inputs Refuses made (fault.Unopened name why) is = absurd is
      unwritten_leaves inputs Refuses made (fault.Refused why) is = absurd is
      unwritten_leaves inputs Refuses made (fault.Unmade why) is = (is.2, stays, refl)
      unwritten_leaves inputs Refuses made (fault.Unjoined why) is = (is.4, stays, refl)
      unwritten_leaves inputs Refuses made fault.Unwritten is = (is.1, stays, refl)
      unwritten_leaves inputs Refuses made (fault.Unnamed why) is = absurd is
      unwritten_leaves inputs Refuses made fault.Output is = absurd is

-- a text that went out to a file without bytes is its whole text
pub whole_of : (a b : Option (List ℕ)) (text : List ℕ) → IsSome a → IsSome b → IfSome a (λ bytes. bytes ≡ []) → Appends a b text → b ≡ Some text
whole_of None b text known after empty out = absurd cc
whole_of (Some xs) None text known after empty out = absurd cc
whole_of (Some xs) (Some ys) text known after empty out = ap Some (out ∙ ap (λ zs. zs ++ text) empty)

-- a short text in it is its whole text
pub short_of : (a b : Option (List ℕ)) → IsSome a → IsSome b → IfSome a (λ bytes. bytes ≡ []) → LeavesShort a b → (bytes : List ℕ) × (b ≡ Some bytes) × (part_at bytes ≡ Err Short)
short_of None b known after empty left = absurd cc
short_of (Some xs) None known after empty left = absurd cc
short_of (Some xs) (Some ys) known after empty left = (left.0, ap Some (left.1 ∙ ap (λ zs. zs ++ left.0) empty), left.2)
