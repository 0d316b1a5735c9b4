-- The headers of part files, in their readers.
use Rattle.std.proofs.Common.{◌≡◌, ◌⊎◌, ℕ, List, [], ◌∷◌, length, map, suc, Option, Some, inl, inr, refl, sym, ap, subst, ◌∙◌}
use Rattle.std.specs.Vec.{with_items}
use Rattle.std.specs.declared.alloc.Global.{Global}
use Rattle.std.specs.declared.vec.Vec.{Vec}
use Rattle.std.proofs.lemmas.List.{nil_from_length, with_items_is}
use Rattle.pc_types.specs.declared.Refusal.{Refusal}
use Rattle.pc_types.specs.declared.Refusal.TheVariants.{OutOfMemory}
use Rattle.pc_part.specs.declared.ranges.Range.{Range}
use Rattle.pc_streams.specs.declared.reader.PartReader.{PartReader}
use Rattle.pc_streams.specs.Coming.{part_coming, part_header}
use Rattle.pc_streams.specs.Readers.{coming_of, header_of}
use Rattle.pc_stream_join.specs.Headers.{AreHeaded, HaveTwoRuns, IsHeadersFault, IsHeadersRefusal, StayKnown}
use Rattle.pc_stream_join.proofs.AgreeLaws.{comings_stay, headers_stay, one_header, stay_known}
use Rattle.pc_texts.specs.declared.files.NamedFile.{NamedFile}
use Rattle.pc_texts.specs.Files.{AreOpened}
use Rattle.pc_collapse_files.specs.Collapses.{HaveHeader, HaveNoHeader, IsHeadRefusal}
use Rattle.pc_collapse_files.specs.Inputs.{AreReadersOf}

module _ {R : Type 0} (remaining : R → Option (List ℕ)) where
  stay_many : (was now : List (PartReader R)) → StayKnown remaining was now → length now ≡ length was
  stay_many [] [] stay = refl
  stay_many [] (n ∷ now) stay = absurd stay
  stay_many (w ∷ was) [] stay = absurd stay
  stay_many (w ∷ was) (n ∷ now) stay = ap suc (stay_many was now stay.2)

  -- a vector of them has them in their current state
  pub now_in : (v : Vec (PartReader R) Global) (now : List (PartReader R)) → StayKnown remaining v.items now → (with_items v now).items ≡ now
  now_in v now stay = with_items_is v now (stay_many v.items now stay ∙ sym v.ok.0)

  -- the readers of the files still are, once their headers are read
  pub still_readers : (files : List (NamedFile R)) (was now : List (PartReader R)) → StayKnown remaining was now → AreReadersOf remaining files was → AreReadersOf remaining files now
  still_readers files was now stay are texts hold = (stay_known (header_of remaining) part_header was now texts (headers_stay remaining was now stay) (are texts hold).0, stay_known (coming_of remaining) part_coming was now texts (comings_stay remaining was now stay) (are texts hold).1)

module _ {R : Type 0} (remaining : R → Option (List ℕ)) where
  -- a refusal of the readers of files, in a vector in their current state, is one of the files
  pub head_refusal : (files : List (NamedFile R)) (v : Vec (PartReader R) Global) (now : List (PartReader R)) (why : Refusal) → length v.items ≡ length files → length now ≡ length v.items → IsHeadersRefusal remaining v.items now why
      → IsHeadRefusal remaining files (with_items v now).items why
  head_refusal files v now why many same (inl (is, none)) = inl (is, nil_from_length files (sym many ∙ ap length none))
  head_refusal files v now why many same (inr (inl (is, two))) = inr (inl (is, subst (HaveTwoRuns remaining) (sym (with_items_is v now (same ∙ sym v.ok.0))) two))
  head_refusal files v now why many same (inr (inr read)) = inr (inr read)

-- ---- the header of all

map_some : {A B : Type 0} (f : A → B) (xs : List A) → map (λ x. Some (f x)) xs ≡ map Some (map f xs)
map_some f [] = refl
map_some f (x ∷ xs) = ap (λ ys. Some (f x) ∷ ys) (map_some f xs)

module _ {R : Type 0} (remaining : R → Option (List ℕ)) (files : List (NamedFile R)) (readers : List (PartReader R)) (opened : AreOpened files) (are : AreReadersOf remaining files readers) where
  -- files whose readers have a header together have one
  pub have_header : (run : ℕ) (ranges : List Range) → AreHeaded remaining run ranges readers → HaveHeader remaining files
  have_header run ranges headed = (opened, λ texts hold. one_header remaining run ranges readers headed (map part_header texts) ((are texts hold).0 ∙ map_some part_header texts))

  -- and if these have none, nor have they
  pub head_fault : (why : Refusal) → IsHeadersFault (map (header_of remaining) readers) why → (why ≡ OutOfMemory) ⊎ HaveNoHeader remaining files why
  head_fault why (inl memory) = inl memory
  head_fault why (inr (inl device)) = inr (opened, inr (inl device))
  head_fault why (inr (inr told)) = inr (opened, inr (inr (λ texts hold. told (map part_header texts) ((are texts hold).0 ∙ map_some part_header texts))))
