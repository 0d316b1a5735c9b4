-- Part files as readers, in order.
use Rattle.std.proofs.Common.{◌≡◌, ℕ, ◌+◌, List, [], ◌∷◌, ◌++◌, length, length-append, map, Option, Some, Err, refl, sym, ap, subst, ◌∙◌, append_assoc}
use Rattle.std.specs.Prelude.{IsOk, option_map, Result}
use Rattle.std.proofs.lemmas.List.{append-nil, map-append}
use Rattle.std.proofs.lemmas.List.Elements.{All-nil, All-push}
use Rattle.pc_types.specs.declared.Refusal.{Refusal}
use Rattle.pc_part.specs.declared.ranges.Range.{Range}
use Rattle.pc_merge.specs.Coming.{Coming}
use Rattle.pc_streams.specs.declared.reader.PartReader.{PartReader}
use Rattle.pc_streams.specs.Coming.{part_coming, part_header}
use Rattle.pc_streams.specs.Readers.{coming_of, header_of}
use Rattle.pc_texts.specs.declared.files.NamedFile.{NamedFile}
use Rattle.pc_texts.specs.Files.{AreOpened}
use Rattle.pc_collapse_files.specs.declared.inputs.CollapseFault.{CollapseFault}
use Rattle.pc_collapse_files.specs.declared.inputs.CollapseFault.TheVariants as fault
use Rattle.pc_collapse_files.specs.Collapses.{HoldTexts}
use Rattle.pc_collapse_files.specs.Inputs.{AreReadersOf, IsHeadFault, IsReaderOf}

-- the header of a text, as it is known
abbrev pub known_header : List ℕ → Option (Result (ℕ × List Range) Refusal)
known_header text = Some (part_header text)

-- what is to come of it
abbrev pub known_coming : List ℕ → Option Coming
known_coming text = Some (part_coming text)

-- the files left are the last ones; those before them were opened, and these are their readers
abbrev pub AreLeft : {R : Type 0} → (R → Option (List ℕ)) → List (NamedFile R) → List (NamedFile R) → List (PartReader R) → Type 0
AreLeft {R} remaining files left readers = (done : List (NamedFile R)) × (files ≡ done ++ left) × AreOpened done × AreReadersOf remaining done readers × (length readers ≡ length done)

-- the reader of an opened file has the header and entries of its bytes
pub reader_is : {R : Type 0} (remaining : R → Option (List ℕ)) (reader : R) (header : Option (Result (ℕ × List Range) Refusal)) (coming : Option Coming) → header ≡ option_map part_header (remaining reader) → coming ≡ option_map part_coming (remaining reader)
    → (text : List ℕ) → remaining reader ≡ Some text → (header ≡ Some (part_header text)) × (coming ≡ Some (part_coming text))
reader_is remaining reader header coming h c text is = (h ∙ ap (option_map part_header) is, c ∙ ap (option_map part_coming) is)

module _ {R : Type 0} (remaining : R → Option (List ℕ)) where
  -- the texts of some files and more are those of the first and then those of the others
  hold_append : (done more : List (NamedFile R)) (texts : List (List ℕ)) → HoldTexts remaining (done ++ more) texts
      → (ts : List (List ℕ)) × (us : List (List ℕ)) × (texts ≡ ts ++ us) × HoldTexts remaining done ts × HoldTexts remaining more us
  hold_append [] more texts hold = ([], texts, refl, tt, hold)
  hold_append (file ∷ done) more [] hold = absurd hold
  hold_append (file ∷ done) more (t ∷ texts) hold =
      let rest = hold_append done more texts hold.1 in
      (t ∷ rest.0, rest.1, ap (λ xs. t ∷ xs) rest.2, (hold.0, rest.3), rest.4)

  -- no files have no readers
  none_read : AreReadersOf remaining [] []
  none_read [] hold = (refl, refl)
  none_read (t ∷ texts) hold = absurd hold

  -- one file
  one_read : (file : NamedFile R) (reader : PartReader R) → IsReaderOf remaining file reader → AreReadersOf remaining (file ∷ []) (reader ∷ [])
  one_read file reader is [] hold = absurd hold
  one_read file reader is (t ∷ []) hold = (ap (λ x. x ∷ []) (is t hold.0).0, ap (λ x. x ∷ []) (is t hold.0).1)
  one_read file reader is (t ∷ u ∷ texts) hold = absurd hold.1

  maps_append : {X : Type 0} (view : PartReader R → Option X) (known : List ℕ → Option X) (rs qs : List (PartReader R)) (ts us : List (List ℕ)) → map view rs ≡ map known ts → map view qs ≡ map known us → map view (rs ++ qs) ≡ map known (ts ++ us)
  maps_append view known rs qs ts us a b = map-append view rs qs ∙ ap (λ xs. xs ++ map view qs) a ∙ ap (λ xs. map known ts ++ xs) b ∙ sym (map-append known ts us)

  -- some files and then more
  read_append : (done more : List (NamedFile R)) (rs qs : List (PartReader R)) → AreReadersOf remaining done rs → AreReadersOf remaining more qs → AreReadersOf remaining (done ++ more) (rs ++ qs)
  read_append done more rs qs a b texts hold =
      let two = hold_append done more texts hold in
      let one = a two.0 two.3 in
      let other = b two.1 two.4 in (
        subst (λ ts. map (header_of remaining) (rs ++ qs) ≡ map known_header ts) (sym two.2) (maps_append (header_of remaining) known_header rs qs two.0 two.1 one.0 other.0),
        subst (λ ts. map (coming_of remaining) (rs ++ qs) ≡ map known_coming ts) (sym two.2) (maps_append (coming_of remaining) known_coming rs qs two.0 two.1 one.1 other.1),
      )

  module _ (files : List (NamedFile R)) where
    -- at first all are left
    pub all_left : (left : List (NamedFile R)) → files ≡ left → AreLeft remaining files left []
    all_left left same = ([], same, All-nil (λ file. IsOk file.opened), none_read, refl)

    -- of the files left one less is left
    pub one_less : (left : List (NamedFile R)) (file : NamedFile R) (readers : List (PartReader R)) (reader : PartReader R) → AreLeft remaining files (file ∷ left) readers → IsOk file.opened
        → IsReaderOf remaining file reader → AreLeft remaining files left (readers ++ reader ∷ [])
    one_less left file readers reader are opened read = (
      are.0 ++ file ∷ [],
      are.1 ∙ sym (append_assoc are.0 (file ∷ []) left),
      All-push (λ f. IsOk f.opened) are.0 file are.2 opened,
      read_append are.0 (file ∷ []) readers (reader ∷ []) are.3 (one_read file reader read),
      length-append readers (reader ∷ []) ∙ ap (λ (n : ℕ). n + 1) are.4 ∙ sym (length-append are.0 (file ∷ [])),
    )

    -- once none is left all were opened
    pub all_opened : (left : List (NamedFile R)) (readers : List (PartReader R)) → left ≡ [] → AreLeft remaining files left readers → AreOpened files
    all_opened left readers none are = subst AreOpened (sym (are.1 ∙ ap (λ xs. are.0 ++ xs) none ∙ append-nil are.0)) are.2

    -- and these are the readers of all
    pub all_read : (left : List (NamedFile R)) (readers : List (PartReader R)) → left ≡ [] → AreLeft remaining files left readers → AreReadersOf remaining files readers
    all_read left readers none are = subst (λ xs. AreReadersOf remaining xs readers) (sym (are.1 ∙ ap (λ xs. are.0 ++ xs) none ∙ append-nil are.0)) are.3

    -- as many
    pub all_many : (left : List (NamedFile R)) (readers : List (PartReader R)) → left ≡ [] → AreLeft remaining files left readers → length readers ≡ length files
    all_many left readers none are = are.4 ∙ ap length (sym (are.1 ∙ ap (λ xs. are.0 ++ xs) none ∙ append-nil are.0))

    -- the first one that is left can't be opened
    pub unopened : (left : List (NamedFile R)) (file : NamedFile R) (readers : List (PartReader R)) (f : CollapseFault) → AreLeft remaining files (file ∷ left) readers → (why : Refusal) × (f ≡ fault.Unopened file.name why) × (file.opened ≡ Err why)
        → IsHeadFault remaining files [] f
    unopened left file readers f are bad = subst (IsHeadFault remaining files []) (sym bad.1) (file, record { before = are.0; behind = left; split = are.1; opened = are.2; unopened = bad.2 }, refl)
