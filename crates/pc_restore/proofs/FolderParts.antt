-- Reading a folder's parts in order.
use Rattle.std.proofs.Common.{◌≡◌, ℕ, List, [], ◌∷◌, ◌++◌, Option, refl, sym, ap, subst, ◌∙◌, append_assoc}
use Rattle.std.specs.Prelude.{map, IsOk}
use Rattle.std.proofs.lemmas.List.{append-nil}
use Rattle.std.proofs.lemmas.List.Elements.{All-nil, All-push}
use Rattle.pc_texts.specs.declared.files.NamedFile.{NamedFile}
use Rattle.pc_restore.specs.declared.reading.PartBytes.{PartBytes}
use Rattle.pc_restore.specs.declared.recovery.Lost.{Lost}
use Rattle.pc_restore.specs.declared.recovery.Lost.TheVariants.{Part}
use Rattle.pc_texts.specs.Files.{IsUnread, HoldsBytes, AreOpened}
use Rattle.pc_texts.specs.declared.files.Unread.{Unread}
use Rattle.pc_restore.specs.Recoveries.{HoldEach, IsEachLost, names_of, bytes_of}

-- the bytes of all files are those that were read and those of the files that are left
abbrev pub HoldTheRest : {R : Type 0} → (R → Option (List ℕ)) → List (NamedFile R) → List (NamedFile R) → List PartBytes → Type 0
HoldTheRest remaining files left read =
    (names parts : List (List ℕ)) → HoldEach remaining files names parts →
    (ns : List (List ℕ)) × (ps : List (List ℕ)) × HoldEach remaining left ns ps × (names ≡ names_of read ++ ns) × (parts ≡ bytes_of read ++ ps)

-- the files left are the last ones, and those before them were opened
abbrev pub AreLeft : {R : Type 0} → List (NamedFile R) → List (NamedFile R) → Type 0
AreLeft {R} files left = (done : List (NamedFile R)) × (files ≡ done ++ left) × AreOpened done

module _ {R : Type 0} (remaining : R → Option (List ℕ)) (files : List (NamedFile R)) where
  -- at first all are left
  pub none_read : HoldTheRest remaining files files []
  none_read names parts hold = (names, parts, hold, refl, refl)

  -- one more was read
  pub one_more_read : (file : NamedFile R) (left : List (NamedFile R)) (read : List PartBytes) (part : PartBytes) → ((held : List ℕ) → HoldsBytes remaining file.opened held → (part.name.items ≡ file.name.items) × (part.bytes.items ≡ held))
      → HoldTheRest remaining files (file ∷ left) read → HoldTheRest remaining files left (read ++ part ∷ [])
  one_more_read file left read part is rest names parts hold =
      let so_far = rest names parts hold in
      by so_far.0 so_far.1 so_far.2 so_far.3 so_far.4
    where
      by : (ns ps : List (List ℕ)) → HoldEach remaining (file ∷ left) ns ps → names ≡ names_of read ++ ns → parts ≡ bytes_of read ++ ps
          → (ns' : List (List ℕ)) × (ps' : List (List ℕ)) × HoldEach remaining left ns' ps' × (names ≡ names_of (read ++ part ∷ []) ++ ns') × (parts ≡ bytes_of (read ++ part ∷ []) ++ ps')
      by [] ps none names_are parts_are = absurd none
      by (n ∷ ns) [] none names_are parts_are = absurd none
      by (n ∷ ns) (p ∷ ps) each names_are parts_are =
          let one = is p each.1 in
          (ns, ps, each.2, names_are ∙ ap (λ x. names_of read ++ x ∷ ns) (sym each.0 ∙ sym one.0) ∙ sym (pushed (λ q. q.name.items) read ns), parts_are ∙ ap (λ x. bytes_of read ++ x ∷ ps) (sym one.1) ∙ sym (pushed (λ q. q.bytes.items) read ps))
        where
          pushed : (f : PartBytes → List ℕ) (xs : List PartBytes) (more : List (List ℕ)) → map f (xs ++ part ∷ []) ++ more ≡ map f xs ++ f part ∷ more
          pushed f [] more = refl
          pushed f (x ∷ xs) more = ap (λ ys. f x ∷ ys) (pushed f xs more)

  -- once none is left all are read
  pub all_read : (read : List PartBytes) → HoldTheRest remaining files [] read → (names parts : List (List ℕ)) → HoldEach remaining files names parts → (names_of read ≡ names) × (bytes_of read ≡ parts)
  all_read read rest names parts hold = let so_far = rest names parts hold in by so_far.0 so_far.1 so_far.2 so_far.3 so_far.4
    where
      by : (ns ps : List (List ℕ)) → HoldEach remaining [] ns ps → names ≡ names_of read ++ ns → parts ≡ bytes_of read ++ ps → (names_of read ≡ names) × (bytes_of read ≡ parts)
      by [] [] none names_are parts_are = (sym (names_are ∙ append-nil (names_of read)), sym (parts_are ∙ append-nil (bytes_of read)))
      by [] (p ∷ ps) none names_are parts_are = absurd none
      by (n ∷ ns) ps none names_are parts_are = absurd none

-- at first none is done
pub all_left : {R : Type 0} (files left : List (NamedFile R)) → files ≡ left → AreLeft files left
all_left files left same = ([], same, All-nil (λ file. IsOk file.opened))

-- of the files left one less is left
pub one_less : {R : Type 0} (files left : List (NamedFile R)) (file : NamedFile R) → AreLeft files (file ∷ left) → IsOk file.opened → AreLeft files left
one_less files left file are opened = (are.0 ++ file ∷ [], are.1 ∙ sym (append_assoc are.0 (file ∷ []) left), All-push (λ file. IsOk file.opened) are.0 file are.2 opened)

-- once none is left all were opened
pub all_opened : {R : Type 0} (files left : List (NamedFile R)) → left ≡ [] → AreLeft files left → AreOpened files
all_opened files left none are = subst AreOpened (sym (are.1 ∙ ap (λ xs. are.0 ++ xs) none ∙ append-nil are.0)) are.2

-- the first one left that can't be read is the first of the files
pub part_lost : {R : Type 0} (files left : List (NamedFile R)) (file : NamedFile R) (why : Unread R) (lost : Lost R) → AreLeft files (file ∷ left) → lost ≡ Part file.name why → IsUnread file.opened why → IsEachLost files lost
part_lost files left file why lost are is fault = subst (IsEachLost files) (sym is) (are.0, file, left, are.1, are.2, refl, fault)
