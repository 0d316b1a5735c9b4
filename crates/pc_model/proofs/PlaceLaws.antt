-- Where a put into ascending entries goes.
use Rattle.std.proofs.Common.{◌≡◌, ℕ, zero, suc, ◌+◌, ◌<◌, ◌≤◌, List, [], ◌∷◌, ◌++◌, length, take, drop, get_or, refl, sym, ap, ◌∙◌, arith, add-one, cond, Bool, true, false, is_some, Option, Some, None}
use Rattle.std.specs.Prelude.{IsTrue, insert}
use Rattle.std.specs.declared.cmp.Ordering.{Ordering}
use Rattle.std.specs.declared.cmp.Ordering.TheVariants.{Less, Equal, Greater}
use Rattle.std.specs.FinMap.{find, put, is_sorted}
use Rattle.std.specs.FinMap.Entries.{by_order, length-put, is_sorted-put}
use Rattle.std.specs.Ordering.{is_eq}
use Rattle.std.proofs.lemmas.List.{get_or_default, set_split, take_more}
use Rattle.std.proofs.lemmas.Grind.{common_steps}
use Rattle.pc_model.specs.Database.{key_cmp, key_order}
use Rattle.pc_model.proofs.PairMapLaws.{computes, tested}
use Rattle.pc_model.specs.Places.{IsAt, IsGap, IsBehind}

pub rest_at : {A : Type 0} (xs : List A) (i : ℕ) (x : A) → i < length xs → x ≡ get_or xs i x → drop i xs ≡ x ∷ drop (i + 1) xs
rest_at [] i x lt is = absurd (omega arith)
rest_at (y ∷ xs) zero x lt is = grind arith
rest_at (y ∷ xs) (suc i) x lt is = grind (arith, rest_at xs i x (omega arith) is)

-- a put that lengthens is of a new key
new_key : {X : Type 0} (entries : List (List ℕ × X)) (key : List ℕ) (e : List ℕ × X) → IsTrue (is_sorted key_cmp entries) → length (put key_cmp key e.1 entries) ≡ length entries + 1 → find key_cmp key entries ≡ None
new_key {X} entries key e sorted longer = none_of (find key_cmp key entries) (not_some (is_some (find key_cmp key entries)) (sym (length-put key_cmp key_order.total key e.1 entries (computes sorted)) ∙ longer))
  where
    not_some : (b : Bool) → cond b (length entries) (length entries + 1) ≡ length entries + 1 → b ≡ false
    not_some true h = absurd (omega (arith, h))
    not_some false h = refl

    none_of : {A : Type 0} (o : Option A) → is_some o ≡ false → o ≡ None
    none_of None h = refl
    none_of (Some x) h = cc

module _ {X : Type 0} (entries : List (List ℕ × X)) (key : List ℕ) (i : ℕ) (e : List ℕ × X) (lt : i < length entries) (is : e ≡ get_or entries i e) (behind : IsBehind entries key i) where
  at_put : (r : X) (o : Ordering) → key_cmp key e.0 ≡ o → put key_cmp key r entries ≡ take i entries ++ by_order o ((key, r) ∷ e ∷ drop (i + 1) entries) ((e.0, r) ∷ drop (i + 1) entries) (e ∷ put key_cmp key r (drop (i + 1) entries))
  at_put r o is_o = behind.puts r ∙ ap (λ rest. take i entries ++ put key_cmp key r rest) (rest_at entries i e lt is)
      ∙ ap (λ o. take i entries ++ by_order o ((key, r) ∷ e ∷ drop (i + 1) entries) ((e.0, r) ∷ drop (i + 1) entries) (e ∷ put key_cmp key r (drop (i + 1) entries))) is_o

  pub at_hit : key_cmp key e.0 ≡ Equal → IsAt entries key i
  at_hit eq = record {
    in_range = lt;
    finds = λ old. behind.finds ∙ ap (λ rest. find key_cmp key rest) (rest_at entries i e lt is) ∙ ap (λ o. cond (is_eq o) (Some e.1) (find key_cmp key (drop (i + 1) entries))) eq ∙ ap (λ (s : List ℕ × X). Some s.1) (is ∙ sym (get_or_default entries i old e lt));
    puts = λ old r.
        let there : get_or entries i old ≡ e = get_or_default entries i old e lt ∙ sym is in
        at_put r Equal eq ∙ rw (there, set_split entries i (e.0, r) lt, add-one) refl;
  }

  pub gap_before : IsTrue (is_sorted key_cmp entries) → key_cmp key e.0 ≡ Less → IsGap entries key i
  gap_before sorted less =
      let puts : (r : X) → put key_cmp key r entries ≡ insert entries i (key, r) = λ r. at_put r Less less ∙ ap (λ rest. take i entries ++ (key, r) ∷ rest) (sym (rest_at entries i e lt is)) in
      record {
        in_range = omega arith;
        finds = new_key entries key e sorted (ap length (puts e.1) ∙ grind (arith, common_steps, lt));
        puts = puts;
      }

pub still_rise : {X : Type 0} (entries after : List (List ℕ × X)) (key : List ℕ) (r : X) → IsTrue (is_sorted key_cmp entries) → after ≡ put key_cmp key r entries → IsTrue (is_sorted key_cmp after)
still_rise entries after key r sorted is = rw is (tested (is_sorted-put key_cmp key_order.total key r entries (computes sorted)))

pub gap_at_end : {X : Type 0} (entries : List (List ℕ × X)) (key : List ℕ) (i : ℕ) → length entries ≤ i → i ≤ length entries → IsBehind entries key i → IsGap entries key (length entries)
gap_at_end entries key i ge le behind =
    let at_end : i ≡ length entries = omega arith in
    let nothing : drop (length entries) entries ≡ [] = grind (arith, common_steps) in
    record {
      in_range = omega arith;
      finds = behind.finds ∙ ap (λ j. find key_cmp key (drop j entries)) at_end ∙ ap (λ rest. find key_cmp key rest) nothing;
      puts = λ r. behind.puts r ∙ ap (λ j. take j entries ++ put key_cmp key r (drop j entries)) at_end ∙ rw nothing refl;
    }

-- the key is after one more entry that it is greater than
pub behind_more : {X : Type 0} (entries : List (List ℕ × X)) (key : List ℕ) (i : ℕ) (e : List ℕ × X) → i < length entries → e ≡ get_or entries i e → IsBehind entries key i → key_cmp key e.0 ≡ Greater → IsBehind entries key (i + 1)
behind_more {X} entries key i e lt is behind greater =
    record {
      puts = λ r. at_put entries key i e lt is behind r Greater greater ∙ grown (put key_cmp key r (drop (i + 1) entries));
      finds = behind.finds ∙ ap (λ rest. find key_cmp key rest) (rest_at entries i e lt is) ∙ ap (λ o. cond (is_eq o) (Some e.1) (find key_cmp key (drop (i + 1) entries))) greater;
    }
  where
    grown : (rest : List (List ℕ × X)) → take i entries ++ e ∷ rest ≡ take (i + 1) entries ++ rest
    grown rest = grind (arith, common_steps, take_more entries i e lt, is)
