-- An index of no records.
use Rattle.std.proofs.Common.{◌≡◌, ℕ, ◌<◌, List, [], length, replicate, Option, Some, None, option_map, sym, ap, ◌∙◌, subst, arith}
use Rattle.std.proofs.lemmas.Option.{none-some}
use Rattle.std.proofs.lemmas.List.{get_or-replicate, length-replicate}
use Rattle.pc_chain.specs.declared.stack.Stack.{Stack}
use Rattle.pc_chain.proofs.StackLaws.{empty_stack}
use Rattle.pc_chain.specs.Slots.{Slots, at, IsTaken, AllFree}
use Rattle.pc_index.specs.Indexes.{IndexView, chain_at, IsIndex}
use Rattle.pc_index.specs.Keys.{key_at}

module _ {T : Type 0} (key_of : T → List ℕ) where
  no_key : (items : List (Option T)) (id : ℕ) (key : List ℕ) → AllFree items → key_at key_of items id ≡ Some key → ⊥
  no_key items id key f h = none-some key (sym (ap (option_map key_of) (f id)) ∙ h)

  pub index_begun : (slots : Slots T) (table : IndexView) (blank : Stack ℕ) (m : ℕ) → AllFree slots.items → blank.first ≡ None → table.chains ≡ replicate m blank → IsIndex key_of slots table
  index_begun slots table blank m f b c = record {
    ids = λ place. [];
    chains = λ place w.
        let within : place < length (replicate m blank) = subst (λ (cs : List (Stack ℕ)). place < length cs) c w in
        let l = length-replicate m blank in
        let here : chain_at table place ≡ blank = ap (λ (cs : List (Stack ℕ)). chain_at (record table { chains = cs }) place) c ∙ get_or-replicate m place blank (record { first = None }) (omega (arith, within, l)) in
        rw here (empty_stack (IsTaken slots.items) (at slots.links) blank b);
    placed = λ place w. tt;
    all = λ id key h a. no_key slots.items id key f h;
    distinct = λ id other key h k. absurd (no_key slots.items id key f h);
  }
