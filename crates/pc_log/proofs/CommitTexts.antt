-- The text of a commit goes out in two pieces: its head, and its writes.
use Rattle.std.proofs.Common.{◌≡◌, ℕ, List, ◌++◌, Option, Result, Ok, Err, sym, ap, subst, ◌∙◌}
use Rattle.std.specs.List.{flat_map}
use Rattle.pc_io.specs.Tallies.{Puts}
use Rattle.pc_io.specs.declared.tally.Tally.{Tally}
use Rattle.pc_types.specs.declared.refusal.Refusal.{Refusal}
use Rattle.pc_types.specs.declared.Entry.{Entry}
use Rattle.pc_types.specs.declared.Entry.TheVariants.{Commit}
use Rattle.pc_types.specs.declared.Write.{Write}
use Rattle.pc_io.proofs.PutsLaws.{puts_then, puts_stop}
use Rattle.pc_log.specs.Texts.{write_text, commit_head_text, entry_text}

module _ {T : Type 0} (contents : T → Option (List ℕ)) (entry : Entry) (session : ℕ) (writes here : List Write) (is_commit : entry ≡ Commit session writes) (same : here ≡ writes) where
  parts : commit_head_text session here ++ flat_map write_text here ≡ entry_text entry
  parts = ap (λ (ws : List Write). commit_head_text session ws ++ flat_map write_text ws) same ∙ sym (ap entry_text is_commit)

  -- both went out, or the second in part
  pub commit_then : (a b c : Tally T) (r : Result (Unit {0}) Refusal) → Puts contents a b (Ok tt) (commit_head_text session here) → Puts contents b c r (flat_map write_text here) → Puts contents a c r (entry_text entry)
  commit_then a b c r p q = subst (λ (t : List ℕ). Puts contents a c r t) parts (puts_then contents a b c r (commit_head_text session here) (flat_map write_text here) p q)

  -- the first went out in part
  pub commit_stops : (a b : Tally T) (e : Refusal) → Puts contents a b (Err e) (commit_head_text session here) → Puts contents a b (Err e) (entry_text entry)
  commit_stops a b e p = subst (λ (t : List ℕ). Puts contents a b (Err e) t) parts (puts_stop contents a b e (commit_head_text session here) (flat_map write_text here) p)
