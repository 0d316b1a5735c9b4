-- What goes out in order.
use Rattle.std.proofs.Common.{◌≤◌, ◌<◌, ℕ, List, ◌++◌, length, get_or, take, Option, Result, Ok, Err, arith}
use Rattle.std.specs.List.{flat_map}
use Rattle.std.specs.Io.KnownBytes.{Appends}
use Rattle.pc_io.specs.Tallies.{Puts}
use Rattle.pc_io.specs.declared.tally.Tally.{Tally}
use Rattle.pc_types.specs.declared.refusal.Refusal.{Refusal}
use Rattle.pc_io.proofs.KnownBytesLaws.{appends_then, part_longer, part_after}
use Rattle.pc_io.proofs.Pieces.{stops_within}

module _ {T : Type 0} (contents : T → Option (List ℕ)) where
  -- a text, and then another
  pub puts_then : (a b c : Tally T) (r : Result (Unit {0}) Refusal) (x y : List ℕ) → Puts contents a b (Ok tt) x → Puts contents b c r y → Puts contents a c r (x ++ y)
  puts_then a b c (Ok u) x y p q = (appends_then (contents a.inner) (contents b.inner) (contents c.inner) x y p.0 q.0, omega arith)
  puts_then a b c (Err e) x y p q = (q.0, omega (arith, q.1, p.1), part_after (contents a.inner) (contents b.inner) (contents c.inner) x y p.0 q.2)

  -- a text that went out in part is in part the longer text
  pub puts_stop : (a b : Tally T) (e : Refusal) (x y : List ℕ) → Puts contents a b (Err e) x → Puts contents a b (Err e) (x ++ y)
  puts_stop a b e x y p = (p.0, p.1, part_longer (contents a.inner) (contents b.inner) x y p.2)

  -- one of several pieces went out in part
  pub puts_stop_at : {X : Type 0} (f : X → List ℕ) (xs : List X) (i : ℕ) (d : X) (a b c : Tally T) (e : Refusal) → i < length xs
      → Appends (contents a.inner) (contents b.inner) (flat_map f (take i xs)) → a.failures ≤ b.failures
      → Puts contents b c (Err e) (f (get_or xs i d)) → Puts contents a c (Err e) (flat_map f xs)
  puts_stop_at f xs i d a b c e lt sent counted p = (p.0, omega (arith, p.1), stops_within (contents a.inner) (contents b.inner) (contents c.inner) f xs i d lt sent p.2)
