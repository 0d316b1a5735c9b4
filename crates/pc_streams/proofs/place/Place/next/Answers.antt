use Rattle.std.proofs.Common.{rules, ◌≡◌, ℕ, false, true, List, Option, Result, Ok, Err, refl, subst}
use Rattle.std.specs.Int.{w32}
use Rattle.std.specs.Option.{option_map}
use Rattle.pc_io.specs.Fields.{number_at}
use Rattle.pc_types.specs.declared.Refusal.{Refusal}
use Rattle.pc_types.specs.declared.Refusal.TheVariants.{Short}
use Rattle.pc_types.specs.declared.Triple.{Triple}
use Rattle.pc_part.specs.Reading.{next_entry_at}
use Rattle.pc_streams.specs.Coming.{part_end_at}
use Rattle.pc_streams.specs.Draws.{Draws}
use Rattle.pc_streams.specs.Places.{place_coming, EndsAs}
use Rattle.pc_streams.specs.Sources.{text_left}
use Rattle.pc_streams.proofs.NextGiven.{refused_given, some_given, end_given, end_refused}
use Rattle.pc_streams.proofs.place.Place.next.Goals as goal

abbrev Read : Type 0
Read = List ℕ → Result (Option Triple × List ℕ) Refusal

pub returns-in_err-entry-clause-given : goal.returns-in_err-entry-clause-given
returns-in_err-entry-clause-given g c =
    let place = c.args.self.now in
    let old = text_left g.R.Read.remaining c.args.source.now in
    let mid = text_left g.R.Read.remaining c.entry.new.self in
    let going : place.ended ≡ false = search rules in
    let same : next_entry_at c.self.inside.header.format c.deref.result.now c.deref-2.result.now ≡ next_entry_at place.format place.ranges place.last = search rules in
    let drawn = subst (λ (read : Read). Draws {X = Option Triple} (λ x. x) old mid (Err c.in_err-entry.field-0.0) read) same c.in_err-entry.ensures.drawn in
    refused_given place going old mid (place_coming place mid) c.in_err-entry.field-0.0 c.from_residual.result drawn c.from_residual.ensures

pub returns-in_ok-pass-in-Some-clause-given : goal.returns-in_ok-pass-in-Some-clause-given
returns-in_ok-pass-in-Some-clause-given g c =
    let place = c.args.self.now in
    let old = text_left g.R.Read.remaining c.args.source.now in
    let mid = text_left g.R.Read.remaining c.entry.new.self in
    let going : place.ended ≡ false = search rules in
    let same : next_entry_at c.self.inside.header.format c.deref.result.now c.deref-2.result.now ≡ next_entry_at place.format place.ranges place.last = search rules in
    let drawn = subst (λ (read : Read). Draws {X = Option Triple} (λ x. x) old mid (Ok c.in_ok-entry.field-0) read) same c.in_ok-entry.ensures.drawn in
    let entry = subst (λ (next : Option Triple). Draws {X = Option Triple} (λ x. x) old mid (Ok next) (next_entry_at place.format place.ranges place.last)) c.in-Some.is drawn in
    some_given place going old mid c.in-Some.entry c.pass.new.self (search rules) entry

pub returns-in_err-read_end-in-None-clause-given : goal.returns-in_err-read_end-in-None-clause-given
returns-in_err-read_end-in-None-clause-given g c =
    let place = c.args.self.now in
    let old = text_left g.R.Read.remaining c.args.source.now in
    let mid = text_left g.R.Read.remaining c.entry.new.self in
    let going : place.ended ≡ false = search rules in
    let same : next_entry_at c.self.inside.header.format c.deref.result.now c.deref-2.result.now ≡ next_entry_at place.format place.ranges place.last = search rules in
    let drawn = subst (λ (read : Read). Draws {X = Option Triple} (λ x. x) old mid (Ok c.in_ok-entry.field-0) read) same c.in_ok-entry.ensures.drawn in
    let none = subst (λ (next : Option Triple). Draws {X = Option Triple} (λ x. x) old mid (Ok next) (next_entry_at place.format place.ranges place.last)) c.in-None.is drawn in
    let count : c.self.inside.count ≡ place.count = search rules in
    let ends = subst (λ (n : ℕ). EndsAs (option_map (λ bytes. part_end_at n (number_at Short w32 bytes)) mid) (Err c.in_err-read_end-in-None.field-0.0)) count c.in_err-read_end-in-None.ensures.ends in
    end_refused place going old mid (place_coming place (text_left g.R.Read.remaining c.read_end.new.source)) c.in_err-read_end-in-None.field-0.0 c.from_residual-in_err-read_end-in-None.result none ends c.from_residual-in_err-read_end-in-None.ensures

pub returns-in_ok-read_end-in-None-clause-given : goal.returns-in_ok-read_end-in-None-clause-given
returns-in_ok-read_end-in-None-clause-given g c =
    let place = c.args.self.now in
    let old = text_left g.R.Read.remaining c.args.source.now in
    let mid = text_left g.R.Read.remaining c.entry.new.self in
    let going : place.ended ≡ false = search rules in
    let same : next_entry_at c.self.inside.header.format c.deref.result.now c.deref-2.result.now ≡ next_entry_at place.format place.ranges place.last = search rules in
    let drawn = subst (λ (read : Read). Draws {X = Option Triple} (λ x. x) old mid (Ok c.in_ok-entry.field-0) read) same c.in_ok-entry.ensures.drawn in
    let none = subst (λ (next : Option Triple). Draws {X = Option Triple} (λ x. x) old mid (Ok next) (next_entry_at place.format place.ranges place.last)) c.in-None.is drawn in
    let count : c.self.inside.count ≡ place.count = search rules in
    let ends = subst (λ (n : ℕ). EndsAs (option_map (λ bytes. part_end_at n (number_at Short w32 bytes)) mid) (Ok tt)) count c.in_ok-read_end-in-None.ensures.ends in
    end_given place going old mid (text_left g.R.Read.remaining c.read_end.new.source) (record place { ended = true }) refl none ends
