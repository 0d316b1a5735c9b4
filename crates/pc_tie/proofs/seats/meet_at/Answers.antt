use Rattle.std.proofs.Common.{ap, sym, ◌∙◌, arith, subst}
use Rattle.atomic_table.specs.Table.{Me}
use Rattle.pc_types.specs.declared.Step.{Step}
use Rattle.pc_tie.specs.declared.sight.Sight.{Sight}
use Rattle.pc_tie.specs.declared.sight.Sight.TheVariants.{Front}
use Rattle.pc_tie.specs.Rules.{a_witness, sitting, hist_of, other_of, alone, witness_out, AreOfOne}
use Rattle.pc_tie.specs.Seats.{seat_of}
use Rattle.pc_tie.proofs.Meetings.{comes_at, goes_at, looks_at, stands, together, back}
use Rattle.pc_tie.proofs.seats.meet_at.Goals as goal

pub join_seat-requires : goal.join_seat-requires
join_seat-requires g c =
    let t = c.args.tie.now in
    let table = g.N.StoreName.name.table in
    let mine = c.into_seat-seat.ensures in
    let theirs = c.into_seat-witness.ensures in
    let own = stands c.replace.result c.args.own.now table c.into_seat-seat.result.table_id c.into_seat-seat.result.me.0 c.replace.ensures.value c.requires.seats.0 mine.0 mine.2 in
    let other = stands c.replace-2.result c.args.other.now table c.into_seat-witness.result.table_id c.into_seat-witness.result.me.0 c.replace-2.ensures.value c.requires.seats.1 theirs.0 theirs.2 in
    let n = (seat_of c.args.own.now).number in
    let seen = (seat_of c.args.own.now).seen in
    let w = (seat_of c.args.other.now).seen in
    let witness = other.1 ∙ ap (λ k. Front k w) c.requires.witness in
    (own.0 ∙ sym t.named, other.0 ∙ sym t.named, theirs.3, omega (arith, t.one), comes_at _ _ n seen w _ _ _ own.1 witness)

pub load-found-requires : goal.load-found-requires
load-found-requires g c =
    let t = c.args.tie.now in
    let table = g.N.StoreName.name.table in
    let mine = c.into_seat-seat.ensures in
    let theirs = c.into_seat-witness.ensures in
    let own = stands c.replace.result c.args.own.now table c.into_seat-seat.result.table_id c.into_seat-seat.result.me.0 c.replace.ensures.value c.requires.seats.0 mine.0 mine.2 in
    let other = stands c.replace-2.result c.args.other.now table c.into_seat-witness.result.table_id c.into_seat-witness.result.me.0 c.replace-2.ensures.value c.requires.seats.1 theirs.0 theirs.2 in
    let n = (seat_of c.args.own.now).number in
    let seen = (seat_of c.args.own.now).seen in
    let w = (seat_of c.args.other.now).seen in
    let witness = other.1 ∙ ap (λ k. Front k w) c.requires.witness in
    let both = together c.into_seat-seat.result.me.0 c.into_seat-witness.result.me.0 c.into_seat-seat.result.me.1 c.join_seat.new.seat.me n seen w own.1 witness mine.3 c.join_seat.ensures.2 in
    (c.join_seat.ensures.0 ∙ (own.0 ∙ sym t.named), omega (arith, t.one), looks_at _ _ n seen w _ _ both)

pub split_seat-parted-requires : goal.split_seat-parted-requires
split_seat-parted-requires g c =
    let t = c.args.tie.now in
    let table = g.N.StoreName.name.table in
    let mine = c.into_seat-seat.ensures in
    let theirs = c.into_seat-witness.ensures in
    let own = stands c.replace.result c.args.own.now table c.into_seat-seat.result.table_id c.into_seat-seat.result.me.0 c.replace.ensures.value c.requires.seats.0 mine.0 mine.2 in
    let other = stands c.replace-2.result c.args.other.now table c.into_seat-witness.result.table_id c.into_seat-witness.result.me.0 c.replace-2.ensures.value c.requires.seats.1 theirs.0 theirs.2 in
    let n = (seat_of c.args.own.now).number in
    let seen = (seat_of c.args.own.now).seen in
    let w = (seat_of c.args.other.now).seen in
    let witness = other.1 ∙ ap (λ k. Front k w) c.requires.witness in
    let both = together c.into_seat-seat.result.me.0 c.into_seat-witness.result.me.0 c.into_seat-seat.result.me.1 c.join_seat.new.seat.me n seen w own.1 witness mine.3 c.join_seat.ensures.2 in
    let looked = c.load-found.ensures.2 in
    let after = looked.0 ∙ both in
    (c.load-found.ensures.0 ∙ (c.join_seat.ensures.0 ∙ (own.0 ∙ sym t.named)), omega (arith, t.one), goes_at _ _ n seen w _ (ap (λ m. m.0) after))

pub into_badge-requires : goal.into_badge-requires
into_badge-requires g c =
    ap (λ m. m.1) c.split_seat-parted.ensures.4

pub into_badge-requires-2 : goal.into_badge-requires-2
into_badge-requires-2 g c =
    let t = c.args.tie.now in
    let table = g.N.StoreName.name.table in
    let mine = c.into_seat-seat.ensures in
    let theirs = c.into_seat-witness.ensures in
    let own = stands c.replace.result c.args.own.now table c.into_seat-seat.result.table_id c.into_seat-seat.result.me.0 c.replace.ensures.value c.requires.seats.0 mine.0 mine.2 in
    let other = stands c.replace-2.result c.args.other.now table c.into_seat-witness.result.table_id c.into_seat-witness.result.me.0 c.replace-2.ensures.value c.requires.seats.1 theirs.0 theirs.2 in
    let n = (seat_of c.args.own.now).number in
    let seen = (seat_of c.args.own.now).seen in
    let w = (seat_of c.args.other.now).seen in
    let witness = other.1 ∙ ap (λ k. Front k w) c.requires.witness in
    let both = together c.into_seat-seat.result.me.0 c.into_seat-witness.result.me.0 c.into_seat-seat.result.me.1 c.join_seat.new.seat.me n seen w own.1 witness mine.3 c.join_seat.ensures.2 in
    let looked = c.load-found.ensures.2 in
    let after = looked.0 ∙ both in
    ap (λ m. m.1) c.split_seat-parted.ensures.2 ∙ ap (λ m. m.1) after

pub returns-clause-seats : goal.returns-clause-seats
returns-clause-seats g c =
    let t = c.args.tie.now in
    let table = g.N.StoreName.name.table in
    let mine = c.into_seat-seat.ensures in
    let theirs = c.into_seat-witness.ensures in
    let own = stands c.replace.result c.args.own.now table c.into_seat-seat.result.table_id c.into_seat-seat.result.me.0 c.replace.ensures.value c.requires.seats.0 mine.0 mine.2 in
    let other = stands c.replace-2.result c.args.other.now table c.into_seat-witness.result.table_id c.into_seat-witness.result.me.0 c.replace-2.ensures.value c.requires.seats.1 theirs.0 theirs.2 in
    let n = (seat_of c.args.own.now).number in
    let seen = (seat_of c.args.own.now).seen in
    let w = (seat_of c.args.other.now).seen in
    let witness = other.1 ∙ ap (λ k. Front k w) c.requires.witness in
    let both = together c.into_seat-seat.result.me.0 c.into_seat-witness.result.me.0 c.into_seat-seat.result.me.1 c.join_seat.new.seat.me n seen w own.1 witness mine.3 c.join_seat.ensures.2 in
    let looked = c.load-found.ensures.2 in
    let after = looked.0 ∙ both in
    let split = c.split_seat-parted.ensures in
    let at = c.load-found.ensures.0 ∙ (c.join_seat.ensures.0 ∙ own.0) in
    let first = back c.into_badge-2.result.views c.split_seat-parted.new.seat.me.0 n seen c.into_badge-2.ensures.2 (ap (λ m. m.0) split.2 ∙ ap (λ m. alone m.0) after) in
    let second = back c.into_badge.result.views c.split_seat-parted.result.me.0 a_witness w c.into_badge.ensures.2 (ap (λ m. m.0) split.4 ∙ ap (λ m. witness_out m.0) after) in
    ((c.into_badge-2.ensures.0 ∙ (split.0 ∙ at), first.0), (c.into_badge.ensures.0 ∙ (split.3 ∙ at), second.0))

pub returns-clause-same : goal.returns-clause-same
returns-clause-same g c =
    let t = c.args.tie.now in
    let table = g.N.StoreName.name.table in
    let mine = c.into_seat-seat.ensures in
    let theirs = c.into_seat-witness.ensures in
    let own = stands c.replace.result c.args.own.now table c.into_seat-seat.result.table_id c.into_seat-seat.result.me.0 c.replace.ensures.value c.requires.seats.0 mine.0 mine.2 in
    let other = stands c.replace-2.result c.args.other.now table c.into_seat-witness.result.table_id c.into_seat-witness.result.me.0 c.replace-2.ensures.value c.requires.seats.1 theirs.0 theirs.2 in
    let n = (seat_of c.args.own.now).number in
    let seen = (seat_of c.args.own.now).seen in
    let w = (seat_of c.args.other.now).seen in
    let witness = other.1 ∙ ap (λ k. Front k w) c.requires.witness in
    let both = together c.into_seat-seat.result.me.0 c.into_seat-witness.result.me.0 c.into_seat-seat.result.me.1 c.join_seat.new.seat.me n seen w own.1 witness mine.3 c.join_seat.ensures.2 in
    let looked = c.load-found.ensures.2 in
    let after = looked.0 ∙ both in
    let split = c.split_seat-parted.ensures in
    let first = back c.into_badge-2.result.views c.split_seat-parted.new.seat.me.0 n seen c.into_badge-2.ensures.2 (ap (λ m. m.0) split.2 ∙ ap (λ m. alone m.0) after) in
    let second = back c.into_badge.result.views c.split_seat-parted.result.me.0 a_witness w c.into_badge.ensures.2 (ap (λ m. m.0) split.4 ∙ ap (λ m. witness_out m.0) after) in
    (first.1, second.1 ∙ ap (λ k. sitting k w) (sym c.requires.witness))

pub returns-clause-one : goal.returns-clause-one
returns-clause-one g c =
    let t = c.args.tie.now in
    let table = g.N.StoreName.name.table in
    let mine = c.into_seat-seat.ensures in
    let theirs = c.into_seat-witness.ensures in
    let own = stands c.replace.result c.args.own.now table c.into_seat-seat.result.table_id c.into_seat-seat.result.me.0 c.replace.ensures.value c.requires.seats.0 mine.0 mine.2 in
    let other = stands c.replace-2.result c.args.other.now table c.into_seat-witness.result.table_id c.into_seat-witness.result.me.0 c.replace-2.ensures.value c.requires.seats.1 theirs.0 theirs.2 in
    let n = (seat_of c.args.own.now).number in
    let seen = (seat_of c.args.own.now).seen in
    let w = (seat_of c.args.other.now).seen in
    let witness = other.1 ∙ ap (λ k. Front k w) c.requires.witness in
    let both = together c.into_seat-seat.result.me.0 c.into_seat-witness.result.me.0 c.into_seat-seat.result.me.1 c.join_seat.new.seat.me n seen w own.1 witness mine.3 c.join_seat.ensures.2 in
    let looked = c.load-found.ensures.2 in
    let after = looked.0 ∙ both in
    subst (λ (m : Me Step Sight). AreOfOne (hist_of m.0) (other_of m.0)) both looked.1
