-- The table allows a join and a load of the tail, and what either pass knew is learned by the two.
use Rattle.std.proofs.Common.{◌≡◌, ℕ, ◌<◌, sym, ap, ◌∙◌, subst, arith, Bool}
use Rattle.fish_rule.proofs.steps.LoadTail.{load_tail_allowed}
use Rattle.fish_rule.proofs.steps.JoinPass.{joins}
use Rattle.fish_rule.proofs.laws.Learning.{joined_learns}
use Rattle.fish_rule.specs.Logs.{Learns}
use Rattle.fish_rule.specs.SeatSteps.{join_both}
use Rattle.fish_rule.specs.Table.{Sat}
use Rattle.fish_rule.specs.Told.{ToldLoadTail}
use Rattle.fish_rule.proofs.basics.Context.{Key, View}
use Rattle.atomic_table.specs.Table.{Step}
use Rattle.fish_rule.proofs.seats.join_pass.Goals as goal

-- the rule allows a join, whatever the words are
pub join_seat-requires : goal.join_seat-requires
join_seat-requires c =
    let log = c.args.log.now in
    let seat = c.args.control.now.seat in
    let other = c.args.other in (
      c.requires.control.table,
      c.requires.other.table,
      other.bare,
      subst (λ (z : ℕ). 0 < z) (sym log.wide) (omega arith),
      joins log.table.shared.key seat.id seat.me.0 other.seat.id other.seat.me.0 c.requires.can,
    )

-- and a load of the tail
pub load-requires : goal.load-requires
load-requires c =
    let log = c.args.log.now in
    let seat = c.join_seat.new.seat in
    let about : seat.me.0.about ≡ log.key = ap (λ (z : Sat). z.0.about) c.join_seat.ensures.2
    ∙ c.requires.control.about in (
      c.join_seat.ensures.0 ∙ c.requires.control.table,
      subst (λ (z : ℕ). 0 < z) (sym log.wide) (omega arith),
      load_tail_allowed log.table.shared.key log.key log.keyed log.table.shared.table_id.slots seat.id seat.me about,
    )

-- both views are learned by the join and the load
joined : (k : Key) (v u : View) (m n : Sat) (st : Step Bool) (x : ℕ) → v.about ≡ k → u.about ≡ k
    → m.0 ≡ join_both v u → ToldLoadTail st m x n → Learns v n.0 × Learns u n.0
joined k v u m n st x here there both end =
    joined_learns v u m.0 n.0 x (here ∙ sym there) both end.told.view end.counted

-- what the control pass knew, where the other may have shut it
pub returns-then-is_none-clause-learns : goal.returns-then-is_none-clause-learns
returns-then-is_none-clause-learns c =
    (joined _ c.args.control.now.seat.me.0 c.args.other.seat.me.0 c.join_seat.new.seat.me c.load.new.seat.me _
    c.load.result c.requires.control.about c.requires.other.about
    (ap (λ (z : Sat). z.0) c.join_seat.ensures.2) c.load.ensures.2).0

-- what the other pass knew
pub returns-then-is_none-clause-learned : goal.returns-then-is_none-clause-learned
returns-then-is_none-clause-learned c =
    (joined _ c.args.control.now.seat.me.0 c.args.other.seat.me.0 c.join_seat.new.seat.me c.load.new.seat.me _
    c.load.result c.requires.control.about c.requires.other.about
    (ap (λ (z : Sat). z.0) c.join_seat.ensures.2) c.load.ensures.2).1

-- what the control pass knew, where it was shut
pub returns-else-is_none-clause-learns : goal.returns-else-is_none-clause-learns
returns-else-is_none-clause-learns c =
    (joined _ c.args.control.now.seat.me.0 c.args.other.seat.me.0 c.join_seat.new.seat.me c.load.new.seat.me _
    c.load.result c.requires.control.about c.requires.other.about
    (ap (λ (z : Sat). z.0) c.join_seat.ensures.2) c.load.ensures.2).0

-- what the other pass knew
pub returns-else-is_none-clause-learned : goal.returns-else-is_none-clause-learned
returns-else-is_none-clause-learned c =
    (joined _ c.args.control.now.seat.me.0 c.args.other.seat.me.0 c.join_seat.new.seat.me c.load.new.seat.me _
    c.load.result c.requires.control.about c.requires.other.about
    (ap (λ (z : Sat). z.0) c.join_seat.ensures.2) c.load.ensures.2).1
