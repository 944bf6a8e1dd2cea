-- The table allows a split, and both views that it makes are those of passes of the log.
use Rattle.std.proofs.Common.{ℕ, ◌<◌, ◌≤◌, sym, ap, ◌∙◌, subst, arith}
use Rattle.fish_rule.proofs.steps.SplitPass.{left_stands, right_stands, splits}
use Rattle.fish_rule.specs.Table.{Sat, IsOfMoment}
use Rattle.fish_rule.proofs.seats.split_lane.Goals as goal

-- the rule allows a split, whatever the words are
pub split_seat-seat-requires : goal.split_seat-seat-requires
split_seat-seat-requires g c =
    let log = c.args.log.now in
    let seat = c.args.control.now.seat in (
      c.requires.pass.table,
      subst (λ (z : ℕ). 0 < z) (sym log.wide) (omega arith),
      splits log.table.shared.key seat.id seat.me.0 g.row.LANE c.requires.can,
    )

-- the control pass stays one of the log
pub returns-clause-control : goal.returns-clause-control
returns-clause-control g c =
    let is = ap (λ (z : Sat). z.0) c.split_seat-seat.ensures.2 in
    record {
      table = c.split_seat-seat.ensures.0 ∙ c.requires.pass.table;
      about = ap (λ z. z.about) is ∙ c.requires.pass.about;
      live = subst (λ (z : ℕ). 1 ≤ z) (sym (ap (λ z. z.lane) is)) c.requires.pass.live;
      stands = subst IsOfMoment (sym is)
          (left_stands c.args.control.now.seat.me.0 g.row.LANE c.requires.pass.stands c.requires.can);
    }

-- and the new pass is one
pub returns-clause-pass : goal.returns-clause-pass
returns-clause-pass g c =
    let is = ap (λ (z : Sat). z.0) c.split_seat-seat.ensures.4 in
    record {
      table = c.split_seat-seat.ensures.3 ∙ c.requires.pass.table;
      about = ap (λ z. z.about) is ∙ c.requires.pass.about;
      live = subst (λ (z : ℕ). 1 ≤ z) (sym (ap (λ z. z.lane) is)) (let above = c.requires.can.above in omega arith);
      stands = subst IsOfMoment (sym is)
          (right_stands c.args.control.now.seat.me.0 g.row.LANE c.requires.pass.stands c.requires.can);
    }
