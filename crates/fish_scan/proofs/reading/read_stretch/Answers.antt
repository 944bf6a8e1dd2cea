-- One number more is read at each turn.
use Rattle.std.proofs.Common.{◌≡◌, ℕ, ◌+◌, ◌-◌, ap, subst, arith}
use Rattle.fish_lang.specs.Definition.{definition_of}
use Rattle.fish_rule.proofs.laws.Learning.{extends_both, extends_self}
use Rattle.fish_rule.specs.Passes.{view}
use Rattle.fish_rule.specs.declared.view.Key.{Key}
use Rattle.fish_scan.proofs.Reaching.{reached_still}
use Rattle.fish_scan.proofs.Telling.{adds_both, adds_later, adds_none}
use Rattle.fish_scan.proofs.Working.{full_both, full_none}
use Rattle.fish_plan.specs.declared.pieces.Piece.TheVariants.{Full}
use Rattle.fish_scan.proofs.Parsing.{parsed_down, parsed_empty}
use Rattle.fish_scan.specs.within.Parses.{HasParsedPiece}
use Rattle.fish_scan.specs.within.Reading.{Adds}
use Rattle.fish_scan.specs.within.Work.{IsFullWork}
use Rattle.fish_scan.proofs.reading.read_stretch.Goals as goal

pub loop-number-init : goal.loop-number-init
loop-number-init g c = record {
  of = c.requires.pass;
  few = omega arith;
  extends = extends_self (view c.args.pass.now);
  above = c.requires.some;
  below = omega arith;
  parses = parsed_empty (view c.args.pass.now) c.args.query.now.reach.opens c.args.stretch.now.to c.args.parses.now;
  rows = adds_none (view c.args.pass.now) (definition_of c.args.query.now.def) c.args.query.now.value c.args.stretch.now.to
      c.args.query.now.reach.opens c.args.rows.now;
  work = full_none (view c.args.pass.now) c.args.query.now.reach.opens c.args.stretch.now.to c.args.loads.now;
}

pub read_at-requires-clause-reached : goal.read_at-requires-clause-reached
read_at-requires-clause-reached g c = reached_still (view c.args.pass.now) (view c.loop-number.pass) c.args.query.now.reach
    c.loop-number.invariant.extends.learns c.requires.reached

pub read_at-requires-clause-base : goal.read_at-requires-clause-base
read_at-requires-clause-base g c =
    let about = ap (λ (z : Key). z.number) c.loop-number.invariant.extends.learns.about in
    let base = c.requires.base in
    let some = c.loop-number-test.true in
    omega arith

pub loop-number-preserved : goal.loop-number-preserved
loop-number-preserved g c =
    let inv = c.loop-number.invariant in
    let above = inv.above in
    let below = inv.below in
    let some = c.loop-number-test.true in
    let next : c.loop-number.number - 1 + 1 ≡ c.loop-number.number = omega arith in
    record {
      of = c.read_at.ensures.pass;
      few = (let so_far = inv.few in let one = c.read_at.ensures.few in omega arith);
      extends = extends_both _ _ _ inv.extends c.read_at.ensures.extends;
      above = omega arith;
      below = omega arith;
      parses = parsed_down (view c.loop-number.pass) (view c.read_at.new.pass) c.args.query.now.reach.opens
          (c.loop-number.number - 1) c.loop-number.number c.args.stretch.now.to c.args.parses.now c.loop-number.parses
          c.read_at.new.parses (omega arith) below c.read_at.ensures.extends.learns inv.parses
          (subst (λ (z : ℕ). HasParsedPiece (view c.read_at.new.pass) c.args.query.now.reach.opens
          (Full (c.loop-number.number - 1) z) c.loop-number.parses c.read_at.new.parses) next c.in_ok-read_at.ensures.parses);
      rows = adds_both (view c.read_at.new.pass) (definition_of c.args.query.now.def) c.args.query.now.value
          (c.loop-number.number - 1) c.loop-number.number c.args.stretch.now.to c.args.query.now.reach.opens c.args.rows.now
          c.loop-number.rows c.read_at.new.rows (omega arith) below
          (adds_later (view c.loop-number.pass) (view c.read_at.new.pass) _ _ _ _ _ _ _ c.read_at.ensures.extends.learns inv.rows)
          (subst (λ (z : ℕ). Adds (view c.read_at.new.pass) (definition_of c.args.query.now.def) c.args.query.now.value
          (c.loop-number.number - 1) z c.args.query.now.reach.opens c.loop-number.rows c.read_at.new.rows) next
          c.in_ok-read_at.ensures.row);
      work = full_both (view c.args.pass.now) (view c.loop-number.pass) (view c.read_at.new.pass) c.args.query.now.reach.opens
          (c.loop-number.number - 1) c.loop-number.number c.args.stretch.now.to c.args.loads.now c.loop-number.loads
          c.read_at.new.loads c.read_at.ensures.extends.learns inv.work
          (subst (λ (z : ℕ). IsFullWork (view c.loop-number.pass) (view c.read_at.new.pass) c.args.query.now.reach.opens
          (c.loop-number.number - 1) z c.loop-number.loads c.read_at.new.loads) next c.in_ok-read_at.ensures.loads);
    }

pub returns-in_err-read_at-clause-extends : goal.returns-in_err-read_at-clause-extends
returns-in_err-read_at-clause-extends g c = extends_both _ _ _ c.loop-number.invariant.extends c.read_at.ensures.extends

pub returns-in_err-read_at-clause-few : goal.returns-in_err-read_at-clause-few
returns-in_err-read_at-clause-few g c =
    let so_far = c.loop-number.invariant.few in
    let one = c.read_at.ensures.few in
    let above = c.loop-number.invariant.above in
    let some = c.loop-number-test.true in
    omega arith

pub returns-clause-few : goal.returns-clause-few
returns-clause-few g c =
    let so_far = c.loop-number.invariant.few in
    let above = c.loop-number.invariant.above in
    omega arith
