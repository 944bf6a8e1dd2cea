-- Each turn reads one number more, and the last one that the log ends.
use Rattle.std.proofs.Common.{◌≡◌, ◌∙◌, ◌+◌, suc, subst, ℕ, arith}
use Rattle.fish_rule.proofs.laws.Alone.{alone_later}
use Rattle.fish_rule.proofs.laws.ReadsOn.{goes_on}
use Rattle.fish_rule.proofs.laws.Learning.{extends_both}
use Rattle.fish_rule.specs.within.ClosedLog.{IsReadUpTo}
use Rattle.fish_rule.specs.Passes.{view}
use Rattle.fish_rule.proofs.close.all_numbers.Goals as goal

pub returns-in_err-add_number-clause-extends : goal.returns-in_err-add_number-clause-extends
returns-in_err-add_number-clause-extends c =
    extends_both _ _ _ c.loop-number.invariant.extends c.add_number.ensures.extends

pub returns-then-not-branch-clause-extends : goal.returns-then-not-branch-clause-extends
returns-then-not-branch-clause-extends c =
    extends_both _ _ _ c.loop-number.invariant.extends c.add_number.ensures.extends

pub loop-number-preserved : goal.loop-number-preserved
loop-number-preserved c =
    let inv = c.loop-number.invariant in
    let more = c.add_number.ensures.extends in
    let on = goes_on (view c.add_number.new.control) c.loop-number.number c.loop-number.read.lines c.add_number.new.read
    c.in_ok-add_number.field-0 (cc) c.in_ok-add_number.ensures.read in
    let next : suc c.loop-number.number ≡ c.loop-number.number + 1 = omega arith in
    let a = more.learns.count in
    let b = inv.counted in
    record {
      of = c.add_number.ensures.pass;
      alone = alone_later _ _ more inv.alone;
      extends = extends_both _ _ _ inv.extends more;
      counted = omega arith;
      read = subst (λ (z : ℕ). IsReadUpTo (view c.add_number.new.control) z c.add_number.new.read) next on.0;
      lines = on.1 ∙ inv.lines;
    }
