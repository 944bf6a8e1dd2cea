-- Each look tells of one number more, or of a mark at which the looks end.
use Rattle.std.proofs.Common.{◌≡◌, ℕ, ◌+◌, suc, length, ap, ◌∙◌, subst, arith}
use Rattle.fish_rule.proofs.laws.Alone.{alone_later}
use Rattle.fish_rule.specs.Passes.{view}
use Rattle.fish_scan.proofs.Ends.{none_open}
use Rattle.fish_scan.proofs.Lists.{length_more}
use Rattle.fish_scan.proofs.Looking.{looks_more, looks_none, looks_stop, open_looked, unmarked}
use Rattle.fish_scan.specs.within.Reach.{AreLooks}
use Rattle.fish_walk.proofs.Looking.{look_looks, looked_both, looked_self}
use Rattle.fish_scan.proofs.reach.look_on.Goals as goal

pub loop-number-init : goal.loop-number-init
loop-number-init c = record {
  of = c.requires.pass;
  only = looked_self (view c.args.pass.now);
  looks = looks_none (view c.args.pass.now) c.args.first c.args.count c.args.looks.now.items c.args.opens.now
      c.requires.looks c.requires.opens c.requires.fresh;
  many = (let e = ap length c.requires.looks in omega arith);
  closed = λ alone. c.requires.opens;
}

pub returns-in-Overflow-clause-only : goal.returns-in-Overflow-clause-only
returns-in-Overflow-clause-only c =
    let t = c.look-seen.ensures.view in
    looked_both _ _ _ c.loop-number.invariant.only (look_looks _ _ _ t.0 t.1 t.2)

pub returns-in-Overflow-clause-looks : goal.returns-in-Overflow-clause-looks
returns-in-Overflow-clause-looks c =
    let inv = c.loop-number.invariant in
    let t = c.look-seen.ensures.view in
    let below = c.loop-number-test.true in
    let counted = c.requires.counted in
    looks_stop (view c.args.pass.now) (view c.loop-number.pass) (view c.look-seen.new.pass) c.args.first
    c.loop-number.number c.args.count c.loop-number.looks.items c.loop-number.opens c.look-seen.result
    (look_looks _ _ _ t.0 t.1 t.2).extends inv.looks inv.many (omega arith)
    c.look-seen.ensures.opens c.args.end (omega arith) c.in-Overflow.is c.look-seen.ensures.found

pub returns-in_err-keep-in-Unfinished-clause-only : goal.returns-in_err-keep-in-Unfinished-clause-only
returns-in_err-keep-in-Unfinished-clause-only c =
    let t = c.look-seen.ensures.view in
    looked_both _ _ _ c.loop-number.invariant.only (look_looks _ _ _ t.0 t.1 t.2)

pub loop-number-preserved : goal.loop-number-preserved
loop-number-preserved c =
    let inv = c.loop-number.invariant in
    let t = c.look-seen.ensures.view in
    let sees = c.look-seen.ensures.sees in
    let below = c.loop-number-test.true in
    let counted = c.requires.counted in
    let many = inv.many in
    let next : suc c.loop-number.number ≡ c.loop-number.number + 1 = omega arith in
    let longer = ap length c.in_ok-keep-in-Unfinished.ensures.looks ∙ length_more c.loop-number.looks.items c.look-seen.result in
    record {
      of = c.look-seen.ensures.pass;
      only = looked_both _ _ _ inv.only (look_looks _ _ _ t.0 t.1 t.2);
      looks = subst (λ (z : ℕ). AreLooks (view c.args.pass.now) (view c.look-seen.new.pass) c.args.first z c.args.count
          c.keep.new.looks.items c.keep.new.opens) next
          (looks_more (view c.args.pass.now) (view c.loop-number.pass) (view c.look-seen.new.pass) c.args.first
          c.loop-number.number c.args.count c.loop-number.looks.items c.loop-number.opens c.look-seen.result
          (look_looks _ _ _ t.0 t.1 t.2).extends inv.looks inv.many (omega arith)
          c.look-seen.ensures.opens c.look-seen.ensures.found (unmarked c.look-seen.result c.in-Unfinished.is)
          (open_looked (view c.args.pass.now) (view c.loop-number.pass) (view c.look-seen.new.pass) c.loop-number.number
          t.0 t.1 sees.0 c.look-seen.result inv.only.extends t.2 t.3 sees.1 sees.2)
          c.keep.new.looks.items c.keep.new.opens c.in_ok-keep-in-Unfinished.ensures.looks c.in_ok-keep-in-Unfinished.ensures.opens);
      many = omega arith;
      closed = λ alone. c.in_ok-keep-in-Unfinished.ensures.opens
          ∙ none_open c.loop-number.number c.look-seen.result c.loop-number.opens
          (c.look-seen.ensures.alone (alone_later _ _ inv.only.extends alone)) (inv.closed alone);
    }
