-- The views of the call, one after the other, and what it found on its way.
use Rattle.std.proofs.Common.{◌≡◌, ℕ, max, sym, ap, ◌∙◌, subst, arith}
use Rattle.fish_rule.specs.Passes.{view}
use Rattle.fish_rule.specs.declared.view.Key.{Key}
use Rattle.fish_rule.specs.declared.view.View.{View}
use Rattle.fish_walk.specs.Looks.{IsTailCount}
use Rattle.fish_walk.specs.Settling.{IsEnd, IsMark}
use Rattle.fish_walk.specs.within.Settling.{AreSettled}
use Rattle.fish_walk.proofs.Looking.{ends_later, stops_below}
use Rattle.fish_walk.proofs.Settling.{alone_still, can_raise, counted_here, settles_all, stops_here}
use Rattle.fish_walk.proofs.prefix.settle.Goals as goal

-- below the number all is known: before the first look by the load, after it by the looks
pub raise_to-requires-clause-can : goal.raise_to-requires-clause-can
raise_to-requires-clause-can c =
    let t = c.count_now-count.ensures.view in
    let s = c.settled_up_to-settled.ensures in
    let known = c.load_settled-known in
    let within = stops_below IsEnd _ _ c.settled_up_to-settled.result c.count_now-count.result s.stops in
    let from : c.from.result ≡ c.settled_up_to-settled.result = c.from.ensures in
    let base : c.base.result.number ≡ (view c.args.pass.now).about.number = c.base.ensures.0
    ∙ sym (ap (λ (z : Key). z.number) c.requires.pass.about) in
    can_raise (view c.args.pass.now) (view known.new.pass) (view c.count_now-count.new.pass) _ known.result t.0
    c.max-first.result c.from.result c.count_now-count.result known.ensures.view t.1 s.looked
    (c.max-first.ensures ∙ ap (λ (z : ℕ). max z known.result) base)
    (subst (AreSettled (view c.settled_up_to-settled.new.pass) c.max-first.result) (sym from) s.settled)
    (omega arith) t.2

-- each part of the call only learns
pub returns-clause-settles : goal.returns-clause-settles
returns-clause-settles c =
    let t = c.count_now-count.ensures.view in
    let known = c.load_settled-known in
    settles_all _ (view known.new.pass) _ (view c.settled_up_to-settled.new.pass) _ known.result t.0 c.from.result
    known.ensures.view t.1 c.settled_up_to-settled.ensures.looked c.raise_to.ensures.raised known.ensures.rises
    c.count_now-count.result t.2 c.count_now-count.ensures.counted

-- the count is the one that the second load told
pub returns-clause-count : goal.returns-clause-count
returns-clause-count c =
    let t = c.count_now-count.ensures.view in
    let known = c.load_settled-known in
    counted_here _ (view known.new.pass) _ (view c.settled_up_to-settled.new.pass) _ known.result t.0 c.from.result
    known.ensures.view t.1 c.settled_up_to-settled.ensures.looked c.raise_to.ensures.raised
    c.count_now-count.result t.2

-- the looks stopped there
pub returns-clause-stops : goal.returns-clause-stops
returns-clause-stops c =
    let t = c.count_now-count.ensures.view in
    let known = c.load_settled-known in
    stops_here _ (view known.new.pass) _ (view c.settled_up_to-settled.new.pass) _ known.result t.0 c.from.result
    known.ensures.view t.1 c.settled_up_to-settled.ensures.looked c.raise_to.ensures.raised known.ensures.rises
    (let more = c.count_now-count.ensures.counted in let is = t.2 in omega arith)
    IsEnd c.settled_up_to-settled.result c.count_now-count.result c.settled_up_to-settled.ensures.stops

-- and a pass that is alone stops at marks only
pub returns-clause-alone : goal.returns-clause-alone
returns-clause-alone c alone =
    let t = c.count_now-count.ensures.view in
    let known = c.load_settled-known in
    let s = c.settled_up_to-settled.ensures in
    let still = alone_still _ (view known.new.pass) _ (view c.settled_up_to-settled.new.pass) _ known.result t.0
    c.from.result known.ensures.view t.1 s.looked c.raise_to.ensures.raised alone in
    stops_here _ (view known.new.pass) _ (view c.settled_up_to-settled.new.pass) _ known.result t.0 c.from.result
    known.ensures.view t.1 s.looked c.raise_to.ensures.raised known.ensures.rises
    (let more = c.count_now-count.ensures.counted in let is = t.2 in omega arith)
    IsMark c.settled_up_to-settled.result c.count_now-count.result (s.alone still)

-- the tail is as the second load found it
pub returns-clause-tail : goal.returns-clause-tail
returns-clause-tail c =
    let t = c.count_now-count.ensures.view in
    let tail = ap (λ (z : View). z.tail) t.1 in
    let known = ap (λ (z : View). z.learned.count) t.1 in
    let looked = c.settled_up_to-settled.ensures.looked.count in
    let raised = c.raise_to.ensures.raised.count in
    let count = t.2 in (
      t.0,
      ap (λ (z : View). z.tail) c.raise_to.ensures.raised.extends.frame
          ∙ ap (λ (z : View). z.tail) c.settled_up_to-settled.ensures.looked.extends.frame ∙ tail,
      sym t.2,
      omega arith,
    )

-- and the log ends where the looks stopped
pub returns-clause-ends : goal.returns-clause-ends
returns-clause-ends c alone =
    let t = c.count_now-count.ensures.view in
    let known = c.load_settled-known in
    let s = c.settled_up_to-settled.ensures in
    let still = alone_still _ (view known.new.pass) _ (view c.settled_up_to-settled.new.pass) _ known.result t.0
    c.from.result known.ensures.view t.1 s.looked c.raise_to.ensures.raised alone in
    ends_later _ _ _ _ c.raise_to.ensures.raised.extends.learns (s.ends still)

-- the looks begin at or after what was settled
pub returns-clause-rises : goal.returns-clause-rises
returns-clause-rises c =
    let up = c.load_settled-known.ensures.rises in
    let first = c.max-first.ensures in
    let count = c.count_now-count.ensures.settled in
    let known = ap (λ (z : View). z.learned.settled) c.load_settled-known.ensures.view in
    let upto = c.settled_up_to-settled.ensures.from in
    omega arith

-- the looks keep the list that began at the second load, and the raise leaves it
pub returns-clause-opens : goal.returns-clause-opens
returns-clause-opens c =
    let h = c.settled_up_to-settled.ensures.looked.opens _ c.count_now-count.ensures.opens in
    record {
      last = h.last;
      before = h.before;
      opens = c.raise_to.ensures.raised.opens ∙ h.opens;
      count_is = h.count_is;
      listed = h.listed;
    }

-- and where no lane is out the tail is where the pass knows it to be
pub returns-clause-rests : goal.returns-clause-rests
returns-clause-rests c alone =
    let known = c.load_settled-known.ensures.view in
    subst (IsTailCount c.count_now-count.result) (ap (λ (z : View). z.tail) known)
    (c.count_now-count.ensures.rests (ap (λ (z : View). z.lane) known ∙ alone.control) (ap (λ (z : View). z.out) known ∙ alone.all))
