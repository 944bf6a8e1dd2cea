-- The end of the interval is taken where it lies between the old one and `end`, and else the old one stays.
use Rattle.std.proofs.Common.{◌≡◌, ◌-◌, Some, None, inr, sym, ◌∙◌, arith}
use Rattle.std.proofs.lemmas.Option.{same_Some}
use Rattle.fish_plan.proofs.Walks.{below_some, low_kept, low_more, some_above}
use Rattle.fish_plan.proofs.lookup.raised.Goals as goal

pub returns-in-Some : goal.returns-in-Some
returns-in-Some c xs from short h =
    low_more xs c.args.interval.now from c.args.end c.args.low c.in-Some.to h (omega (arith, c.if-low-to.true))
    c.if-to-end.true
    (inr (record {
      begun = omega (arith, c.if-interval-to.true);
      open_still = below_some (c.in-Some.to - 1) c.in-Some.to c.args.interval.now.to c.in-Some.is (omega (arith, c.if-interval-to.true));
    }))
    (λ n least most held. omega (arith, some_above n c.in-Some.to c.args.interval.now.to c.in-Some.is held.open_still))

pub returns-in_default : goal.returns-in_default
returns-in_default c xs from short h = low_kept xs c.args.interval.now from c.args.end c.args.low short
    (λ to is some less. let e : to ≡ c.in-Some.to = same_Some to c.in-Some.to (sym is ∙ c.in-Some.is) in
    absurd (omega (arith, c.if-to-end.false))) h

pub returns-in_default-2 : goal.returns-in_default-2
returns-in_default-2 c xs from short h = low_kept xs c.args.interval.now from c.args.end c.args.low short
    (λ to is some less. let e : to ≡ c.in-Some.to = same_Some to c.in-Some.to (sym is ∙ c.in-Some.is) in
    omega (arith, c.if-low-to.false)) h

pub returns-in_default-3 : goal.returns-in_default-3
returns-in_default-3 c xs from short h = low_kept xs c.args.interval.now from c.args.end c.args.low short
    (λ to is some less. let e : to ≡ c.in-Some.to = same_Some to c.in-Some.to (sym is ∙ c.in-Some.is) in
    absurd (omega (arith, c.if-interval-to.false))) h

pub returns-in_default-4 : goal.returns-in_default-4
returns-in_default-4 c xs from short h = low_kept xs c.args.interval.now from c.args.end c.args.low short
    (λ to is some less. absurd (let no : None ≡ Some to = sym c.in_default.is ∙ is in cc)) h
