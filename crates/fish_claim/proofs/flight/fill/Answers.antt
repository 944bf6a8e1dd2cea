-- Each word is the next one, and with the last the record is ready.
use Rattle.std.proofs.Common.{◌≡◌, ℕ, ◌+◌, ◌-◌, ◌*◌, ◌<◌, ◌≤◌, length, take, sym, ap, ◌∙◌, arith, subst, Some, List}
use Rattle.std.proofs.Common.{take_all}
use Rattle.std.proofs.lemmas.List.{length-take-le}
use Rattle.fish_claim.proofs.Fills.{can_store_next, filled_more, in_region, is_filled}
use Rattle.fish_claim.specs.Fills.{IsFilled, filled_view, with_words}
use Rattle.fish_rule.proofs.laws.Steps.{flight_law}
use Rattle.fish_rule.specs.Passes.{view}
use Rattle.fish_rule.specs.World.{log_at}
use Rattle.fish_rule.specs.declared.table.Region.{Region}
use Rattle.fish_rule.specs.declared.view.Flight.{Flight}
use Rattle.fish_rule.specs.declared.view.View.{View}
use Rattle.fish_claim.proofs.flight.fill.Goals as goal

pub store_at-requires-clause-view : goal.store_at-requires-clause-view
store_at-requires-clause-view c =
    let f : Flight = c.requires.view.0 in
    let can = c.requires.view.1 in
    let i : ℕ = c.loop-offset.offset in
    let words : List ℕ = c.args.body.now in
    let less : i < length words = omega arith in
    let many : length (take i words) ≡ i = length-take-le i words (omega arith) in
    let line = in_region (view c.args.pass.now).flight f c.in-Some.region can.flying
    (sym c.in-Some.is ∙ c.in_flight.ensures) in (
      with_words f (take i words),
      can_store_next (view c.args.pass.now) f words can (view c.loop-offset.pass) i
          (c.loop-offset.invariant.known f can.flying) many less,
      ap (λ (z : ℕ). log_at c.args.log.now.key + (z * 4 - c.args.log.now.key.line * 4)) (ap (λ (r : Region). r.line) line)
          ∙ sym c.region_index-first.ensures,
      many,
    )

-- the region lies after the table's first line
pub region_index-first-requires : goal.region_index-first-requires
region_index-first-requires c =
    let f : Flight = c.requires.view.0 in
    let can = c.requires.view.1 in
    let log = c.args.log.now in
    let v = view c.args.pass.now in
    let line = ap (λ (r : Region). r.line) (in_region v.flight f c.in-Some.region can.flying
    (sym c.in-Some.is ∙ c.in_flight.ensures)) in
    let law = flight_law log.key v f c.requires.pass.about c.requires.pass.stands can.flying in
    let behind : log.key.line ≤ f.line = law.behind in
    let below : f.line + f.lines < 68719476736 = law.low_line in
    let low : f.line < 68719476736 = omega arith in
    (subst (λ (z : ℕ). log.key.line ≤ z) line behind, subst (λ (z : ℕ). z < 68719476736) line low)

pub loop-offset-preserved : goal.loop-offset-preserved
loop-offset-preserved c =
    let f : Flight = c.requires.view.0 in
    let can = c.requires.view.1 in
    let i : ℕ = c.loop-offset.offset in
    let words : List ℕ = c.args.body.now in
    let is = c.loop-offset.invariant.known f can.flying in
    let stored = c.store_at.ensures.view (with_words f (take i words)) (ap (λ (z : View). z.flight) is) in
    record {
      of = c.store_at.ensures.pass;
      known = λ g flying.
          let same : f ≡ g = (let e : Some f ≡ Some g = sym can.flying ∙ flying in cc) in
          filled_more (view c.args.pass.now) f words can (view c.loop-offset.pass)
          (view c.store_at.new.pass) i is (omega arith) stored
          ∙ ap (λ (z : Flight). filled_view (view c.args.pass.now) z (take (i + 1) words)) same;
    }

pub returns-clause-filled : goal.returns-clause-filled
returns-clause-filled c g flying =
    let f : Flight = c.requires.view.0 in
    let can = c.requires.view.1 in
    let words : List ℕ = c.args.body.now in
    let all : take c.loop-offset.offset words ≡ words = take_all c.loop-offset.offset words (omega arith) in
    let same : f ≡ g = (let e : Some f ≡ Some g = sym can.flying ∙ flying in cc) in
    subst (λ (z : Flight). IsFilled (view c.loop-offset.pass) (with_words z words)) same
    (is_filled (view c.args.pass.now) f words can (view c.loop-offset.pass)
    (c.loop-offset.invariant.known f can.flying ∙ ap (filled_view (view c.args.pass.now) f) all))
