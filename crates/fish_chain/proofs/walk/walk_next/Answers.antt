-- Each turn passes an entry outside the range, or gives the next one of it.
use Rattle.std.proofs.Common.{◌<◌, ◌≤◌, ◌⊎◌, inl, inr, sym, refl, ap, subst, arith}
use Rattle.std.proofs.Math.Decide.{dec_lt}
use Rattle.fish_chain.proofs.Descents.{behind_known, clear_past, clear_same, given_next, gone_on, looked_node}
use Rattle.fish_chain.proofs.Descents.{next_same, numbered, passed_at, passed_by, past_known, stands_at}
use Rattle.fish_chain.proofs.Passing.{below_or_on, bounded_ended, bounded_given, passed_last, passed_more}
use Rattle.fish_rule.proofs.laws.Learning.{extends_both}
use Rattle.fish_chain.specs.Walks.{IsNextNode, IsPastPlace, IsWalking}
use Rattle.fish_chain.specs.declared.walk.Node.{Node}
use Rattle.fish_layout.specs.Entry.{entry_number}
use Rattle.fish_rule.specs.Logs.{Extends}
use Rattle.fish_rule.specs.Passes.{view, walk_of}
use Rattle.fish_rule.specs.ChainFacts.{Always, IsClear}
use Rattle.fish_rule.specs.declared.table.Walk.{Walk}
use Rattle.fish_rule.specs.declared.view.View.{View}
use Rattle.fish_chain.proofs.walk.walk_next.Goals.{else-walk-from-via-then-walk-from+else-from-walk}
use Rattle.fish_chain.proofs.walk.walk_next.Goals.{else-walk-from-via-else-walk-from}
use Rattle.fish_chain.proofs.walk.walk_next.Goals as goal

pub load_node-entry-requires-clause-node : goal.load_node-entry-requires-clause-node
load_node-entry-requires-clause-node g c =
    let walk = c.loop-walk.walk in
    let test = c.loop-walk-test.true in
    let line = c.base-past.ensures.1 in
    let behind = behind_known c.args.log.now.key (view c.loop-walk.pass) walk.place c.loop-walk.invariant.of.about
    (omega arith) in
    (walk.bucket, (stands_at (view c.loop-walk.pass) walk c.loop-walk.invariant.walking behind).0)

pub place_below-requires-clause-label : goal.place_below-requires-clause-label
place_below-requires-clause-label g c =
    numbered (view c.loop-walk.pass) (view c.load_node-entry.new.pass) c.loop-walk.walk.place c.load_node-entry.result
    c.number_in-number.result c.load_node-entry.ensures.view c.number_in-number.ensures.value

pub returns-then-from-walk-clause-pass : goal.returns-then-from-walk-clause-pass
returns-then-from-walk-clause-pass g c = c.keep_walk.ensures.pass c.args.log.now c.place_below.ensures.pass

pub returns-then-from-walk-clause-extends : goal.returns-then-from-walk-clause-extends
returns-then-from-walk-clause-extends g c =
    let v = view c.loop-walk.pass in
    let u = view c.load_node-entry.new.pass in
    let t = view c.place_below.new.pass in
    let turn = extends_both v u t (looked_node v u c.loop-walk.walk.place c.load_node-entry.result
    c.load_node-entry.ensures.view) c.place_below.ensures.extends in
    subst (Extends (view c.args.pass.now)) (sym c.keep_walk.ensures.view)
    (extends_both _ v t c.loop-walk.invariant.extends turn)

pub returns-then-from-walk-clause-walking : goal.returns-then-from-walk-clause-walking
returns-then-from-walk-clause-walking g c =
    let test = c.loop-walk-test.true in
    let line = c.base-past.ensures.1 in
    let behind = behind_known c.args.log.now.key (view c.loop-walk.pass) c.loop-walk.walk.place
    c.loop-walk.invariant.of.about (omega arith) in
    subst (λ (z : View × Walk). IsWalking z.0 z.1)
    (λ i. (sym c.keep_walk.ensures.view i, sym c.keep_walk.ensures.walk i))
    (gone_on (view c.loop-walk.pass) (view c.load_node-entry.new.pass) (view c.place_below.new.pass)
    c.loop-walk.walk c.load_node-entry.result c.place_below.result c.loop-walk.invariant.walking behind
    c.load_node-entry.ensures.view c.place_below.ensures.extends c.place_below.ensures.below)

pub returns-then-from-walk-clause-gave : goal.returns-then-from-walk-clause-gave
returns-then-from-walk-clause-gave g c =
    let test = c.loop-walk-test.true in
    let inv = c.loop-walk.invariant in
    let line = c.base-past.ensures.1 in
    let behind = behind_known c.args.log.now.key (view c.loop-walk.pass) c.loop-walk.walk.place inv.of.about (omega arith) in
    let number = c.from.ensures in
    let again = c.from-then-walk-from.ensures in
    let node : Node = record {
      number = c.number_in-number.result;
      place = c.loop-walk.walk.place;
      id = c.id_in.result;
      key = c.place_in.result;
    } in
    let next = given_next (view c.loop-walk.pass) (view c.load_node-entry.new.pass) (view c.place_below.new.pass)
    c.loop-walk.walk c.load_node-entry.result c.place_below.result inv.walking behind
    c.load_node-entry.ensures.view c.place_below.ensures.extends c.place_below.ensures.below
    node c.number_in-number.ensures.value refl c.id_in.ensures c.place_in.ensures.value
    (omega (arith, c.if-walk-from.true)) (omega (arith, c.if-from-walk.true)) in (
      next_same (view c.keep_walk.new.pass) c.loop-walk.walk (walk_of c.args.pass.now) node inv.range inv.given
          (subst (λ (z : View). IsNextNode z c.loop-walk.walk node) (sym c.keep_walk.ensures.view) next),
      ap (λ (z : Walk). z.given) c.keep_walk.ensures.walk,
    )

pub loop-walk-preserved : goal.loop-walk-preserved
loop-walk-preserved g c =
    let inv = c.loop-walk.invariant in
    let v = view c.loop-walk.pass in
    let u = view c.load_node-entry.new.pass in
    let t = view c.place_below.new.pass in
    let test = c.loop-walk-test.true in
    let line = c.base-past.ensures.1 in
    let behind = behind_known c.args.log.now.key v c.loop-walk.walk.place inv.of.about (omega arith) in
    let seen = c.load_node-entry.ensures.view in
    let turn = extends_both v u t (looked_node v u c.loop-walk.walk.place c.load_node-entry.result seen)
    c.place_below.ensures.extends in
    let number = c.number_in-number.ensures.value in
    let from = c.from.ensures in
    let loads = ap (λ (z : View). z.clock.loads) seen in
    let tick = c.tick.ensures in
    let counted = c.place_below.ensures.counted in
    let before = inv.counted in
    let out : (entry_number c.load_node-entry.result < c.loop-walk.walk.from)
    ⊎ (c.loop-walk.walk.to ≤ entry_number c.load_node-entry.result) = elim c.else-walk-from.branch [
      | else-walk-from-via-then-walk-from+else-from-walk w ↦
          inr (let less = w.if-from-walk.false in let e = w.from-then-walk-from.ensures in omega arith)
      | else-walk-from-via-else-walk-from w ↦ inl (let less = w.if-walk-from.false in omega arith)
    ] in
    record {
      of = c.place_below.ensures.pass;
      extends = extends_both _ v t inv.extends turn;
      walking = passed_by v u t c.loop-walk.walk c.load_node-entry.result c.place_below.result inv.walking
          behind seen c.place_below.ensures.extends c.place_below.ensures.below out;
      range = record { bucket_is = inv.range.bucket_is; from_is = inv.range.from_is; to_is = inv.range.to_is };
      given = inv.given;
      few = below_or_on (dec_lt c.number_in-number.result c.loop-walk.walk.from)
          (λ less. let stop = c.place_below.ensures.stops less in let one = stop.1 in
          passed_last _ v t _ _ _ c.loop-walk.walk.place inv.few (omega arith) turn.learns c.place_below.result stop.0
          (omega arith))
          (λ on. let more = c.place_below.ensures.few in
          passed_more _ v t _ _ _ c.loop-walk.walk.place inv.few (omega arith) turn.learns c.place_below.result
          (passed_at v u t c.loop-walk.walk c.load_node-entry.result c.number_in-number.result _ _ inv.walking behind seen
          c.place_below.ensures.extends.learns number inv.range.bucket_is inv.range.from_is (omega arith))
          c.place_below.ensures.below.lower (omega arith));
      counted = omega arith;
    }

-- an entry of the range was passed
pub returns-then-from-walk-clause-few : goal.returns-then-from-walk-clause-few
returns-then-from-walk-clause-few g c =
    let inv = c.loop-walk.invariant in
    let v = view c.loop-walk.pass in
    let u = view c.load_node-entry.new.pass in
    let t = view c.place_below.new.pass in
    let test = c.loop-walk-test.true in
    let line = c.base-past.ensures.1 in
    let behind = behind_known c.args.log.now.key v c.loop-walk.walk.place inv.of.about (omega arith) in
    let seen = c.load_node-entry.ensures.view in
    let turn = extends_both v u t (looked_node v u c.loop-walk.walk.place c.load_node-entry.result seen)
    c.place_below.ensures.extends in
    let loads = ap (λ (z : View). z.clock.loads) seen in
    let more = c.place_below.ensures.few in
    let from = c.from.ensures in
    let within = c.if-walk-from.true in
    bounded_given _ v t (view c.keep_walk.new.pass) (walk_of c.args.pass.now) _ _ _ c.loop-walk.walk.place c.place_below.result
    _ _ inv.few (omega arith) turn.learns
    (passed_at v u t c.loop-walk.walk c.load_node-entry.result c.number_in-number.result _ _ inv.walking behind seen
    c.place_below.ensures.extends.learns c.number_in-number.ensures.value inv.range.bucket_is inv.range.from_is (omega arith))
    c.place_below.ensures.below.lower (omega arith) c.keep_walk.ensures.view refl refl refl
    (sym (ap (λ (z : Walk). z.place) c.keep_walk.ensures.walk))

-- and none was left
pub returns-clause-few : goal.returns-clause-few
returns-clause-few g c = bounded_ended _ (view c.loop-walk.pass) (view c.keep_walk-2.new.pass) (walk_of c.args.pass.now) _ _ _ _ _
    c.loop-walk.invariant.few c.keep_walk-2.ensures.view refl refl refl
    (sym (ap (λ (z : Walk). z.place) c.keep_walk-2.ensures.walk))

pub returns-clause-pass : goal.returns-clause-pass
returns-clause-pass g c = c.keep_walk-2.ensures.pass c.args.log.now c.loop-walk.invariant.of

pub returns-clause-gave : goal.returns-clause-gave
returns-clause-gave g c =
    let inv = c.loop-walk.invariant in
    let walk = c.loop-walk.walk in
    let v = view c.loop-walk.pass in
    let over = c.loop-walk-test.false in
    let line = c.base-past.ensures.1 in
    let past = past_known c.args.log.now.key v walk.place inv.of.about (omega arith) in
    let clear = clear_past v walk inv.walking past in (
      clear_same (view c.keep_walk-2.new.pass) walk (walk_of c.args.pass.now) 0 inv.range inv.given
          (subst (λ (z : View). Always z (IsClear walk.bucket walk.from walk.to walk.given 0))
          (sym c.keep_walk-2.ensures.view) clear),
      subst (λ (z : View × Walk). IsPastPlace z.0 z.1.place)
          (λ i. (sym c.keep_walk-2.ensures.view i, sym c.keep_walk-2.ensures.walk i)) past,
    )
