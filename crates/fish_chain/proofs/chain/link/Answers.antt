-- The place is that of the next entry, and each turn comes nearer to it.
use Rattle.std.proofs.Common.{◌∙◌, arith, Some, None}
use Rattle.fish_chain.proofs.Changes.{for_each}
use Rattle.fish_chain.proofs.Climbing.{below_tried, below_under, line_low, link_next, place_kept}
use Rattle.fish_chain.specs.Links.{IsLinked, with_linked}
use Rattle.fish_chain.specs.within.Links.{Tried}
use Rattle.fish_rule.specs.Passes.{view}
use Rattle.fish_rule.specs.declared.view.Flight.{Flight}
use Rattle.fish_chain.proofs.chain.link.Goals as goal

pub place_of-place-requires-clause-line : goal.place_of-place-requires-clause-line
place_of-place-requires-clause-line c =
    let low = line_low _ _ c.requires.view.0 _ c.in-Some.region c.requires.pass.about c.requires.pass.stands
    c.requires.view.1.filled.flying c.in_flight.ensures c.in-Some.is in
    omega arith

pub splice_up-requires-clause-view : goal.splice_up-requires-clause-view
splice_up-requires-clause-view c =
    let f : Flight = c.requires.view.0 in
    let can = c.requires.view.1 in
    let s = c.loop-next.invariant.below f can.filled.flying in
    let at = c.place_of-place.ensures ∙ place_kept
    (view c.args.pass.now) f c.in_flight.result c.in-Some.region c.args.key c.from.result can.filled.flying
    c.in_flight.ensures c.in-Some.is can.next c.from.ensures in
    (with_linked f s.words f.linked, (c.args.bucket, below_under _ _ f _ _ (link_next _ f _ _ can) s _ at))

pub loop-next-preserved : goal.loop-next-preserved
loop-next-preserved c =
    let v = view c.args.pass.now in
    let f : Flight = c.requires.view.0 in
    let can = c.requires.view.1 in
    let next = link_next v f c.args.key c.args.bucket can in
    let s = c.loop-next.invariant.below f can.filled.flying in
    let w = view c.splice_up.new.pass in
    let o = Some c.in-Some-splice_up.next in
    let at = c.place_of-place.ensures
    ∙ place_kept v f c.in_flight.result c.in-Some.region c.args.key c.from.result can.filled.flying
    c.in_flight.ensures c.in-Some.is can.next c.from.ensures in
    let tried = c.in-Some-splice_up.ensures.tried (with_linked f s.words f.linked) c.args.bucket
    (below_under _ _ f _ _ next s _ at) in
    record {
      of = c.splice_up.ensures.pass;
      below = for_each v f (λ (z : Flight). Tried v z c.args.bucket o w) can.filled.flying
          (below_tried _ _ f _ _ next s o w tried);
    }

pub returns-clause-linked : goal.returns-clause-linked
returns-clause-linked c =
    let v = view c.args.pass.now in
    let f : Flight = c.requires.view.0 in
    let can = c.requires.view.1 in
    let next = link_next v f c.args.key c.args.bucket can in
    let s = c.loop-next.invariant.below f can.filled.flying in
    let w = view c.splice_up.new.pass in
    let at = c.place_of-place.ensures
    ∙ place_kept v f c.in_flight.result c.in-Some.region c.args.key c.from.result can.filled.flying
    c.in_flight.ensures c.in-Some.is can.next c.from.ensures in
    let tried = c.in_default-splice_up.ensures.tried (with_linked f s.words f.linked) c.args.bucket
    (below_under _ _ f _ _ next s _ at) in
    for_each v f (λ (z : Flight). IsLinked v z c.args.bucket w) can.filled.flying
    (below_tried _ _ f _ _ next s None w tried)
