-- One statement more.
use Rattle.std.proofs.Common.{◌≡◌, ◌<◌, ◌≤◌, ◌++◌, ◌∷◌, ◌∙◌, [], List, None, Option}
use Rattle.std.proofs.Common.{Some, append-nil, ap, arith, inl, inr, refl, subst, sym, ⊎_elim}
use Rattle.std.specs.Prelude.{IfSome, is_some, option_to_list}
use Rattle.fish_feed.proofs.Fit.{anew_more, bytes_push, first_or_anew, given_more, may_push, may_queue, none_or_full}
use Rattle.fish_feed.proofs.Giving.{lane_with}
use Rattle.fish_feed.proofs.Told.{still_self}
use Rattle.fish_feed.specs.Queues.{IsQueue, MayDo, MayDoAll, MayEndFeed, left_of}
use Rattle.fish_feed.specs.Parts.{longest_csv_read}
use Rattle.fish_feed.specs.Works.{AreAnew, AreAnewAfterFirst, IsAnew, bytes_in_work, bytes_in_works}
use Rattle.fish_lanes.specs.declared.work.Work.{Work}
use Rattle.fish_outside.proofs.ContentLemmas.{SameFiles_trans}
use Rattle.fish_feed.proofs.queue.give_one.Goals as goal

pub loop-most-init : goal.loop-most-init
loop-most-init g c = record {
  given = λ ss given h. subst (λ (z : List Work). IsQueue (g.H.Host.files c.args.host.now) g.H.Feed.Source.left ss z c.args.queue.now)
      (sym (ap (λ (z : List Work). given ++ z) c.requires.empty ∙ append-nil given)) h;
  most = omega arith;
  lane = refl;
  fit = λ first h. (h, subst (MayDoAll first) (sym c.requires.empty) tt);
  one = subst AreAnewAfterFirst (sym c.requires.empty) tt;
  room = λ some. (let none = ap bytes_in_works c.requires.empty in omega (none, arith));
  few = (let none = ap bytes_in_works c.requires.empty in omega (none, arith));
  last = inl c.requires.empty;
  down = omega arith;
  falls = inl refl;
  told = still_self (g.H.Host.files c.args.host.now);
  later = omega arith;
}

pub next-requires-clause-fit : goal.next-requires-clause-fit
next-requires-clause-fit g c κs within =
    (c.requires.fit.0, (c.loop-most.invariant.fit c.requires.fit.0 c.requires.fit.1).0)

pub returns-in-Err-clause-failed : goal.returns-in-Err-clause-failed
returns-in-Err-clause-failed g c = λ ss given h.
    c.in-Err.ensures.failed ss (given ++ c.loop-most.lane.works) (c.loop-most.invariant.given ss given h)

pub returns-in-Err-clause-fit : goal.returns-in-Err-clause-fit
returns-in-Err-clause-fit g c = λ first h.
    let before = c.loop-most.invariant.fit first h in
    ((c.in-Err.ensures.fit first before.0).0, before.1)

pub loop-most-preserved : goal.loop-most-preserved
loop-most-preserved g c =
    let was = g.H.Host.files c.args.host.now in
    let mid = g.H.Host.files c.loop-most.host in
    let new = g.H.Host.files c.next.new.host in
    let left = g.H.Feed.Source.left in
    let works = c.loop-most.lane.works in
    let w = c.in-Ok-Some.work in
    let inv = c.loop-most.invariant in
    let q = c.next.new.queue in
    let is : c.in-Ok-Some.field-0 ≡ Some w = c.in-Ok-Some.field-0-is in
    let pushed : c.push.new.self ≡ works ++ w ∷ [] = c.in-Ok.ensures.ok in
    let took : (bytes_in_work w ≤ longest_csv_read) × (left_of q < left_of c.loop-most.queue) =
    subst (λ (z : Option Work). IfSome z (λ x. (bytes_in_work x ≤ longest_csv_read) × (left_of q < left_of c.loop-most.queue))) is
    c.in-Ok-Some.ensures.some in
    let less = took.1 in
    let size = took.0 in
    let sum = ap bytes_in_works pushed ∙ bytes_push works w in
    let down = inv.down in
    let sub = c.room_after-most.ensures.less in
    let test = c.loop-most-test.true in
    let anew : c.loop-most.queue.current ≡ None → IsAnew w = λ none.
    (subst (λ (o : Option Work). AreAnew (option_to_list o)) is
    ((c.in-Ok-Some.ensures.fit c.requires.fit.0 (inv.fit c.requires.fit.0 c.requires.fit.1).0).1.1 none)).0 in
    let most = inv.most in
    let cause = c.in-Ok-Some.ensures.cause.later in
    let later = inv.later in
    record {
      given = λ ss given h. subst (λ (z : List Work). IsQueue new left ss z q)
          (given_more given works c.push.new.self c.in-Ok-Some.field-0 w is pushed)
          (c.in-Ok-Some.ensures.given ss (given ++ works) (inv.given ss given h));
      most = omega (sub, most, arith);
      lane = lane_with c.loop-most.lane c.args.lane.now c.push.new.self inv.lane;
      fit = λ first h.
          let before = inv.fit first h in
          let one = c.in-Ok-Some.ensures.fit first before.0 in
          let may : MayDo first w = (subst (λ (o : Option Work). MayDoAll first (option_to_list o)) is one.1.0).0 in
          (one.0, subst (MayDoAll first) (sym pushed) (may_push first works w before.1 may));
      one = subst AreAnewAfterFirst (sym pushed)
          (anew_more works w inv.one (first_or_anew c.loop-most.most works c.loop-most.queue.current (IsAnew w) test anew inv.last));
      room = λ some.
          let used = c.room_after-most.ensures.used some in
          let room = inv.room test in
          omega (sum, used, room, arith);
      few = (let room = inv.room test in omega (sum, size, room, test, arith));
      last = inr (none_or_full q.current c.room_after-most.result (λ o open_is. c.room_after-most.ensures.part
          (c.is_some.ensures ∙ ap (λ (z : Option _). is_some z) open_is)));
      down = omega (less, down, arith);
      falls = inr (omega (less, down, arith));
      told = SameFiles_trans was mid new inv.told c.in-Ok-Some.ensures.content;
      later = omega (cause, later, arith);
    }

pub returns-in-Err-push-clause-failed : goal.returns-in-Err-push-clause-failed
returns-in-Err-push-clause-failed g c = λ ss given h.
    let new = g.H.Host.files c.next.new.host in
    let left = g.H.Feed.Source.left in
    let works = c.loop-most.lane.works in
    let q = c.next.new.queue in
    subst (λ (z : List Work). MayEndFeed new left ss (given ++ z) q) (sym c.in-Err-push.ensures.err)
    (may_queue new left ss (given ++ works) q (option_to_list c.in-Ok-Some.field-0)
    (c.in-Ok-Some.ensures.given ss (given ++ works) (c.loop-most.invariant.given ss given h)))

pub returns-in-Err-push-clause-fit : goal.returns-in-Err-push-clause-fit
returns-in-Err-push-clause-fit g c = λ first h.
    let before = c.loop-most.invariant.fit first h in
    ((c.in-Ok-Some.ensures.fit first before.0).0, subst (MayDoAll first) (sym c.in-Err-push.ensures.err) before.1)

pub returns-in-Ok-None-clause-given : goal.returns-in-Ok-None-clause-given
returns-in-Ok-None-clause-given g c = λ ss given h.
    let new = g.H.Host.files c.next.new.host in
    let left = g.H.Feed.Source.left in
    let works = c.loop-most.lane.works in
    subst (λ (z : List Work). IsQueue new left ss z c.next.new.queue)
    (ap (λ (o : Option Work). (given ++ works) ++ option_to_list o) c.in-Ok-None.field-0-is ∙ append-nil (given ++ works))
    (c.in-Ok-None.ensures.given ss (given ++ works) (c.loop-most.invariant.given ss given h))

pub returns-in-Ok-None-clause-fit : goal.returns-in-Ok-None-clause-fit
returns-in-Ok-None-clause-fit g c = λ first h.
    let before = c.loop-most.invariant.fit first h in
    ((c.in-Ok-None.ensures.fit first before.0).0, before.1)

pub returns-clause-given : goal.returns-clause-given
returns-clause-given g c = λ ss given h. c.loop-most.invariant.given ss given h

pub returns-clause-less : goal.returns-clause-less
returns-clause-less g c =
    let test = c.loop-most-test.false in
    let down = c.loop-most.invariant.down in
    record {
      down = down;
      falls = λ some. ⊎_elim (λ full. absurd (omega (full, test, arith))) (λ less. less) c.loop-most.invariant.falls;
    }
