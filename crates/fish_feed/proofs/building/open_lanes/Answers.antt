-- One lane more.
use Rattle.std.proofs.Common.{◌≡◌, ◌+◌, ◌<◌, ◌++◌, ◌∷◌, ◌∙◌, [], List, ap, arith, length, subst, sym, take, true}
use Rattle.std.proofs.lemmas.List.{take_all, take_more}
use Rattle.fish_feed.proofs.Fit.{fit_push, is_first}
use Rattle.fish_feed.proofs.Lists.{get_at, pairs_length, pairs_push, take_length}
use Rattle.fish_feed.proofs.Giving.{cause_after, failed_too}
use Rattle.fish_feed.proofs.Opening.{AreOpened, opened_later, some_before}
use Rattle.fish_feed.specs.Queues.{AreFit, IsQueue}
use Rattle.fish_feed.specs.declared.queue.Queue.{Queue}
use Rattle.fish_outside.proofs.ContentLemmas.{SameFiles_trans}
use Rattle.fish_outside.specs.declared.fault.FeedRefusal.TheVariants.{Failed}
use Rattle.fish_script.specs.Script.{AreFree}
use Rattle.fish_script.specs.declared.script.Statement.{Statement}
use Rattle.fish_feed.proofs.building.open_lanes.Goals as goal

pub returns-in-Err-clause-content : goal.returns-in-Err-clause-content
returns-in-Err-clause-content g c = SameFiles_trans (g.H.Host.files c.args.host.now) (g.H.Host.files c.loop-text.host)
    (g.H.Host.files c.open_lane.new.host) c.loop-text.invariant.told c.open_lane.ensures.content

pub returns-in-Err-clause-cause : goal.returns-in-Err-clause-cause
returns-in-Err-clause-cause g c =
    let mine = cause_after (g.H.Host.faults c.args.host.now) (g.H.Host.faults c.loop-text.host)
    (g.H.Host.faults c.open_lane.new.host) c.open_lane.result c.loop-text.invariant.later c.open_lane.ensures.cause in
    record {
      later = mine.later;
      failed = λ is. mine.failed (failed_too c.open_lane.result c.in-Err.refusal c.in-Err.is
          (let same : c.in-Err.refusal ≡ Failed = cc in same));
    }

pub returns-in-Err-push-clause-content : goal.returns-in-Err-push-clause-content
returns-in-Err-push-clause-content g c = SameFiles_trans (g.H.Host.files c.args.host.now) (g.H.Host.files c.loop-text.host)
    (g.H.Host.files c.open_lane.new.host) c.loop-text.invariant.told c.open_lane.ensures.content

pub returns-in-Err-push-clause-cause : goal.returns-in-Err-push-clause-cause
returns-in-Err-push-clause-cause g c =
    let later = c.loop-text.invariant.later in
    let then = c.open_lane.ensures.cause.later in
    record { later = omega (later, then, arith); failed = λ is. absurd cc }

pub loop-text-preserved : goal.loop-text-preserved
loop-text-preserved g c =
    let inv = c.loop-text.invariant in
    let i = c.loop-text.text-index in
    let left = g.H.Feed.Source.left in
    let faults = g.H.Feed.Source.faults in
    let texts = c.args.texts.now in
    let ss : List Statement = c.text-item.result in
    let queues = c.loop-text.queues.items in
    let q = c.in-Ok.queue in
    let was = g.H.Host.files c.args.host.now in
    let old = g.H.Host.files c.loop-text.host in
    let new = g.H.Host.files c.open_lane.new.host in
    let later = inv.later in
    let then = c.open_lane.ensures.cause.later in
    let test = c.loop-text-test.true in
    let next : take (i + 1) texts ≡ take i texts ++ ss ∷ [] = take_more texts i ss test
    ∙ ap (λ (z : List Statement). take i texts ++ z ∷ []) (sym c.text-item.is) in
    let pushed : c.push.new.self.items ≡ queues ++ q ∷ [] = c.in-Ok-push.ensures.items in
    let before : AreOpened new left (take i texts) queues = opened_later left old new c.open_lane.ensures.content (take i texts) queues
    inv.queues in
    let many : length queues ≡ i = pairs_length (λ (x : List Statement) (y : Queue g.row.H-Feed.Denot). IsQueue new left x [] y)
    (take i texts) queues before ∙ take_length i texts (omega (test, arith)) in
    let at = get_at texts i ss test c.text-item.is in
    let here : IsQueue new left ss [] q =
    subst (λ (z : List Statement). IsQueue new left z [] q) c.as_slice.ensures c.in-Ok.ensures.queue in
    record {
      queues = subst (λ (z : List (List Statement) × List (Queue g.row.H-Feed.Denot)). AreOpened new left z.0 z.1)
          (λ j. (sym next j, sym pushed j))
          (pairs_push (λ (x : List Statement) (y : Queue g.row.H-Feed.Denot). IsQueue new left x [] y) (take i texts) queues ss q before
          here);
      fit = subst (λ (z : List (Queue g.row.H-Feed.Denot)). AreFit faults true z) (sym pushed)
          (fit_push faults true queues q inv.fit (c.in-Ok.ensures.fit (is_first true queues)
          (λ no.
          let some = some_before queues no in
          let after : 0 < i = omega (some, many, arith) in
          subst AreFree (sym c.as_slice.ensures) (c.requires.free i ss after at))));
      told = SameFiles_trans was old new inv.told c.open_lane.ensures.content;
      later = omega (later, then, arith);
    }

pub returns-clause-queues : goal.returns-clause-queues
returns-clause-queues g c =
    let texts = c.args.texts.now in
    let new = g.H.Host.files c.loop-text.host in
    let test = c.loop-text-test.false in
    let all : take c.loop-text.text-index texts ≡ texts = take_all c.loop-text.text-index texts test in
    subst (λ (z : List (List Statement)). AreOpened new g.H.Feed.Source.left z c.loop-text.queues.items) all
    c.loop-text.invariant.queues

pub returns-clause-cause : goal.returns-clause-cause
returns-clause-cause g c = record { later = c.loop-text.invariant.later; failed = λ is. absurd cc }
