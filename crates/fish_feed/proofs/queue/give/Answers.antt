-- What came of the files changes nothing in what is to be given.
use Rattle.std.proofs.Common.{◌∙◌, subst, sym}
use Rattle.std.proofs.lemmas.Result.{on_err_weaker, on_ok_weaker}
use Rattle.fish_feed.proofs.Ahead.{fit_on, left_on, queues_on}
use Rattle.fish_feed.specs.Queues.{GoesDown, left_of_all}
use Rattle.fish_feed.proofs.queue.give.Goals as goal

pub give_all-requires-clause-many : goal.give_all-requires-clause-many
give_all-requires-clause-many g c κs within = c.requires.many ∙ sym c.read_all_on.ensures.on.many

pub give_all-requires-clause-fit : goal.give_all-requires-clause-fit
give_all-requires-clause-fit g c κs within = (
  c.requires.fit.0,
  fit_on g.H.Feed.Source.left g.H.Feed.Source.faults c.requires.fit.0 c.args.queues.now c.read_all_on.new.queues
      c.read_all_on.ensures.on c.requires.fit.1,
)

pub returns-clause-gives : goal.returns-clause-gives
returns-clause-gives g c =
    let left = g.H.Feed.Source.left in
    let faults = g.H.Feed.Source.faults in
    let told = g.H.Host.files c.args.host.now in
    let old = c.args.queues.now in
    let on = c.read_all_on.ensures.on in
    let ahead = c.read_all_on.new.queues in
    let gives = c.give_all.ensures.gives in
    record {
      given = on_ok_weaker c.give_all.result
          (λ all texts given h. all texts given (queues_on left faults told old ahead on texts given h)) gives.given;
      failed = on_err_weaker c.give_all.result
          (λ all texts given h. all texts given (queues_on left faults told old ahead on texts given h)) gives.failed;
      got = gives.got;
      fit = λ first h. gives.fit first (fit_on left faults first old ahead on h);
      less = on_ok_weaker c.give_all.result
          (λ less. subst (λ (n : _). GoesDown n (left_of_all c.give_all.new.queues)) (left_on left faults old ahead on) less) gives.less;
    }
