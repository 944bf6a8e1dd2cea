-- The next statement, or what the file gives that is being read.
use Rattle.std.proofs.Common.{rules, ◌≡◌, ◌<◌, ◌++◌, ◌∙◌, List, None, append-nil, ap, arith, subst}
use Rattle.std.specs.Prelude.{IfSome, Option, Some, option_to_list}
use Rattle.fish_feed.proofs.Fit.{if_err, if_ok, stores_anew, stores_bytes}
use Rattle.fish_feed.specs.Queues.{IsQueue, MayDoAll, MayEndFeed, left_of}
use Rattle.fish_feed.specs.Works.{AreAnew, StoresNone}
use Rattle.fish_lanes.specs.declared.work.Work.{Work}
use Rattle.fish_script.specs.declared.script.Statement.{Statement}
use Rattle.fish_feed.proofs.queue.next.Goals as goal

pub read_open-requires-clause-fit : goal.read_open-requires-clause-fit
read_open-requires-clause-fit g c κs within = (c.requires.fit.0, (c.open_next.ensures.fit c.requires.fit.0 c.requires.fit.1).0)

pub returns-in_err-read_open-clause-failed : goal.returns-in_err-read_open-clause-failed
returns-in_err-read_open-clause-failed g c =
    let left = g.H.Feed.Source.left in
    let told = g.H.Host.files c.args.host.now in
    let m = c.open_next.new.queue in
    let none : c.open_next.result ≡ None = search rules in
    if_err c.from_residual.result ((ss : List Statement) (given : List Work) → IsQueue told left ss given c.args.queue.now
    → MayEndFeed (g.H.Host.files c.read_open.new.host) left ss given c.read_open.new.queue)
    (λ ss given h. c.in_err-read_open.ensures.failed ss given
    (subst (λ (z : List Work). IsQueue told left ss z m)
    (ap (λ (z : Option Work). given ++ option_to_list z) none ∙ append-nil given) (c.open_next.ensures.queue told ss given h)))

pub returns-in_err-read_open-clause-fit : goal.returns-in_err-read_open-clause-fit
returns-in_err-read_open-clause-fit g c = λ first h. (
  c.read_open.ensures.fit first (c.open_next.ensures.fit first h).0,
  if_ok c.from_residual.result (λ w. MayDoAll first (option_to_list w)
      × (c.args.queue.now.current ≡ None → AreAnew (option_to_list w))) c.from_residual.ensures.0,
)

pub returns-in-Some-clause-fit : goal.returns-in-Some-clause-fit
returns-in-Some-clause-fit g c = λ first h.
    let opened = c.open_next.ensures.fit first h in
    let is : c.open_next.result ≡ Some c.in-Some.work = search rules in (
      opened.0,
      (
        subst (λ (z : Option Work). MayDoAll first (option_to_list z)) is opened.1,
        λ none. (stores_anew c.in-Some.work (subst (λ (z : Option Work). IfSome z StoresNone) is opened.2), tt),
      ),
    )

pub returns-in-Some-clause-some : goal.returns-in-Some-clause-some
returns-in-Some-clause-some g c =
    let w = c.in-Some.work in
    let is : c.open_next.result ≡ Some w = search rules in
    let none = stores_bytes w (subst (λ (z : Option Work). IfSome z StoresNone) is
    (c.open_next.ensures.fit c.requires.fit.0 c.requires.fit.1).2) in (
      omega (none, arith),
      subst (λ (z : Option Work). IfSome z (λ _. left_of c.open_next.new.queue < left_of c.args.queue.now)) is c.open_next.ensures.some,
    )

pub returns-clause-some : goal.returns-clause-some
returns-clause-some g c =
    let less = c.in_ok-read_open.ensures.less in
    let down = c.open_next.ensures.down in
    (less.0, (let one = less.1 in omega (one, down, arith)))

pub returns-then-is_none-clause-fit : goal.returns-then-is_none-clause-fit
returns-then-is_none-clause-fit g c = λ first h. ((c.open_next.ensures.fit first h).0, (tt, λ none. tt))

pub returns-clause-fit : goal.returns-clause-fit
returns-clause-fit g c = λ first h.
    let opened = c.open_next.ensures.fit first h in
    let work = c.in_ok-read_open.ensures.work in
    (c.read_open.ensures.fit first opened.0, ((work.0 first, tt), λ none. (work.1 (opened.3 none), tt)))
