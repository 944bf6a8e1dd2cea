-- The first queue, and the others.
use Rattle.std.proofs.Common.{rules, ◌≡◌, ◌∷◌, List, length, subst}
use Rattle.fish_feed.proofs.Giving.{closed_all, no_elements, pairs_none}
use Rattle.fish_feed.specs.Queues.{MayEndFeed}
use Rattle.fish_feed.specs.Works.{AreFirstOf, Triples}
use Rattle.fish_feed.specs.declared.queue.Queue.{Queue}
use Rattle.fish_feed.proofs.queue.+close.Goals as goal

pub returns-in_default-clause-first : goal.returns-in_default-clause-first
returns-in_default-clause-first g t c = λ texts given h.
    let old = g.H.Host.files c.args.host.now in
    let R = MayEndFeed old g.H.Feed.Source.left in
    let few : length c.args.queues.now ≡ 0 = search rules in
    pairs_none R (AreFirstOf old) texts given
    (subst (λ (z : List (Queue g.row.H-Feed.Denot)). Triples R texts given z) (no_elements c.args.queues.now few) h)

pub returns-clause-first : goal.returns-clause-first
returns-clause-first g t c = λ texts given h.
    let left = g.H.Feed.Source.left in
    let old = g.H.Host.files c.args.host.now in
    let mid = g.H.Host.files c.close_one.new.host in
    let new = g.H.Host.files c.close.new.host in
    let q = c.in-Some.queue.now in
    let qs = c.in-Some.others.now in
    let all : c.args.queues.now ≡ q ∷ qs = search rules in
    closed_all left old mid new c.close_one.ensures.content c.close.ensures.content q qs c.close_one.ensures.first
    c.close.ensures.first texts
    given (subst (λ (z : List (Queue g.row.H-Feed.Denot)). Triples (MayEndFeed old left) texts given z) all h)
