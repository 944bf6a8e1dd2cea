-- The first lane, and the others.
use Rattle.std.proofs.Common.{rules, ◌≡◌, ◌∷◌, List, ap, arith, length, subst, sym}
use Rattle.fish_feed.proofs.Giving.{both_none, idle_given, idle_may, no_elements}
use Rattle.fish_feed.proofs.GivingAll.{causes_all, gives_all}
use Rattle.fish_feed.specs.Giving.{GivesWorks}
use Rattle.fish_feed.specs.Queues.{IsQueue, both, left_of_all, works_of}
use Rattle.fish_feed.specs.Works.{Triples}
use Rattle.fish_feed.specs.declared.queue.Queue.{Queue}
use Rattle.fish_lanes.specs.declared.lane.Lane.{Lane}
use Rattle.fish_outside.specs.Reading.{HasReadCause}
use Rattle.fish_feed.proofs.queue.+give_all.Goals as goal

pub returns-in_default-clause-gives : goal.returns-in_default-clause-gives
returns-in_default-clause-gives g t c =
    let R = IsQueue (g.H.Host.files c.args.host.now) g.H.Feed.Source.left in
    let lanes = c.args.lanes.now in
    let few : length c.args.queues.now ≡ 0 = search rules in
    let none = no_elements c.args.queues.now few in
    let nothing : left_of_all c.args.queues.now ≡ 0 = ap left_of_all none in
    record {
      given = λ texts given h. subst (λ (z : List (Queue g.row.H-Feed.Denot)). Triples R texts (both given (works_of lanes)) z) (sym none)
          (both_none R texts given (works_of lanes) (subst (λ (z : List (Queue g.row.H-Feed.Denot)). Triples R texts given z) none h));
      failed = tt;
      got = idle_given lanes c.requires.empty;
      fit = λ first h. (h, idle_may first lanes c.requires.empty);
      less = record { down = omega arith; falls = λ some. absurd (omega (some, nothing, arith)) };
    }

-- what the two calls leave is what this one does, and the answer is that of the first refusal
pub returns-clause-gives : goal.returns-clause-gives
returns-clause-gives g t c =
    let left = g.H.Feed.Source.left in
    let faults = g.H.Feed.Source.faults in
    let old = g.H.Host.files c.args.host.now in
    let mid = g.H.Host.files c.give_one-first.new.host in
    let new = g.H.Host.files c.give_all-others.new.host in
    let q = c.in-Some.queue.now in
    let qs = c.in-Some.other_queues.now in
    let r = c.give_one-first.new.queue in
    let rs = c.give_all-others.new.queues in
    let x = c.in-Some-split_first_mut.lane.now in
    let xs = c.in-Some-split_first_mut.other_lanes.now in
    let y = c.give_one-first.new.lane in
    let ys = c.give_all-others.new.lanes in
    let all : c.args.queues.now ≡ q ∷ qs = search rules in
    let all_lanes : c.args.lanes.now ≡ x ∷ xs = search rules in
    let one = c.give_one-first.ensures in
    let others = c.give_all-others.ensures in
    subst (λ (z : List (Queue g.row.H-Feed.Denot)). GivesWorks left faults old new z (r ∷ rs) c.args.lanes.now (y ∷ ys) c.and.result)
    (sym all)
    (subst (λ (z : List Lane). GivesWorks left faults old new (q ∷ qs) (r ∷ rs) z (y ∷ ys) c.and.result) (sym all_lanes)
    (subst (GivesWorks left faults old new (q ∷ qs) (r ∷ rs) (x ∷ xs) (y ∷ ys)) (sym c.and.ensures)
    (gives_all left faults old mid new one.content others.content q r qs rs x y xs ys c.give_one-first.result
    c.give_all-others.result one.given one.failed one.lane one.fit one.less others.gives)))

-- and of the count of faults
pub returns-clause-cause : goal.returns-clause-cause
returns-clause-cause g t c =
    let before = g.H.Host.faults c.args.host.now in
    let now = g.H.Host.faults c.give_all-others.new.host in
    subst (HasReadCause before now) (sym c.and.ensures)
    (causes_all before (g.H.Host.faults c.give_one-first.new.host) now c.give_one-first.result c.give_all-others.result
    c.give_one-first.ensures.cause c.give_all-others.ensures.cause)
