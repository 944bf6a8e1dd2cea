-- Works may follow those that were given, whatever was open.
use Rattle.std.proofs.Common.{rules, ◌≡◌, None, Some}
use Rattle.fish_feed.proofs.Giving.{first_of_end}
use Rattle.fish_feed.proofs.Told.{still_self}
use Rattle.fish_feed.proofs.queue.close_one.Goals as goal

pub returns-in-Some-clause-first : goal.returns-in-Some-clause-first
returns-in-Some-clause-first g c = λ ss given h.
    let o = c.in-Some.file in
    let is : c.args.queue.now.current ≡ Some o = search rules in
    first_of_end g.H.Feed.Source.left (g.H.Host.files c.args.host.now) (g.H.Host.files c.close_file.new.host) c.close_file.ensures.content
    ss given c.args.queue.now (Some o) is c.close_file.ensures.feed h

pub returns-in-None-clause-first : goal.returns-in-None-clause-first
returns-in-None-clause-first g c = λ ss given h.
    let is : c.args.queue.now.current ≡ None = search rules in
    first_of_end g.H.Feed.Source.left (g.H.Host.files c.args.host.now) (g.H.Host.files c.args.host.now)
    (still_self (g.H.Host.files c.args.host.now)) ss given c.args.queue.now None is tt h
