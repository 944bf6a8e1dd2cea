-- What came in each step came in all, and what was lost was so in the last one.
use Rattle.fish_feed.proofs.Reading.{on_after, on_none, on_read, read_both}
use Rattle.fish_feed.proofs.part.read_ahead.Goals as goal

pub returns-then-file-clause-on : goal.returns-then-file-clause-on
returns-then-file-clause-on g c = on_none g.F.Source.left c.args.file.now

pub returns-then-file-2-clause-on : goal.returns-then-file-2-clause-on
returns-then-file-2-clause-on g c = on_none g.F.Source.left c.args.file.now

pub returns-in_err-read_some-clause-on : goal.returns-in_err-read_some-clause-on
returns-in_err-read_some-clause-on g c =
    on_after g.F.Source.left c.args.file.now c.loop-file.file c.read_some.new.file c.loop-file.invariant.read
    c.in_err-read_some.ensures.on

pub returns-in-None-clause-read : goal.returns-in-None-clause-read
returns-in-None-clause-read g c =
    read_both g.F.Source.left c.args.file.now c.loop-file.file c.read_some.new.file c.loop-file.invariant.read
    c.in_ok-read_some.ensures.read

pub returns-in-None-clause-on : goal.returns-in-None-clause-on
returns-in-None-clause-on g c =
    let left = g.F.Source.left in
    let o = c.args.file.now in
    let u = c.read_some.new.file in
    on_read left o u (read_both left o c.loop-file.file u c.loop-file.invariant.read c.in_ok-read_some.ensures.read)
