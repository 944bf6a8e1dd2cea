-- The words that were read come after those that the checker has seen.
use Rattle.std.proofs.Common.{◌∙◌}
use Rattle.std.proofs.lemmas.Option.{IfSome_then}
use Rattle.fish_recover.proofs.Feeding.{fed_not, fed_on, read_on}
use Rattle.fish_recover.proofs.lines.feed_lines.Goals as goal

pub returns-in-Ok-feed-clause-fed : goal.returns-in-Ok-feed-clause-fed
returns-in-Ok-feed-clause-fed g c = λ commit.
    let x = g.D.Disk.content c.read_words.new.disk in
    fed_on commit c.args.checker.now c.feed.new.self c.args.line c.args.count c.as_slice.result.now x
    (IfSome_then x c.in-Ok.ensures.words (λ i is. c.as_slice.ensures.value ∙ is)) (c.in-Ok-feed.ensures.fed commit)

pub returns-in-Ok-feed-clause-read : goal.returns-in-Ok-feed-clause-read
returns-in-Ok-feed-clause-read g c = λ commit.
    let b = c.in-Ok.ensures.read in
    read_on commit c.args.checker.now c.feed.new.self c.args.line c.args.count c.as_slice.result.now b.0 b.1
    (c.as_slice.ensures.value ∙ b.2) (c.in-Ok-feed.ensures.fed commit)

pub returns-in-Ok-clause-refused : goal.returns-in-Ok-clause-refused
returns-in-Ok-clause-refused g c = λ commit.
    let x = g.D.Disk.content c.read_words.new.disk in
    fed_not commit c.args.checker.now c.feed.new.self c.args.line c.args.count c.as_slice.result.now x c.in-Err-feed.refusal _
    (IfSome_then x c.in-Ok.ensures.words (λ i is. c.as_slice.ensures.value ∙ is)) (c.in-Err-feed.ensures.fed commit) c.refusal_of.ensures
