-- Whatever a piece comes to, the checker has seen some words of its commit.
use Rattle.fish_image.proofs.Pieces.{fed_checker}
use Rattle.fish_image.proofs.checker.Checker.feed.Goals as goal

pub returns-clause-checker : goal.returns-clause-checker
returns-clause-checker c =
    let is = c.requires in
    fed_checker c.read.result is.commit is.words c.args.words.now c.read.new.self (c.read.ensures is.commit is.words is.seen)
