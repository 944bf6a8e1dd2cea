-- The lanes are given out, and nothing else changed.
use Rattle.fish_disk.specs.Memory.{images_of}
use Rattle.tests_store.proofs.Flushed.{split_on}
use Rattle.tests_store.proofs.beside.run.Goals as goal

pub commit_beside-rises-requires-clause-flushing : goal.commit_beside-rises-requires-clause-flushing
commit_beside-rises-requires-clause-flushing g c κs within =
    split_on (images_of c.args.disk.now) c.args.log.now c.args.control.now c.requires.flushing c.split_two-seats.new.control 2 3
    c.split_two-seats.ensures.pass c.split_two-seats.ensures.left
