-- The counter's ledger is that of the blank.
use Rattle.bench.proofs.walks.store_and_walk.Given as goal

abbrev pub ghosts-walk_longest : goal.ghosts-walk_longest
ghosts-walk_longest g a = record { name = a.blank.name; parts = a.blank.parts }
