-- The counter's ledger is that of the blank.
use Rattle.bench.proofs.scans.walk_bucket.Given as goal

abbrev pub ghosts-walk_counted : goal.ghosts-walk_counted
ghosts-walk_counted g a = record { name = a.blank.name; parts = a.blank.parts }
