-- The counter's ledger is that of the blank.
use Rattle.bench.proofs.stores.lane_of.Given as goal

abbrev pub ghosts-records_of : goal.ghosts-records_of
ghosts-records_of a = record { name = a.blank.name; parts = a.blank.parts }
