-- The counter's ledger is that of the blank.
use Rattle.tests_log.proofs.flights.prepared.Given as goal

abbrev pub ghosts-prepared_with : goal.ghosts-prepared_with
ghosts-prepared_with a = record { name = a.blank.name; parts = a.blank.parts }
