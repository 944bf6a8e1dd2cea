-- The counter's ledger is that of the blank.
use Rattle.tests_log.proofs.entries.found_once.Given as goal

abbrev pub ghosts-found_with : goal.ghosts-found_with
ghosts-found_with a = record { name = a.blank.name; parts = a.blank.parts }
