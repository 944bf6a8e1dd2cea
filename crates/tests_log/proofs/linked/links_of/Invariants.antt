-- The counter's ledger is that of the blank.
use Rattle.tests_log.proofs.linked.links_of.Given as goal

abbrev pub ghosts-links_with : goal.ghosts-links_with
ghosts-links_with a = record { name = a.blank.name; parts = a.blank.parts }
