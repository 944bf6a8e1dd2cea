-- The counter's ledger is that of the blank.
use Rattle.tests_values.proofs.json_readers.payloads_of_a_seed.Given as goal

abbrev pub ghosts-reported : goal.ghosts-reported
ghosts-reported _ a = record { name = a.blank.name; parts = a.blank.parts }
