-- The counter's ledger is that of the blank.
use Rattle.bench.proofs.parses.ParseLaneLaneReading.run.Given as goal

abbrev pub ghosts-parse_all : goal.ghosts-parse_all
ghosts-parse_all a = record { name = a.blank.name; parts = a.blank.parts }
