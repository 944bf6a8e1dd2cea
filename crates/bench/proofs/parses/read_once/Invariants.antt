-- The counter's ledger is that of the blank.
use Rattle.bench.proofs.parses.read_once.Given as goal

abbrev pub ghosts-read_all : goal.ghosts-read_all
ghosts-read_all a = record { name = a.blank.name; parts = a.blank.parts }
