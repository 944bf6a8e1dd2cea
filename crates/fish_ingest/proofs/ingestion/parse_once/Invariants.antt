-- The counter's ledger is that of the blank.
use Rattle.fish_ingest.proofs.ingestion.parse_once.Given as goal

abbrev pub ghosts-parse_counted : goal.ghosts-parse_counted
ghosts-parse_counted a = record { name = a.blank.name; parts = a.blank.parts }
