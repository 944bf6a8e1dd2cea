-- Refusals are marks that were found.
use Rattle.fish_ingest.proofs.Comparing.{full_agrees, full_follows}
use Rattle.fish_ingest.proofs.ingestion.law_full.Goals as goal

pub returns-clause-agrees : goal.returns-clause-agrees
returns-clause-agrees c = full_agrees

pub returns-clause-follows : goal.returns-clause-follows
returns-clause-follows c = full_follows
