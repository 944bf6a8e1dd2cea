-- By the order in which regions put their key entries in front.
use Rattle.fish_cold.proofs.ChainLemmas.{prior_among, prior_links, splits}
use Rattle.fish_cold.proofs.law.chains_lead_down.Goals as goal

pub returns-clause-newest : goal.returns-clause-newest
returns-clause-newest c places b some = splits places b some

pub returns-clause-links : goal.returns-clause-links
returns-clause-links c image n end prior b place taken behind parted = prior_links image n end prior b place taken behind parted

pub returns-clause-all : goal.returns-clause-all
returns-clause-all c image n end prior b place m p j k h = prior_among image n end prior b place m p j k h
