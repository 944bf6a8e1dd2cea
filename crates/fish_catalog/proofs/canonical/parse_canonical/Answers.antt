-- What a canonical text is read as is written as it stands.
use Rattle.fish_catalog.proofs.Texts.{canonical_written}
use Rattle.fish_catalog.proofs.canonical.parse_canonical.Goals as goal

pub returns-clause-written : goal.returns-clause-written
returns-clause-written c = canonical_written c.args.text.now _ c.in-Ok.ensures.answer c.requires
