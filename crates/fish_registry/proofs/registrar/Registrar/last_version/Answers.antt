-- The control pass finds the version that it knows.
use Rattle.fish_registry.proofs.Changing.{stays_version}
use Rattle.fish_rule.specs.Passes.{view}
use Rattle.fish_registry.proofs.registrar.Registrar.last_version.Goals as goal

pub returns-then-version-from-clause-stays : goal.returns-then-version-from-clause-stays
returns-then-version-from-clause-stays c =
    stays_version (view c.args.pass.now) _ _ c.requires.outside
    (c.load_version-version.ensures.control c.requires.knows.control) c.load_version-version.ensures.view

pub returns-clause-stays : goal.returns-clause-stays
returns-clause-stays c =
    stays_version (view c.args.pass.now) _ _ c.requires.outside
    (c.load_version-version.ensures.control c.requires.knows.control) c.load_version-version.ensures.view
