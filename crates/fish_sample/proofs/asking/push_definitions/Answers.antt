-- The three registrations are those of the definitions.
use Rattle.fish_sample.proofs.Naming.{are_defining}
use Rattle.fish_sample.proofs.asking.push_definitions.Goals as goal

pub returns : goal.returns
returns c = are_defining c.push_definition-3.result c.args.works.now c.push_definition.new.works c.push_definition-2.new.works
    c.push_definition-3.new.works c.requires c.in_ok-push_definition.ensures c.in_ok-push_definition-2.ensures c.push_definition-3.ensures
