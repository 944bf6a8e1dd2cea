-- The tape's last member with the name is the data's member.
use Rattle.fish_json.proofs.Found.{step_found}
use Rattle.fish_json.proofs.row.step.Goals as goal

pub returns : goal.returns
returns c =
    λ d h. step_found c.args.name.now c.as_str.result.now c.args.value.now d c.get.result
    c.as_str.ensures c.get.ensures h
