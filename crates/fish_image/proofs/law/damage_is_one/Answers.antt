-- Where more entries agree, one agrees after the fewer.
use Rattle.fish_image.proofs.Agreement.{one_damage}
use Rattle.fish_image.proofs.law.damage_is_one.Goals as goal

pub returns : goal.returns
returns c = one_damage
