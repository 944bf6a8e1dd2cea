-- It knows what the first pass of a log of these rows knows.
use Rattle.std.proofs.Common.{refl}
use Rattle.fish_registry.proofs.Knowing.{knows_first}
use Rattle.fish_registry.proofs.registrar.Registrar.new.Goals as goal

pub returns-clause-knows : goal.returns-clause-knows
returns-clause-knows c = knows_first _ refl
