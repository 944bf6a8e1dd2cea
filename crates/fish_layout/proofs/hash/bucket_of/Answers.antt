-- Below the one bit of a power of 2 stands the remainder.
use Rattle.std.proofs.lemmas.Bool.Decides.{nat_tests}
use Rattle.std.proofs.Common.{arith}
use Rattle.fish_layout.proofs.PowersOfTwo.{and_below_power}
use Rattle.fish_layout.proofs.hash.bucket_of.Goals as goal

pub returns-then-is_power_of_two-clause-value : goal.returns-then-is_power_of_two-clause-value
returns-then-is_power_of_two-clause-value c =
    and_below_power c.args.hash c.args.buckets (grind (arith, nat_tests))
