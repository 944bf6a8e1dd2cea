-- When two values are the same.
use Rattle.std.specs.Prelude.{Bool, false}
use Rattle.std.specs.Ordering.{int_eq}
use Rattle.std.specs.Str.{bytes_eq}
use Rattle.std.proofs.Math.Bool.{beq}
use Rattle.fish_value.specs.declared.value.Value.{Value}
use Rattle.fish_value.specs.declared.value.Value.TheVariants.{Int, Text}
use Rattle.fish_value.specs.declared.value.Value.TheVariants as kind

-- two values are the same where they are of one kind and equal
abbrev pub same_value : Value → Value → Bool
same_value (kind.Bool a) (kind.Bool b) = beq a b
same_value (Int a) (Int b) = int_eq a b
same_value (Text a) (Text b) = bytes_eq a b
same_value _ _ = false
