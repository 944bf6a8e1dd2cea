-- What can be written as a definition.
use Rattle.std.proofs.Common.{◌≡◌, [], ◌∷◌}
use Rattle.std.specs.Prelude.{true, false, Option, Some, None, IsUtf8}
use Rattle.fish_value.specs.Number.{fits_i64}
use Rattle.fish_value.specs.declared.value.Value.{Value}
use Rattle.fish_value.specs.declared.value.Value.TheVariants as value
use Rattle.fish_lang.specs.Definition.{Steps, Formula, compares, is_there, begins, negated, both, either}
use Rattle.fish_lang.specs.Definition.{Definition, takes, eaches, buckets, flags}
use Rattle.fish_lang.proofs.Depths.{is_negative}

-- what can be written: names and strings are texts, numbers have 64 bits, and paths are not empty
abbrev pub AreTexts : Steps → Type 0
AreTexts [] = Unit {0}
AreTexts (s ∷ more) = IsUtf8 s × AreTexts more

abbrev pub IsPath : Steps → Type 0
IsPath [] = ⊥
IsPath (s ∷ more) = IsUtf8 s × AreTexts more

abbrev pub IsLiteral : Value → Type 0
IsLiteral (value.Bool b) = Unit {0}
IsLiteral (value.Int n) = fits_i64 n ≡ true
IsLiteral (value.Text s) = IsUtf8 s

abbrev pub IsCondition : Formula → Type 0
IsCondition (compares p op v) = IsPath p × IsLiteral v
IsCondition (is_there p) = IsPath p
IsCondition (begins p s) = IsPath p × IsUtf8 s
IsCondition (negated a) = IsCondition a
IsCondition (both a b) = IsCondition a × IsCondition b
IsCondition (either a b) = IsCondition a × IsCondition b

-- what can be written as a definition
abbrev pub IsWhen : Option Formula → Type 0
IsWhen None = Unit {0}
IsWhen (Some a) = IsCondition a

abbrev pub IsWritable : Definition → Type 0
IsWritable (takes p w) = IsPath p × IsWhen w
IsWritable (eaches p w) = IsPath p × IsWhen w
IsWritable (buckets p n w) = IsPath p × (fits_i64 n ≡ true) × (is_negative n ≡ false) × IsWhen w
IsWritable (flags a) = IsCondition a
