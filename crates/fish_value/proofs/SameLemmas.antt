-- The test of sameness decides equality.
use Rattle.std.proofs.Common.{◌≡◌, ap}
use Rattle.std.specs.Bool.{Decides}
use Rattle.std.specs.Cmp.{booleans_Decides}
use Rattle.std.proofs.lemmas.Bool.Decides.{Decides-int_eq, Decides-like}
use Rattle.std.proofs.lemmas.Slice.Eq.{bytes_eq-Decides}
use Rattle.fish_value.specs.Same.{same_value}
use Rattle.fish_value.specs.declared.value.Value.{Value}
use Rattle.fish_value.specs.declared.value.Value.TheVariants.{Int, Text}
use Rattle.fish_value.specs.declared.value.Value.TheVariants as kind

-- two values are the same exactly where they are equal
pub same_value-Decides : (a b : Value) → Decides (same_value a b) (a ≡ b)
same_value-Decides (kind.Bool a) (kind.Bool b) = Decides-like _ (ap kind.Bool) (λ e. cc) (booleans_Decides a b)
same_value-Decides (kind.Bool a) (Int b) = (λ e. cc, λ e. cc)
same_value-Decides (kind.Bool a) (Text b) = (λ e. cc, λ e. cc)
same_value-Decides (Int a) (kind.Bool b) = (λ e. cc, λ e. cc)
same_value-Decides (Int a) (Int b) = Decides-like _ (ap Int) (λ e. cc) (Decides-int_eq a b)
same_value-Decides (Int a) (Text b) = (λ e. cc, λ e. cc)
same_value-Decides (Text a) (kind.Bool b) = (λ e. cc, λ e. cc)
same_value-Decides (Text a) (Int b) = (λ e. cc, λ e. cc)
same_value-Decides (Text a) (Text b) = Decides-like _ (ap Text) (λ e. cc) (bytes_eq-Decides a b)
