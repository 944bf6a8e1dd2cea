-- Facts of three seats.
use Rattle.std.proofs.Common.{zero, suc, [], ◌∷◌, All, arith}

-- what holds of each holds of all
pub all_three : {A : Type 0} (P : A → Type 0) (a b c : A) → P a → P b → P c → All P (a ∷ b ∷ c ∷ [])
all_three P a b c one two three zero x less = one
all_three P a b c one two three (suc zero) x less = two
all_three P a b c one two three (suc (suc zero)) x less = three
all_three P a b c one two three (suc (suc (suc k))) x less = absurd (omega arith)
