-- The first bytes of a file, at most one more than a limit, and what they tell of the whole.
use Rattle.std.proofs.Common.{◌≡◌, ℕ, ◌+◌, ◌≤◌, List, length, take, ap, arith, ◌∙◌}
use Rattle.std.proofs.lemmas.List.{length-take, take_all}

-- within the limit they are all of it
pub all_within : (n : ℕ) (b text : List ℕ) → text ≡ take (n + 1) b → length text ≤ n → text ≡ b
all_within n b text is within =
    let short : length b ≤ n + 1 = omega (arith, ap length is, length-take (n + 1) b) in
    is ∙ take_all (n + 1) b short
