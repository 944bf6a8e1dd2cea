-- The file of a share, one number after the other.
use Rattle.std.proofs.Common.{◌≡◌, ◌≢◌, ℕ, ◌+◌, ◌%◌, zero, suc, List, [], ◌∷◌, ◌++◌, ap, ◌∙◌, cond, arith}
use Rattle.std.proofs.Common.{Bool, true, false, append-nil, filter}
use Rattle.std.proofs.lemmas.Grind.{flat_map-append}
use Rattle.std.proofs.lemmas.List.Elements.{filter-append}
use Rattle.std.specs.Prelude.{◌==◌}
use Rattle.std.specs.List.{range_with_len}
use Rattle.fish_sample.specs.within.Files.{line_of, sample_lines}
use Rattle.fish_sample.specs.Sample.{share}

range_push : (a n : ℕ) → range_with_len a (suc n) ≡ range_with_len a n ++ (a + n) ∷ []
range_push a zero = ap (λ (z : ℕ). z ∷ []) (let e : a ≡ a + 0 = omega arith in e)
range_push a (suc n) = ap (λ (z : List ℕ). a ∷ z) (range_push (a + 1) n
    ∙ ap (λ (z : ℕ). range_with_len (a + 1) n ++ z ∷ []) (let e : (a + 1) + n ≡ a + suc n = omega arith in e))

-- a share gains the next number, where it is of the lane
share_push : (n lane : ℕ) → share (n + 1) lane ≡ share n lane ++ cond ((n % 4) + 1 == lane) (n ∷ []) []
share_push n lane =
    ap (λ (z : ℕ). share z lane) (let e : n + 1 ≡ suc n = omega arith in e)
    ∙ ap (filter (λ i. (i % 4) + 1 == lane)) (range_push 0 n ∙ ap (λ (z : ℕ). range_with_len 0 n ++ z ∷ []) (let e : 0 + n
    ≡ n = omega arith in e))
    ∙ filter-append (λ i. (i % 4) + 1 == lane) (range_with_len 0 n) (n ∷ [])

pub lines_more : (n lane : ℕ) → (n % 4) + 1 ≡ lane → sample_lines (share (n + 1) lane) ≡ sample_lines (share n lane) ++ line_of n
lines_more n lane is =
    let test : ((n % 4) + 1 == lane) ≡ true = grind arith in
    ap sample_lines (share_push n lane ∙ ap (λ (z : Bool). share n lane ++ cond z (n ∷ []) []) test)
    ∙ flat_map-append line_of (share n lane) (n ∷ []) ∙ ap (λ (z : List ℕ). sample_lines (share n lane) ++ z) (append-nil (line_of n))

pub lines_same : (n lane : ℕ) → (n % 4) + 1 ≢ lane → sample_lines (share (n + 1) lane) ≡ sample_lines (share n lane)
lines_same n lane other =
    let test : ((n % 4) + 1 == lane) ≡ false = grind arith in
    ap sample_lines (share_push n lane ∙ ap (λ (z : Bool). share n lane ++ cond z (n ∷ []) []) test ∙ append-nil (share n lane))
