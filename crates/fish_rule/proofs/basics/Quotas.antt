-- Sums of a quota over lanes.
use Rattle.std.proofs.Common.{◌≡◌, ℕ, ◌<◌, ◌≤◌, zero, suc, refl, ap, ◌∙◌, arith}
use Rattle.std.proofs.Math.Decide.{ℕ_discrete}
use Rattle.fish_rule.proofs.basics.Worlds.{put-else, put-here}
use Rattle.fish_rule.specs.Parts.{quotas}
use Rattle.fish_rule.specs.World.{put}

-- a lane above the range counts nowhere
quotas-above : (q : ℕ → ℕ) (l n : ℕ) → n < l → quotas (put q l 0) n ≡ quotas q n
quotas-above q l zero h = refl
quotas-above q l (suc n) h = (let a = quotas-above q l n (omega arith) in
    let b = put-else q l 0 (suc n) (λ e. omega arith) in omega arith)

-- a quota of 1 that is spent lowers the sum by 1
pub quotas_lower : (q : ℕ → ℕ) (l n : ℕ) → 1 ≤ l → l ≤ n → q l ≡ 1 → suc (quotas (put q l 0) n) ≡ quotas q n
quotas_lower q l zero some within one = absurd (omega arith)
quotas_lower q l (suc n) some within one = pick (ℕ_discrete (suc n) l) (λ h. quotas_lower q l n some h one)
  where
    pick : Dec (suc n ≡ l) → (l ≤ n → suc (quotas (put q l 0) n) ≡ quotas q n)
        → suc (quotas (put q l 0) (suc n)) ≡ quotas q (suc n)
    pick (yes e) before =
        let a : quotas (put q l 0) n ≡ quotas q n = quotas-above q l n (omega arith) in
        let b : put q l 0 (suc n) ≡ 0 = ap (put q l 0) e ∙ put-here q l 0 in
        let c : q (suc n) ≡ 1 = ap q e ∙ one in
        omega arith
    pick (no ne) before =
        let a = before (omega arith) in
        let b : put q l 0 (suc n) ≡ q (suc n) = put-else q l 0 (suc n) ne in
        omega arith
