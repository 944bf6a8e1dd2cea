-- What the rule gives of numbers and regions, beside the laws of fish_rule.
use Rattle.std.proofs.Common.{◌≡◌, ℕ, ◌+◌, ◌-◌, ◌%◌, ◌<◌, ◌≤◌}
use Rattle.std.proofs.Common.{refl, subst, arith}
use Rattle.std.proofs.Math.Decide.{ℕ_discrete, dec_lt}
use Rattle.fish_layout.proofs.Clearing.{choose_first, choose_second}
use Rattle.fish_layout.specs.Cleared.{IsKeyWord}
use Rattle.fish_layout.specs.Header.{void_word}
use Rattle.fish_rule.proofs.laws.Regions.{starts_rise}
use Rattle.fish_rule.specs.Parts.{Regions}
use Rattle.fish_rule.specs.Regions.{kind_of, kind_within, void_body}
use Rattle.fish_rule.specs.Rule.{Rule}
use Rattle.fish_rule.specs.World.{World}
use Rattle.fish_rule.specs.declared.view.Key.{Key}
use Rattle.fish_rule.specs.declared.view.Kind.TheVariants.{Mark}

-- ---- regions

-- a region within the log is of the kind that its lines give
pub kind_inside : (end a b : ℕ) → b ≤ end → kind_of end a b ≡ kind_within a b
unfolding kind_of
kind_inside end a b h = choose_second (dec_lt end b) Mark (kind_within a b) (λ l. omega arith)

-- a void's body begins with its header
pub void_begins : (lines : ℕ) → void_body lines 0 ≡ void_word lines
unfolding void_body
void_begins lines = choose_first (ℕ_discrete 0 0) (void_word lines) 0 refl

-- a header is no first word of a key entry
pub head_plain : (n : ℕ) → ¬ IsKeyWord n 0
head_plain n k = (let m : 0 % 3 ≡ 1 = k.1 in absurd (omega arith))

-- every region begins at the table's first line or after it
pub starts_above : (k : Key) (count line : ℕ) (start : ℕ → ℕ) → Regions k count line start → (n : ℕ)
    → k.number ≤ n → n ≤ count → k.line + (n - k.number) ≤ start n
starts_above k count line start r n above within =
    let up = starts_rise k count line start r k.number n (omega arith) above within in
    subst (λ (z : ℕ). z + (n - k.number) ≤ start n) r.first up

-- numbers have 28 bits
pub few_numbers : (k : Key) (w : World) → Rule k w → w.count < 268435456
few_numbers k w r =
    let up = starts_above k w.count w.line r.start r.space.regions r.limit.first r.limit.above r.limit.within in
    let fits = r.limit.fits in
    let few = r.limit.few in
    let lines = r.key_fits.some_lines in
    let numbers = r.key_fits.few_numbers in
    omega arith
