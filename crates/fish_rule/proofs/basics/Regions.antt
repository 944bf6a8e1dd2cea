-- Regions follow one another, so two of them share no line, and numbers and lines stay within their bits of the tail
-- word.
use Rattle.std.proofs.Common.{◌≡◌, ◌≢◌, ℕ, ◌+◌, ◌-◌, ◌*◌, ◌<◌, ◌≤◌, zero, suc, subst, inl, inr, ◌⊎◌, ⊎_elim, arith}
use Rattle.std.proofs.Math.Decide.{dec_lt, ℕ_discrete}
use Rattle.fish_rule.specs.Parts.{InFlight, Regions}
use Rattle.fish_rule.proofs.basics.Context.{Flight, Key, Rule, World}

-- a sum of so many steps up
rises : (k : Key) (count line : ℕ) (start : ℕ → ℕ) → Regions k count line start → (m d : ℕ) → k.number ≤ m
    → m + d ≤ count → start m + d ≤ start (m + d)
rises k count line start r m zero above within = (let e : m + 0 ≡ m = omega arith in rw e (omega arith))
rises k count line start r m (suc d) above within =
    let before : start m + d ≤ start (m + d) = rises k count line start r m d above (omega arith) in
    let up : start (m + d) < start (suc (m + d)) = r.grows (m + d) (omega arith) (omega arith) in
    let e : suc (m + d) ≡ m + suc d = omega arith in
    subst (λ (z : ℕ). start m + suc d ≤ start z) e (omega arith)

-- a later region begins at least as many lines further on as there are numbers between
pub starts_rise : (k : Key) (count line : ℕ) (start : ℕ → ℕ) → Regions k count line start → (m n : ℕ)
    → k.number ≤ m → m ≤ n → n ≤ count → start m + (n - m) ≤ start n
starts_rise k count line start r m n above less within =
    let e : m + (n - m) ≡ n = omega arith in
    subst (λ (z : ℕ). start m + (n - m) ≤ start z) e (rises k count line start r m (n - m) above (omega arith))

-- and at most 18,625 times as many
near : (k : Key) (count line : ℕ) (start : ℕ → ℕ) → Regions k count line start → (m d : ℕ) → k.number ≤ m
    → m + d ≤ count → start (m + d) ≤ start m + d * 18625
near k count line start r m zero above within = (let e : m + 0 ≡ m = omega arith in rw e (omega arith))
near k count line start r m (suc d) above within =
    let before : start (m + d) ≤ start m + d * 18625 = near k count line start r m d above (omega arith) in
    let up : start (suc (m + d)) ≤ start (m + d) + 18625 = r.small (m + d) (omega arith) (omega arith) in
    let e : suc (m + d) ≡ m + suc d = omega arith in
    subst (λ (z : ℕ). start z ≤ start m + suc d * 18625) e (omega arith)

-- a later region begins at most so many lines further on
pub starts_near : (k : Key) (count line : ℕ) (start : ℕ → ℕ) → Regions k count line start → (m n : ℕ)
    → k.number ≤ m → m ≤ n → n ≤ count → start n ≤ start m + (n - m) * 18625
starts_near k count line start r m n above less within =
    let e : m + (n - m) ≡ n = omega arith in
    subst (λ (z : ℕ). start z ≤ start m + (n - m) * 18625) e (near k count line start r m (n - m) above (omega arith))

-- of two numbers the regions share no line
pub regions_apart : (k : Key) (count line : ℕ) (start : ℕ → ℕ) → Regions k count line start → (m n : ℕ)
    → k.number ≤ m → m < count → k.number ≤ n → n < count → m ≢ n
    → (start (suc m) ≤ start n) ⊎ (start (suc n) ≤ start m)
regions_apart k count line start r m n above_m below_m above_n below_n ne = pick (dec_lt m n)
  where
    pick : Dec (m < n) → (start (suc m) ≤ start n) ⊎ (start (suc n) ≤ start m)
    pick (yes h) = let up = starts_rise k count line start r (suc m) n (omega arith) h (omega arith) in
        inl (omega arith)
    pick (no h) = let up = starts_rise k count line start r (suc n) m (omega arith) (omega arith)
        (omega arith) in inr (omega arith)

-- every claimed region ends at or before the tail's line
pub ends_within : (k : Key) (count line : ℕ) (start : ℕ → ℕ) → Regions k count line start → (n : ℕ)
    → k.number ≤ n → n < count → start (suc n) ≤ line
ends_within k count line start r n above below =
    let up = starts_rise k count line start r (suc n) count (omega arith) below (omega arith) in
    subst (λ (z : ℕ). start (suc n) ≤ z) r.last (omega arith)

-- every region begins at or after the table's first line
pub starts_above : (k : Key) (count line : ℕ) (start : ℕ → ℕ) → Regions k count line start → (n : ℕ)
    → k.number ≤ n → n ≤ count → k.line + (n - k.number) ≤ start n
starts_above k count line start r n above within =
    let up = starts_rise k count line start r k.number n (omega arith) above within in
    subst (λ (z : ℕ). z + (n - k.number) ≤ start n) r.first up

-- a place in the region of m is in that of no other number
pub one_region : (k : Key) (count line : ℕ) (start : ℕ → ℕ) → Regions k count line start → (m n p : ℕ)
    → k.number ≤ m → m < count → k.number ≤ n → n < count
    → start m * 4 ≤ p → p < start (suc m) * 4 → start n * 4 ≤ p → p < start (suc n) * 4 → m ≡ n
one_region k count line start r m n p above_m below_m above_n below_n from_m to_m from_n to_n = pick (ℕ_discrete m n)
  where
    pick : Dec (m ≡ n) → m ≡ n
    pick (yes e) = e
    pick (no ne) = ⊎_elim (λ (h : start (suc m) ≤ start n). absurd (omega arith))
        (λ (h : start (suc n) ≤ start m). absurd (omega arith))
        (regions_apart k count line start r m n above_m below_m above_n below_n ne)

-- a number in flight is at or after the settled one, and its region after every settled region
pub flight_behind : {k : Key} {w : World} (r : Rule k w) (lane : ℕ) (f : Flight)
    → InFlight k w.count w.dir w.log r.start r.lane_of lane f → k.number ≤ w.settled → r.start w.settled ≤ f.line
flight_behind {k} {w} r lane f own from = pick (dec_lt f.number w.settled)
  where
    pick : Dec (f.number < w.settled) → r.start w.settled ≤ f.line
    pick (yes before) = absurd ((r.settling.below f.number own.above before).published own.unpublished)
    pick (no behind) =
        let below = own.below in
        let rises = starts_rise k w.count w.line r.start r.space.regions w.settled f.number from (omega arith)
        (omega arith) in
        let line = own.line in
        omega arith

module _ {k : Key} {w : World} (r : Rule k w) where
  -- as many numbers as lines, and 16 more
  pub few_slots : w.count ≤ k.number + (k.end - k.line) + 16
  few_slots =
      let up = starts_above k w.count w.line r.start r.space.regions r.limit.first r.limit.above r.limit.within in
      let fits = r.limit.fits in
      let few = r.limit.few in
      let lines = r.key_fits.some_lines in
      omega arith

  -- numbers have 28 bits
  pub few_numbers : w.count < 268435456
  few_numbers = (let s = few_slots in let numbers = r.key_fits.few_numbers in omega arith)

  -- lines have 36 bits
  pub few_lines : w.line < 68719476736
  few_lines =
      let far = starts_near k w.count w.line r.start r.space.regions r.limit.first w.count r.limit.above r.limit.within
      (omega arith) in
      let last = r.space.regions.last in
      let fits = r.limit.fits in
      let few = r.limit.few in
      let low_end = r.key_fits.low_end in
      omega arith
