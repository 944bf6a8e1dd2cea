-- Areas of words as functions: what a store and a load are to them.
use Rattle.std.proofs.Common.{◌≡◌, ◌≢◌, ℕ, ◌+◌, ◌-◌, ◌*◌, ◌<◌, ◌≤◌, suc, List, length, get_or, set, sym, refl, ap, ◌∙◌}
use Rattle.std.proofs.Common.{inl, inr, ◌⊎◌, arith, get_or-set_other, get_or-set_same}
use Rattle.std.proofs.Math.Decide.{ℕ_discrete, dec_le}
use Rattle.fish_layout.proofs.Clearing.{choose_first, choose_second}
use Rattle.fish_layout.specs.Cleared.{choose}
use Rattle.fish_rule.specs.World.{area, dir_at, heads_at, high, log_at, log_size, low, put, registry_size, slots, total}
use Rattle.fish_rule.specs.World.{world}
use Rattle.fish_rule.proofs.basics.Context.{Key, View}

module _ {A : Type 0} where
  -- at the place of the new value stands the new value
  pub put-here : (f : ℕ → A) (n : ℕ) (x : A) → put f n x n ≡ x
  unfolding put
  put-here f n x = choose_first (ℕ_discrete n n) x (f n) refl

  -- elsewhere stands the old one
  pub put-else : (f : ℕ → A) (n : ℕ) (x : A) (m : ℕ) → m ≢ n → put f n x m ≡ f m
  unfolding put
  put-else f n x m ne = choose_second (ℕ_discrete m n) x (f m) ne

-- ---- areas

-- inside its range an area has the words
pub area-in : (ws : List ℕ) (at base size n : ℕ) → base ≤ n → n < base + size
    → area ws at base size n ≡ get_or ws (at + (n - base)) 0
unfolding area
area-in ws at base size n above below =
    choose_first (dec_le base n) _ 0 above
    ∙ choose_first (dec_le (suc n) (base + size)) (get_or ws (at + (n - base)) 0) 0 (omega arith)

-- below and after it stands 0
pub area-below : (ws : List ℕ) (at base size n : ℕ) → n < base → area ws at base size n ≡ 0
unfolding area
area-below ws at base size n less = choose_second (dec_le base n) _ 0 (λ h. omega arith)

-- after an area all is 0
pub area-behind : (ws : List ℕ) (at base size n : ℕ) → base + size ≤ n → area ws at base size n ≡ 0
unfolding area
area-behind ws at base size n more =
    choose_first (dec_le base n) _ 0 (omega arith)
    ∙ choose_second (dec_le (suc n) (base + size)) (get_or ws (at + (n - base)) 0) 0 (λ h. omega arith)

-- two lists that agree in the range give one area
area-same : (ws us : List ℕ) (at base size : ℕ)
    → ((n : ℕ) → base ≤ n → n < base + size → get_or us (at + (n - base)) 0 ≡ get_or ws (at + (n - base)) 0)
    → (n : ℕ) → area us at base size n ≡ area ws at base size n
unfolding area
area-same ws us at base size same n = area-cases (dec_le base n) (dec_le (suc n) (base + size)) (same n)
  where
    area-cases : (d : Dec (base ≤ n)) (e : Dec (suc n ≤ base + size))
        → (base ≤ n → n < base + size → get_or us (at + (n - base)) 0 ≡ get_or ws (at + (n - base)) 0)
        → choose d (choose e (get_or us (at + (n - base)) 0) 0) 0 ≡ choose d
        (choose e (get_or ws (at + (n - base)) 0) 0) 0
    area-cases (no x) e f = refl
    area-cases (yes a) (no x) f = refl
    area-cases (yes a) (yes b) f = f a (omega arith)

-- a store outside an area leaves it
pub area-else : (ws : List ℕ) (at base size i x : ℕ) → (i < at) ⊎ (at + size ≤ i)
    → area (set ws i x) at base size ≡ area ws at base size
area-else ws at base size i x (inl before) =
    λ j n. area-same ws (set ws i x) at base size
    (λ m a b. get_or-set_other ws i (at + (m - base)) x 0 (omega arith)) n j
area-else ws at base size i x (inr behind) =
    λ j n. area-same ws (set ws i x) at base size
    (λ m a b. get_or-set_other ws i (at + (m - base)) x 0 (omega arith)) n j

-- a store in an area puts the value in its place
pub area-store : (ws : List ℕ) (at base size n i x : ℕ) → base ≤ n → n < base + size → i ≡ at + (n - base)
    → i < length ws
    → area (set ws i x) at base size ≡ put (area ws at base size) n x
area-store ws at base size n i x above below is inside = λ j m. each m (ℕ_discrete m n) j
  where
    each : (m : ℕ) → Dec (m ≡ n) → area (set ws i x) at base size m ≡ put (area ws at base size) n x m
    each m (yes e) =
        let here : area (set ws i x) at base size n ≡ x = area-in (set ws i x) at base size n above below
        ∙ ap (λ (z : ℕ). get_or (set ws i x) z 0) (sym is) ∙ get_or-set_same ws i x 0 inside in
        ap (area (set ws i x) at base size) e ∙ here ∙ sym (put-here (area ws at base size) n x)
        ∙ ap (put (area ws at base size) n x) (sym e)
    each m (no ne) = other m ne (dec_le base m) (dec_le (suc m) (base + size))
        ∙ sym (put-else (area ws at base size) n x m ne)
      where
        other : (q : ℕ) → q ≢ n → Dec (base ≤ q) → Dec (suc q ≤ base + size)
            → area (set ws i x) at base size q ≡ area ws at base size q
        other q qn (no b) e = area-below (set ws i x) at base size q (omega arith)
            ∙ sym (area-below ws at base size q (omega arith))
        other q qn (yes a) (no b) = area-behind (set ws i x) at base size q (omega arith)
            ∙ sym (area-behind ws at base size q (omega arith))
        other q qn (yes a) (yes b) =
            area-in (set ws i x) at base size q a (omega arith)
            ∙ get_or-set_other ws i (at + (q - base)) x 0 (λ h. qn (omega arith))
            ∙ sym (area-in ws at base size q a (omega arith))

-- ---- worlds

-- a store of the tail
pub world-tail : (k : Key) (ws : List ℕ) (vs us : List View) (x : ℕ) → 0 < length ws
    → world k (set ws 0 x) us ≡ record (world k ws vs) { count = high x; line = low x; views = us }
world-tail k ws vs us x some =
    let here : get_or (set ws 0 x) 0 0 ≡ x = get_or-set_same ws 0 x 0 some in
    λ j. record {
      count = high (here j);
      line = low (here j);
      settled = get_or-set_other ws 0 1 x 0 (omega arith) j;
      registry = area-else ws 2 2 registry_size 0 x (inl (omega arith)) j;
      head = area-else ws heads_at 0 k.buckets 0 x (inl (omega arith)) j;
      dir = area-else ws (dir_at k) k.number (slots k) 0 x (inl (omega arith)) j;
      log = area-else ws (log_at k) (k.line * 4) (log_size k) 0 x (inl (omega arith)) j;
      views = us;
    }

-- a store of the settled number
pub world-settled : (k : Key) (ws : List ℕ) (vs us : List View) (x : ℕ) → 1 < length ws
    → world k (set ws 1 x) us ≡ record (world k ws vs) { settled = x; views = us }
world-settled k ws vs us x some =
    let apart : get_or (set ws 1 x) 0 0 ≡ get_or ws 0 0 = get_or-set_other ws 1 0 x 0 (omega arith) in
    λ j. record {
      count = high (apart j);
      line = low (apart j);
      settled = get_or-set_same ws 1 x 0 some j;
      registry = area-else ws 2 2 registry_size 1 x (inl (omega arith)) j;
      head = area-else ws heads_at 0 k.buckets 1 x (inl (omega arith)) j;
      dir = area-else ws (dir_at k) k.number (slots k) 1 x (inl (omega arith)) j;
      log = area-else ws (log_at k) (k.line * 4) (log_size k) 1 x (inl (omega arith)) j;
      views = us;
    }

-- a store of a word of the registry
pub world-registry : (k : Key) (ws : List ℕ) (vs us : List View) (p x : ℕ) → 2 ≤ p → p < heads_at
    → length ws ≡ total k
    → world k (set ws p x) us ≡ record (world k ws vs) { registry = put (world k ws vs).registry p x; views = us }
world-registry k ws vs us p x above below wide =
    let apart : get_or (set ws p x) 0 0 ≡ get_or ws 0 0 = get_or-set_other ws p 0 x 0 (omega arith) in
    λ j. record {
      count = high (apart j);
      line = low (apart j);
      settled = get_or-set_other ws p 1 x 0 (omega arith) j;
      registry = area-store ws 2 2 registry_size p p x above (omega arith) (omega arith) (omega arith) j;
      head = area-else ws heads_at 0 k.buckets p x (inl (omega arith)) j;
      dir = area-else ws (dir_at k) k.number (slots k) p x (inl (omega arith)) j;
      log = area-else ws (log_at k) (k.line * 4) (log_size k) p x (inl (omega arith)) j;
      views = us;
    }

-- a store of a head
pub world-head : (k : Key) (ws : List ℕ) (vs us : List View) (b i x : ℕ) → b < k.buckets → i ≡ heads_at + b
    → length ws ≡ total k
    → world k (set ws i x) us ≡ record (world k ws vs) { head = put (world k ws vs).head b x; views = us }
world-head k ws vs us b i x below is wide =
    let apart : get_or (set ws i x) 0 0 ≡ get_or ws 0 0 = get_or-set_other ws i 0 x 0 (omega arith) in
    λ j. record {
      count = high (apart j);
      line = low (apart j);
      settled = get_or-set_other ws i 1 x 0 (omega arith) j;
      registry = area-else ws 2 2 registry_size i x (inr (omega arith)) j;
      head = area-store ws heads_at 0 k.buckets b i x (omega arith) (omega arith) (omega arith) (omega arith) j;
      dir = area-else ws (dir_at k) k.number (slots k) i x (inl (omega arith)) j;
      log = area-else ws (log_at k) (k.line * 4) (log_size k) i x (inl (omega arith)) j;
      views = us;
    }

-- a store of a directory word
pub world-dir : (k : Key) (ws : List ℕ) (vs us : List View) (n i x : ℕ) → k.number ≤ n → n < k.number + slots k
    → i ≡ dir_at k + (n - k.number) → length ws ≡ total k
    → world k (set ws i x) us ≡ record (world k ws vs) { dir = put (world k ws vs).dir n x; views = us }
world-dir k ws vs us n i x above below is wide =
    let apart : get_or (set ws i x) 0 0 ≡ get_or ws 0 0 = get_or-set_other ws i 0 x 0 (omega arith) in
    λ j. record {
      count = high (apart j);
      line = low (apart j);
      settled = get_or-set_other ws i 1 x 0 (omega arith) j;
      registry = area-else ws 2 2 registry_size i x (inr (omega arith)) j;
      head = area-else ws heads_at 0 k.buckets i x (inr (omega arith)) j;
      dir = area-store ws (dir_at k) k.number (slots k) n i x above below is (omega arith) j;
      log = area-else ws (log_at k) (k.line * 4) (log_size k) i x (inl (omega arith)) j;
      views = us;
    }

-- a store of a word of the log
pub world-log : (k : Key) (ws : List ℕ) (vs us : List View) (p i x : ℕ) → k.line * 4 ≤ p
    → p < k.line * 4 + log_size k → i ≡ log_at k + (p - k.line * 4) → length ws ≡ total k
    → world k (set ws i x) us ≡ record (world k ws vs) { log = put (world k ws vs).log p x; views = us }
world-log k ws vs us p i x above below is wide =
    let apart : get_or (set ws i x) 0 0 ≡ get_or ws 0 0 = get_or-set_other ws i 0 x 0 (omega arith) in
    λ j. record {
      count = high (apart j);
      line = low (apart j);
      settled = get_or-set_other ws i 1 x 0 (omega arith) j;
      registry = area-else ws 2 2 registry_size i x (inr (omega arith)) j;
      head = area-else ws heads_at 0 k.buckets i x (inr (omega arith)) j;
      dir = area-else ws (dir_at k) k.number (slots k) i x (inr (omega arith)) j;
      log = area-store ws (log_at k) (k.line * 4) (log_size k) p i x above below is (omega arith) j;
      views = us;
    }
