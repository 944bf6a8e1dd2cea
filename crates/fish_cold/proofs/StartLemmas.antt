-- Which page start is the last that isn't after a number, or a page.
use Rattle.std.proofs.Common.{◌≡◌, ℕ, suc, ◌<◌, ◌≤◌, List, length, get_or, inl, inr, ap, arith}
use Rattle.std.proofs.lemmas.Bool.{cases_lt}
use Rattle.std.proofs.lemmas.Option.{get_or_from_slice_get, slice_get-get_or, slice_get_within}
use Rattle.fish_catalog.specs.declared.page_start.PageStart.{PageStart}
use Rattle.fish_layout.specs.Pages.{page_of}
use Rattle.fish_cold.specs.Starts.{AreStarts, IsStartIn, IsStartOf}

-- numbers don't fall
pub numbers_rise : (starts : List PageStart) → AreStarts starts → (i j : ℕ) (d : PageStart) → i ≤ j → j < length starts
    → (get_or starts i d).number ≤ (get_or starts j d).number
numbers_rise starts rise i j d le lt =
    elim (cases_lt i j) [
      | inl less ↦ (let both = (rise i j (get_or starts i d) (get_or starts j d) less
          (slice_get-get_or starts i d (omega arith)) (slice_get-get_or starts j d lt)).0 in omega arith)
      | inr not ↦ (let same : i ≡ j = omega arith in let equal = ap (λ k. (get_or starts k d).number) same in omega arith)
    ]

-- nor do pages
pub pages_rise : (starts : List PageStart) → AreStarts starts → (i j : ℕ) (d : PageStart) → i ≤ j → j < length starts
    → page_of (get_or starts i d).line ≤ page_of (get_or starts j d).line
pages_rise starts rise i j d le lt =
    elim (cases_lt i j) [
      | inl less ↦ (let both = (rise i j (get_or starts i d) (get_or starts j d) less
          (slice_get-get_or starts i d (omega arith)) (slice_get-get_or starts j d lt)).1 in omega arith)
      | inr not ↦ (let same : i ≡ j = omega arith in let equal = ap (λ k. page_of (get_or starts k d).line) same in omega arith)
    ]

-- the place after the last start that isn't after a number
pub behind_start : (starts : List PageStart) (number : ℕ) (start : PageStart) (behind : ℕ) (h : IsStartOf starts number start)
    → behind ≤ length starts
    → ((k : ℕ) (d : PageStart) → k < behind → (get_or starts k d).number ≤ number)
    → ((k : ℕ) (d : PageStart) → behind ≤ k → k < length starts → number < (get_or starts k d).number) → behind ≡ suc h.at
behind_start starts number start behind h within before after =
    let at = h.at in
    let inside = slice_get_within starts at start h.there in
    let here = ap (λ (s : PageStart). s.number) (get_or_from_slice_get starts at start start h.there) in
    let begins = h.begins in
    elim (cases_lt at behind) [
      | inl less ↦ elim (cases_lt (suc at) behind) [
        | inl more ↦ (
            let there = slice_get-get_or starts (suc at) start (omega arith) in
            let above = h.last (suc at) (get_or starts (suc at) start) (omega arith) there in
            let below = before (suc at) start more in
            absurd (omega arith))
        | inr not ↦ omega arith
      ]
      | inr not ↦ (let above = after at start (omega arith) inside in absurd (omega arith))
    ]

-- and the place after the last start of pages up to one
pub behind_page : (starts : List PageStart) (page : ℕ) (start : PageStart) (behind : ℕ) (h : IsStartIn starts page start)
    → behind ≤ length starts
    → ((k : ℕ) (d : PageStart) → k < behind → page_of (get_or starts k d).line ≤ page)
    → ((k : ℕ) (d : PageStart) → behind ≤ k → k < length starts → page < page_of (get_or starts k d).line) → behind ≡ suc h.at
behind_page starts page start behind h within before after =
    let at = h.at in
    let inside = slice_get_within starts at start h.there in
    let here = ap (λ (s : PageStart). page_of s.line) (get_or_from_slice_get starts at start start h.there) in
    let is = h.page_is in
    elim (cases_lt at behind) [
      | inl less ↦ elim (cases_lt (suc at) behind) [
        | inl more ↦ (
            let there = slice_get-get_or starts (suc at) start (omega arith) in
            let above = (h.rise at (suc at) start (get_or starts (suc at) start) (omega arith) h.there there).1 in
            let below = before (suc at) start more in
            absurd (omega arith))
        | inr not ↦ omega arith
      ]
      | inr not ↦ (let above = after at start (omega arith) inside in absurd (omega arith))
    ]
