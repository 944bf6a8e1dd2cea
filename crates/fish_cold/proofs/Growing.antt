-- What is held of pages below the old base stays what is read below a later one.
use Rattle.std.proofs.Common.{◌≡◌, ℕ, suc, ◌+◌, ◌-◌, ◌*◌, ◌<◌, ◌≤◌, ◌⊎◌, List, [], ◌∷◌, ◌++◌, length, length-append}
use Rattle.std.proofs.Common.{inl, inr, ap, ◌∙◌, subst, arith}
use Rattle.std.specs.Prelude.{Some, slice_get}
use Rattle.std.proofs.Math.Decide.{dec_le}
use Rattle.fish_catalog.specs.declared.page_start.PageStart.{PageStart}
use Rattle.fish_layout.specs.Pages.{page_of}
use Rattle.fish_layout.specs.Cleared.{choose}
use Rattle.fish_cold.specs.Caching.{IsPageIn}
use Rattle.fish_cold.specs.Pages.{lines_below, log_words, page_size, page_words}
use Rattle.fish_catalog.specs.PageStarts.{page_after, page_behind}
use Rattle.fish_cold.specs.Starts.{AddsFrom, IsStartIn, with_start, with_starts}
use Rattle.fish_cold.specs.declared.page.Page.{Page}
use Rattle.fish_cold.proofs.Appended.{appended, at_end, stays}

-- a start that is there stays
stays_by : (starts : List PageStart) (start : PageStart) (d : Dec (page_after starts ≤ page_of start.line)) (j : ℕ) (s : PageStart)
    → slice_get starts j ≡ Some s → slice_get (choose d (starts ++ start ∷ []) starts) j ≡ Some s
stays_by starts start (yes p) j s h = stays starts start j s h
stays_by starts start (no n) j s h = h

starts_stay : (starts more : List PageStart) (j : ℕ) (s : PageStart) → slice_get starts j ≡ Some s
    → slice_get (with_starts starts more) j ≡ Some s
starts_stay starts [] j s h = h
starts_stay starts (start ∷ more) j s h =
    starts_stay (with_start starts start) more j s (stays_by starts start (dec_le (page_after starts) (page_of start.line)) j s h)

-- and one that is there was, or is one of those that came
one_of_by : (starts : List PageStart) (start : PageStart) (d : Dec (page_after starts ≤ page_of start.line)) (j : ℕ) (s : PageStart)
    → slice_get (choose d (starts ++ start ∷ []) starts) j ≡ Some s
    → (slice_get starts j ≡ Some s) ⊎ ((start ≡ s) × (page_after starts ≤ page_of start.line))
one_of_by starts start (yes p) j s h = elim (appended starts start j s h) [
  | inl old ↦ inl old.1
  | inr new ↦ inr (new.1, p)
]
one_of_by starts start (no n) j s h = inl h

-- the page after them doesn't fall
after_grows_by : (starts : List PageStart) (start : PageStart) (d : Dec (page_after starts ≤ page_of start.line))
    → page_after starts ≤ page_after (choose d (starts ++ start ∷ []) starts)
after_grows_by starts start (yes p) =
    let size = length-append starts (start ∷ []) in
    let last : length (starts ++ start ∷ []) - 1 ≡ length starts = omega arith in
    let there : slice_get (starts ++ start ∷ []) (length (starts ++ start ∷ []) - 1) ≡ Some start =
    ap (slice_get (starts ++ start ∷ [])) last ∙ at_end starts start in
    let after : page_after (starts ++ start ∷ []) ≡ page_of start.line + 1 = ap page_behind there in
    omega arith
after_grows_by starts start (no n) = omega arith

one_of : (starts more : List PageStart) (j : ℕ) (s : PageStart) → slice_get (with_starts starts more) j ≡ Some s
    → (slice_get starts j ≡ Some s) ⊎ ((i : ℕ) × (slice_get more i ≡ Some s) × (page_after starts ≤ page_of s.line))
one_of starts [] j s h = inl h
one_of starts (start ∷ more) j s h = elim (one_of (with_start starts start) more j s h) [
  | inl old ↦ elim (one_of_by starts start (dec_le (page_after starts) (page_of start.line)) j s old) [
    | inl first ↦ inl first
    | inr new ↦ inr (0, ap Some new.0, subst (λ (z : PageStart). page_after starts ≤ page_of z.line) new.0 new.1)
  ]
  | inr later ↦ (
      let grows = after_grows_by starts start (dec_le (page_after starts) (page_of start.line)) in
      let past = later.2 in
      inr (suc later.0, later.1, omega arith))
]

-- a page below the base is whole below both bases
same_words : (end later n : ℕ) (c : List ℕ) → end ≤ later → n < page_of end → page_words end n c ≡ page_words later n c
same_words end later n c more below =
    let whole : 32768 * (n + 1) ≤ end = omega arith in
    let one : lines_below end n ≡ 32768 = omega arith in
    let two : lines_below later n ≡ 32768 = omega arith in
    let size : page_size end n c ≡ page_size later n c = omega arith in
    ap (log_words c (131072 * n)) size

pub page_grown : (end later : ℕ) (starts more : List PageStart) (c : List ℕ) (n : ℕ) (page : Page) → end ≤ later → n < page_of end
    → AddsFrom starts end more → IsPageIn end starts c n page → IsPageIn later (with_starts starts more) c n page
page_grown end later starts more c n page longer below behind h = record {
  words = h.words ∙ same_words end later n c longer below;
  regions = λ start is. h.regions start (old_start start is);
} where
  old_start : (start : PageStart) → IsStartIn (with_starts starts more) n start → IsStartIn starts n start
  old_start start is = record {
    rise = λ i j a b less one two. is.rise i j a b less (starts_stay starts more i a one) (starts_stay starts more j b two);
    at = is.at;
    there = elim (one_of starts more is.at start is.there) [
      | inl old ↦ old
      | inr new ↦ (
          let far = behind new.0 start new.1 new.2 in
          let page_is = is.page_is in
          absurd (omega arith))
    ];
    page_is = is.page_is;
  }
