-- The first page in which no region begins is the one after that of the last page start.
use Rattle.std.proofs.Common.{◌≡◌, ℕ, zero, suc, ◌+◌, ◌-◌, ◌<◌, ◌≤◌, inl, inr, List, [], ◌∷◌, ◌++◌, length, length-append, Some, slice_get}
use Rattle.std.proofs.Common.{refl, sym, ap, ◌∙◌, arith}
use Rattle.std.proofs.Math.Decide.{dec_le}
use Rattle.fish_catalog.specs.PageStarts.{page_after, page_behind, starts_after}
use Rattle.fish_catalog.specs.declared.commit.Commit.{Commit}
use Rattle.fish_catalog.specs.declared.page_start.PageStart.{PageStart}
use Rattle.fish_flush.proofs.RegionSteps.{next_page, next_starts}
use Rattle.fish_flush.specs.Laws.{PagesFollowStarts}
use Rattle.fish_image.specs.Log.{Agrees, FollowsIn}
use Rattle.fish_image.specs.Reached.{Reached}
use Rattle.fish_layout.specs.Cleared.{choose}
use Rattle.fish_layout.specs.Pages.{page_of}

-- the last of a list with one more is that one
last_there : (xs : List PageStart) (x : PageStart) → slice_get (xs ++ x ∷ []) (length xs) ≡ Some x
last_there [] x = refl
last_there (y ∷ xs) x = last_there xs x

-- so its page is the last one
page_pushed : (xs : List PageStart) (x : PageStart) → page_after (xs ++ x ∷ []) ≡ page_of x.line + 1
page_pushed xs x =
    let size = length-append xs (x ∷ []) in
    let last : length (xs ++ x ∷ []) - 1 ≡ length xs = omega arith in
    ap (λ (n : ℕ). page_behind (slice_get (xs ++ x ∷ []) n)) last ∙ ap page_behind (last_there xs x)

-- a region that follows begins where the one before ends
next_line : (c : Commit) (s : Reached) (lines : ℕ) (r : List ℕ) (t : Reached) → FollowsIn c s lines r t → t.line ≡ s.line + lines
next_line c s lines r t (inl v) = ap (λ (z : Reached). z.line) v.1
next_line c s lines r t (inr v) = ap (λ (z : Reached). z.line) v.2

-- one region more, whether or not it is the first of its page
page_next : (page number line : ℕ) (starts : List PageStart) → page ≡ page_after starts → page ≤ page_of line + 1
    → page_of line + 1 ≡ page_after (starts_after page number line starts)
page_next page number line starts same most = by (dec_le page (page_of line))
  where
    by : (d : Dec (page ≤ page_of line))
        → page_of line + 1 ≡ page_after (choose d (starts ++ record { number = number; line = line } ∷ []) starts)
    by (yes h) = sym (page_pushed starts (record { number = number; line = line }))
    by (no h) = (let late : page_of line < page = omega arith in let here : page_of line + 1 ≡ page = omega arith in here ∙ same)

-- so it is after every region, and that page is at most the one after the next line's
page_so_far : (c : Commit) (words : List ℕ) (n : ℕ) (s : Reached) → Agrees c words n s
    → (s.page ≡ page_after s.starts) × (s.page ≤ page_of s.line + 1)
page_so_far c words zero s h = (
  ap (λ (z : Reached). z.page) h ∙ ap (λ (z : Reached). page_after z.starts) (sym h),
  (let none = ap (λ (z : Reached). z.page) h in omega arith),
)
page_so_far c words (suc n) s h =
    let t = h.0 in
    let before = page_so_far c words n t h.1 in
    let page = next_page c t _ _ s h.2 in
    let line = next_line c t _ _ s h.2 in (
      page ∙ page_next t.page t.number t.line t.starts before.0 before.1 ∙ ap page_after (sym (next_starts c t _ _ s h.2)),
      omega arith,
    )

pub pages_follow_starts : PagesFollowStarts
pages_follow_starts c words n s agrees = (page_so_far c words n s agrees).0
