-- Where the first entries of a log are in the pages of a file, by the page starts.
use Rattle.std.proofs.Common.{◌≡◌, ℕ, zero, suc, ◌+◌, ◌-◌, ◌*◌, ◌/◌, ◌%◌, ◌<◌, ◌≤◌, ◌⊎◌, List, [], ◌∷◌, ◌++◌, length, take, drop, get_or}
use Rattle.std.proofs.Common.{inl, inr, refl, sym, ap, ◌∙◌, subst, arith, get_or-take, length-append}
use Rattle.std.proofs.lemmas.List.{get_or-drop}
use Rattle.std.specs.Prelude.{Some, slice_get, slice_index}
use Rattle.std.proofs.lemmas.Bool.{cases_lt}
use Rattle.std.proofs.Math.Decide.{dec_le}
use Rattle.fish_catalog.specs.declared.commit.Commit.{Commit}
use Rattle.fish_catalog.specs.declared.page_start.PageStart.{PageStart}
use Rattle.fish_layout.specs.Cleared.{choose}
use Rattle.fish_layout.specs.Header.{lines_of}
use Rattle.fish_image.specs.Log.{Agrees, Follows, FollowsIn, region, region_lines}
use Rattle.fish_image.specs.Reached.{Reached, starts_behind}
use Rattle.fish_layout.specs.Pages.{page_of}
use Rattle.fish_catalog.specs.declared.entry.Entry.{Entry}
use Rattle.fish_catalog.specs.declared.entry.Entry.TheVariants.{Stored, Void}
use Rattle.fish_layout.specs.Body.{IsBody}
use Rattle.fish_image.proofs.Agreement.{agrees_number, agrees_once, follows_once, goes, lines_small}
use Rattle.fish_cold.specs.Carries.{IsEntryOf}
use Rattle.fish_cold.specs.Regions.{Leads}
use Rattle.fish_cold.specs.Starts.{AreStarts, IsStartOf}
use Rattle.fish_cold.proofs.Appended.{appended, at_end, stays}
use Rattle.fish_cold.proofs.LogWords.{ArePages}

-- ---- one region

-- where a region leaves the pages
turns : (c : Commit) (s : Reached) (lines : ℕ) (r : List ℕ) (n : Reached) → FollowsIn c s lines r n
    → (n.page ≡ page_of s.line + 1) × (n.starts ≡ starts_behind s)
turns c s lines r n (inl v) = (ap (λ (z : Reached). z.page) v.1, ap (λ (z : Reached). z.starts) v.1)
turns c s lines r n (inr v) = (ap (λ (z : Reached). z.page) v.2, ap (λ (z : Reached). z.starts) v.2)

-- the start that a region may be
abbrev start_at : Reached → PageStart
start_at s = record { number = s.number; line = s.line }

-- it is one where no region began in its page
starts_cases : (s : Reached) (d : Dec (s.page ≤ page_of s.line)) (starts : List PageStart)
    → starts ≡ choose d (s.starts ++ start_at s ∷ []) s.starts
    → ((s.page ≤ page_of s.line) × (starts ≡ s.starts ++ start_at s ∷ [])) ⊎ ((page_of s.line < s.page) × (starts ≡ s.starts))
starts_cases s (yes p) starts h = inl (p, h)
starts_cases s (no n) starts h = elim (cases_lt (page_of s.line) s.page) [
  | inl less ↦ inr (less, h)
  | inr more ↦ absurd (n (omega arith))
]

-- ---- words

-- a word of a page is one of all
page_word : (w : List ℕ) (end : ℕ) (words : ℕ → List ℕ) → ArePages w end words → (line : ℕ) → line < end
    → slice_index (words (page_of line)) (4 * (line % 32768)) ≡ slice_index w (4 * line)
page_word w end words pages line below =
    let p = page_of line in
    let i = 4 * (line % 32768) in
    let whole : 32768 * (line / 32768) + line % 32768 ≡ line = omega arith in
    let small : line % 32768 < 32768 = omega arith in
    let place : 131072 * p + i ≡ 4 * line = omega arith in
    let same = pages.part p i 1 (omega arith) (omega arith) in
    sym (get_or-drop i (words p) 0 0 ∙ ap (λ k. get_or (words p) k 0) (omega arith))
    ∙ sym (get_or-take 1 (drop i (words p)) 0 0 (omega arith))
    ∙ ap (λ l. get_or l 0 0) same
    ∙ get_or-take 1 (drop (131072 * p + i) w) 0 0 (omega arith)
    ∙ get_or-drop (131072 * p + i) w 0 0
    ∙ ap (λ k. get_or w k 0) (omega arith)

-- it lies within the page
page_within : (w : List ℕ) (end : ℕ) (words : ℕ → List ℕ) → ArePages w end words → (line : ℕ) → line < end
    → line % 32768 < length (words (page_of line)) / 4
page_within w end words pages line below =
    let whole : 32768 * (line / 32768) + line % 32768 ≡ line = omega arith in
    let small : line % 32768 < 32768 = omega arith in
    let size = pages.size (page_of line) in
    omega arith

-- ---- all regions

-- the region of number k, which begins at a line, is led to from the last page start that isn't after it
pub record IsKept (words : ℕ → List ℕ) (starts : List PageStart) (k line : ℕ) : Type 0 where
  pub start : PageStart
  pub is_start : IsStartOf starts k start
  pub page_is : page_of start.line ≡ page_of line
  pub leads : Leads (words (page_of line)) (start.line % 32768) (k - start.number) (line % 32768)

-- what the page starts of n regions say
pub record Started (c : Commit) (w : List ℕ) (words : ℕ → List ℕ) (n : ℕ) (s : Reached) : Type 0 where
  pub rise : AreStarts s.starts
  pub below : (j : ℕ) (start : PageStart) → slice_get s.starts j ≡ Some start → (start.number < n)
      × (page_of start.line < s.page) × (start.line < s.line)
  pub page : s.page ≤ page_of s.line + 1
  pub kept : (k : ℕ) (t : Reached) → k < n → Agrees c w k t → IsKept words s.starts k t.line

module _ (c : Commit) (w : List ℕ) (end : ℕ) (words : ℕ → List ℕ) (pages : ArePages w end words) where
  -- a region after one in its page is led to from the same start
  next_in_page : (j : ℕ) (s r : Reached) → Agrees c w j r → Follows c w r s → Started c w words (suc j) s → s.line < end
      → page_of s.line < s.page → IsKept words s.starts (suc j) s.line
  next_in_page j s r before follows st below same =
      let g = goes c r _ _ s follows in
      let some = g.some in
      let line = g.line in
      let turned = (turns c r _ _ s follows).0 in
      let page : page_of r.line ≡ page_of s.line = omega arith in
      let kept = st.kept j r (omega arith) before in
      let is = kept.is_start in
      let low = st.below is.at kept.start is.there in
      let begins = is.begins in
      let counted : suc (j - kept.start.number) ≡ suc j - kept.start.number = omega arith in
      let header : lines_of (slice_index (words (page_of r.line)) (4 * (r.line % 32768))) ≡ region_lines (drop (4 * r.line) w) =
      ap lines_of (page_word w end words pages r.line (omega arith) ∙ sym
      (get_or-drop (4 * r.line) w 0 0 ∙ ap (λ k. get_or w k 0) (omega arith))) in
      let within = page_within w end words pages s.line below in
      let size = ap (λ p. length (words p)) page in
      record {
        start = kept.start;
        is_start = record {
          rise = is.rise;
          at = is.at;
          there = is.there;
          begins = omega arith;
          last = λ i other behind there. (let less = (st.below i other there).0 in let more = is.last i other behind there in
              absurd (omega arith));
        };
        page_is = kept.page_is ∙ page;
        leads = subst (λ k. Leads (words (page_of s.line)) (kept.start.line % 32768) k (s.line % 32768)) counted
            (subst (λ p. Leads (words p) (kept.start.line % 32768) (suc (j - kept.start.number)) (s.line % 32768)) page
            (r.line % 32768, kept.leads, omega arith, omega arith, omega arith));
      }

  -- one region more, in the page of the one before
  more_in_page : (n : ℕ) (s m : Reached) → Agrees c w n s → Follows c w s m → Started c w words n s → s.line < end
      → page_of s.line < s.page → m.starts ≡ s.starts → IsKept words s.starts n s.line → Started c w words (suc n) m
  more_in_page n s m agrees follows st below same starts here =
      let g = goes c s _ _ m follows in
      let some = g.some in
      let line = g.line in
      let turned = (turns c s _ _ m follows).0 in
      let page = st.page in
      record {
        rise = subst AreStarts (sym starts) st.rise;
        below = λ j start there. (
            let low = st.below j start (subst (λ l. slice_get l j ≡ Some start) starts there) in
            let number = low.0 in
            let lower = low.1 in
            let lines = low.2 in (omega arith, omega arith, omega arith));
        page = omega arith;
        kept = λ k t less at. elim (cases_lt k n) [
          | inl before ↦ subst (λ l. IsKept words l k t.line) (sym starts) (st.kept k t before at)
          | inr last ↦ subst (λ l. IsKept words l k t.line) (sym starts)
              (here_again n k s t agrees at (omega arith) here)
        ];
      } where
        here_again : (n k : ℕ) (s t : Reached) → Agrees c w n s → Agrees c w k t → k ≡ n → IsKept words s.starts n s.line
            → IsKept words s.starts k t.line
        here_again n k s t agrees at is here =
            let one : s ≡ t = agrees_once c w n s t agrees (subst (λ j. Agrees c w j t) is at) in
            subst (λ (z : Reached). IsKept words s.starts k z.line) one (subst (λ j. IsKept words s.starts j s.line) (sym is) here)

  -- the region at the front of a page is its start
  first_in_page : (s : Reached) (starts : List PageStart) → s.line < end → AreStarts (starts ++ start_at s ∷ [])
      → IsKept words (starts ++ start_at s ∷ []) s.number s.line
  first_in_page s starts below rise =
      let within = page_within w end words pages s.line below in
      let none : 0 ≡ s.number - s.number = omega arith in
      record {
        start = start_at s;
        is_start = record {
          rise = rise;
          at = length starts;
          there = at_end starts (start_at s);
          begins = omega arith;
          last = λ j other behind there. elim (appended starts (start_at s) j other there) [
            | inl old ↦ (let inside = old.0 in absurd (omega arith))
            | inr new ↦ (let place = new.0 in absurd (omega arith))
          ];
        };
        page_is = refl;
        leads = subst (λ k. Leads (words (page_of s.line)) (s.line % 32768) k (s.line % 32768)) none (refl, within);
      }

  -- a region that is kept stays so with a later start
  kept_more : (starts : List PageStart) (new : PageStart) (k line : ℕ) → k < new.number → AreStarts (starts ++ new ∷ [])
      → IsKept words starts k line → IsKept words (starts ++ new ∷ []) k line
  kept_more starts new k line later rise kept =
      let is = kept.is_start in
      record {
        start = kept.start;
        is_start = record {
          rise = rise;
          at = is.at;
          there = stays starts new is.at kept.start is.there;
          begins = is.begins;
          last = λ j other behind there. elim (appended starts new j other there) [
            | inl old ↦ is.last j other behind old.1
            | inr last ↦ subst (λ (o : PageStart). k < o.number) last.1 later
          ];
        };
        page_is = kept.page_is;
        leads = kept.leads;
      }

  -- starts rise with the one after them
  rise_more : (n : ℕ) (s : Reached) → Started c w words n s → s.number ≡ n → s.page ≤ page_of s.line
      → AreStarts (s.starts ++ start_at s ∷ [])
  rise_more n s st number fresh i j a b less one two =
      elim (appended s.starts (start_at s) j b two) [
        | inl old ↦ elim (appended s.starts (start_at s) i a one) [
          | inl first ↦ st.rise i j a b less first.1 old.1
          | inr last ↦ (let place = last.0 in let inside = old.0 in absurd (omega arith))
        ]
        | inr new ↦ elim (appended s.starts (start_at s) i a one) [
          | inl first ↦ (
              let low = st.below i a first.1 in
              let fewer = low.0 in
              let lower = low.1 in
              subst (λ (o : PageStart). (a.number < o.number) × (page_of a.line < page_of o.line)) new.1 (omega arith, omega arith))
          | inr last ↦ (let place = last.0 in let other = new.0 in absurd (omega arith))
        ]
      ]

  -- one region more, the first of its page
  more_on_page : (n : ℕ) (s m : Reached) → Agrees c w n s → Follows c w s m → Started c w words n s → s.line < end
      → s.page ≤ page_of s.line → m.starts ≡ s.starts ++ start_at s ∷ [] → Started c w words (suc n) m
  more_on_page n s m agrees follows st below fresh starts =
      let g = goes c s _ _ m follows in
      let some = g.some in
      let line = g.line in
      let turned = (turns c s _ _ m follows).0 in
      let number = agrees_number c w n s agrees in
      let rise = rise_more n s st number fresh in
      record {
        rise = subst AreStarts (sym starts) rise;
        below = λ j start there. elim (appended s.starts (start_at s) j start (subst (λ l. slice_get l j ≡ Some start) starts there)) [
          | inl old ↦ (
              let low = st.below j start old.1 in
              let fewer = low.0 in
              let lower = low.1 in
              let lines = low.2 in (omega arith, omega arith, omega arith))
          | inr new ↦ subst (λ (o : PageStart). (o.number < suc n) × (page_of o.line < m.page) × (o.line < m.line)) new.1
              (omega arith, omega arith, omega arith)
        ];
        page = omega arith;
        kept = λ k t less at. subst (λ l. IsKept words l k t.line) (sym starts) (elim (cases_lt k n) [
          | inl before ↦ kept_more s.starts (start_at s) k t.line (omega arith) rise (st.kept k t before at)
          | inr last ↦ here_too n k s t agrees at (omega arith) number (first_in_page s s.starts below rise)
        ]);
      } where
        here_too : (n k : ℕ) (s t : Reached) → Agrees c w n s → Agrees c w k t → k ≡ n → s.number ≡ n
            → IsKept words (s.starts ++ start_at s ∷ []) s.number s.line → IsKept words (s.starts ++ start_at s ∷ []) k t.line
        here_too n k s t agrees at is number here =
            let one : s ≡ t = agrees_once c w n s t agrees (subst (λ j. Agrees c w j t) is at) in
            subst (λ (z : Reached). IsKept words (s.starts ++ start_at s ∷ []) k z.line) one
            (subst (λ j. IsKept words (s.starts ++ start_at s ∷ []) j s.line) (number ∙ sym is) here)

  -- the region that comes next is led to where its page has begun
  next_kept : (n : ℕ) (s : Reached) → Agrees c w n s → Started c w words n s → s.line < end → page_of s.line < s.page
      → IsKept words s.starts n s.line
  next_kept zero s h st below begun =
      let none = ap (λ (z : Reached). z.page) h in absurd (omega arith)
  next_kept (suc j) s h st below begun = next_in_page j s h.0 h.1 h.2 st below begun

  pub all_started : (n : ℕ) (s : Reached) → Agrees c w n s → s.line ≤ end → Started c w words n s
  all_started zero s h within =
      let starts : s.starts ≡ [] = ap (λ (z : Reached). z.starts) h in
      let page = ap (λ (z : Reached). z.page) h in
      record {
        rise = λ i j a b less one two. absurd (nothing i a (subst (λ l. slice_get l i ≡ Some a) starts one));
        below = λ j start there. absurd (nothing j start (subst (λ l. slice_get l j ≡ Some start) starts there));
        page = omega arith;
        kept = λ k t less at. absurd (omega arith);
      } where
        nothing : (i : ℕ) (a : PageStart) → slice_get [] i ≡ Some a → ⊥
        nothing i a h = cc
  all_started (suc n) m h within =
      let s = h.0 in
      let g = goes c s _ _ m h.2 in
      let some = g.some in
      let line = g.line in
      let st = all_started n s h.1 (omega arith) in
      let turned = (turns c s _ _ m h.2).1 in
      elim (starts_cases s (dec_le s.page (page_of s.line)) m.starts turned) [
        | inl fresh ↦ more_on_page n s m h.1 h.2 st (omega arith) fresh.0 fresh.1
        | inr begun ↦ more_in_page n s m h.1 h.2 st (omega arith) begun.0 begun.1 (next_kept n s h.1 st (omega arith) begun.0)
      ]

-- ---- entries

-- a region puts its entry after the others
abbrev pub entry_in : {c : Commit} {s : Reached} {lines : ℕ} {r : List ℕ} {n : Reached} → FollowsIn c s lines r n → Entry
entry_in (inl v) = Void
entry_in (inr v) = Stored v.0.lane v.0.form v.0.payload

adds_entry : (c : Commit) (s : Reached) (lines : ℕ) (r : List ℕ) (n : Reached) (h : FollowsIn c s lines r n)
    → n.entries ≡ s.entries ++ entry_in h ∷ []
adds_entry c s lines r n (inl v) = ap (λ (z : Reached). z.entries) v.1
adds_entry c s lines r n (inr v) = ap (λ (z : Reached). z.entries) v.2

-- as many entries as regions
count_entries : (c : Commit) (w : List ℕ) (n : ℕ) (s : Reached) → Agrees c w n s → length s.entries ≡ n
count_entries c w zero s h = ap (λ (z : Reached). length z.entries) h
count_entries c w (suc n) s h =
    let before = count_entries c w n h.0 h.1 in
    let more = length-append h.0.entries (entry_in h.2 ∷ []) in
    ap length (adds_entry c h.0 _ _ s h.2) ∙ omega arith

-- the entry of each region stays in its place
pub entry_at : (c : Commit) (w : List ℕ) (n : ℕ) (s : Reached) → Agrees c w n s → (k : ℕ) (t u : Reached) → k < n → Agrees c w k t
    → (f : Follows c w t u) → slice_get s.entries k ≡ Some (entry_in f)
entry_at c w zero s h k t u less at f = absurd (omega arith)
entry_at c w (suc n) s h k t u less at f =
    elim (cases_lt k n) [
      | inl before ↦
          subst (λ l. slice_get l k ≡ Some (entry_in f)) (sym (adds_entry c h.0 _ _ s h.2))
          (stays h.0.entries (entry_in h.2) k (entry_in f) (entry_at c w n h.0 h.1 k t u before at f))
      | inr last ↦ (
          let here : k ≡ n = omega arith in
          let one : h.0 ≡ t = agrees_once c w n h.0 t h.1 (subst (λ j. Agrees c w j t) here at) in
          let other : Follows c w t s = subst (λ (z : Reached). Follows c w z s) one h.2 in
          let same : s ≡ u = follows_once c t _ _ s u (lines_small (slice_index (drop (4 * t.line) w) 0)) other f in
          let size = count_entries c w k t at in
          subst (λ (z : Reached). slice_get z.entries k ≡ Some (entry_in f)) (sym same)
          (subst (λ l. slice_get l k ≡ Some (entry_in f)) (sym (adds_entry c t _ _ u f))
          (subst (λ j. slice_get (t.entries ++ entry_in f ∷ []) j ≡ Some (entry_in f)) size (at_end t.entries (entry_in f)))))
    ]

-- lines don't fall
pub line_grows : (c : Commit) (w : List ℕ) (n : ℕ) (s : Reached) → Agrees c w n s → (k : ℕ) (t u : Reached) → k < n → Agrees c w k t
    → Follows c w t u → u.line ≤ s.line
line_grows c w zero s h k t u less at f = absurd (omega arith)
line_grows c w (suc n) s h k t u less at f =
    let g = goes c h.0 _ _ s h.2 in
    let line = g.line in
    elim (cases_lt k n) [
      | inl before ↦ (let low = line_grows c w n h.0 h.1 k t u before at f in omega arith)
      | inr last ↦ (
          let here : k ≡ n = omega arith in
          let one : h.0 ≡ t = agrees_once c w n h.0 t h.1 (subst (λ j. Agrees c w j t) here at) in
          let other : Follows c w t s = subst (λ (z : Reached). Follows c w z s) one h.2 in
          let same : s ≡ u = follows_once c t _ _ s u (lines_small (slice_index (drop (4 * t.line) w) 0)) other f in
          let lines = ap (λ (z : Reached). z.line) same in
          omega arith)
    ]

-- ---- the words of a region, in its page

module _ (c : Commit) (w : List ℕ) (end : ℕ) (words : ℕ → List ℕ) (pages : ArePages w end words) where
  -- the words of a page from the region's line on
  abbrev pub rest_on : Reached → List ℕ
  rest_on t = drop (4 * (t.line % 32768)) (words (page_of t.line))

  -- begin with its header
  head_on : (t : Reached) → t.line < end → slice_index (rest_on t) 0 ≡ slice_index (drop (4 * t.line) w) 0
  head_on t below =
      get_or-drop (4 * (t.line % 32768)) (words (page_of t.line)) 0 0
      ∙ ap (λ k. get_or (words (page_of t.line)) k 0) (omega arith)
      ∙ page_word w end words pages t.line below
      ∙ sym (get_or-drop (4 * t.line) w 0 0 ∙ ap (λ k. get_or w k 0) (omega arith))

  -- and are its words, where it ends in the page
  pub region_on : (t : Reached) → t.line < end → (lines : ℕ) → lines ≡ region_lines (drop (4 * t.line) w) → 1 ≤ lines
      → page_of (t.line + lines - 1) ≡ page_of t.line → t.line + lines ≤ end → region (rest_on t) ≡ region (drop (4 * t.line) w)
  region_on t below lines is some in_page within =
      let header : region_lines (rest_on t) ≡ lines = ap lines_of (head_on t below) ∙ sym is in
      let whole : 32768 * (t.line / 32768) + t.line % 32768 ≡ t.line = omega arith in
      let last : 32768 * ((t.line + lines - 1) / 32768) + (t.line + lines - 1) % 32768 ≡ t.line + lines - 1 = omega arith in
      let small : (t.line + lines - 1) % 32768 < 32768 = omega arith in
      let place : 131072 * page_of t.line + 4 * (t.line % 32768) ≡ 4 * t.line = omega arith in
      ap (λ n. take (4 * n) (rest_on t)) header
      ∙ pages.part (page_of t.line) (4 * (t.line % 32768)) (4 * lines) (omega arith) (omega arith)
      ∙ ap (λ n. take (4 * lines) (drop n w)) place
      ∙ ap (λ n. take (4 * n) (drop (4 * t.line) w)) is

  -- so they are answered as the entry
  pub carried_entry : (t u : Reached) → (f : Follows c w t u) → u.line ≤ end → IsEntryOf (rest_on t) (entry_in f)
  carried_entry t u (inl v) within =
      let some = v.0.some in
      let line = ap (λ (z : Reached). z.line) v.1 in
      let below : t.line < end = omega arith in
      let lines = region_lines (drop (4 * t.line) w) in
      let first : slice_index (region (drop (4 * t.line) w)) 0 ≡ slice_index (drop (4 * t.line) w) 0 =
      get_or-take (4 * lines) (drop (4 * t.line) w) 0 0 (omega arith) in
      inl (
        (
          lines,
          some,
          lines_small (slice_index (drop (4 * t.line) w) 0),
          head_on t below ∙ sym first
              ∙ ap (λ l. slice_index l 0) v.0.words,
        ),
        refl,
      )
  carried_entry t u (inr v) within =
      let some = (goes c t _ _ u (inr v)).some in
      let line = ap (λ (z : Reached). z.line) v.2 in
      let below : t.line < end = omega arith in
      inr (v.0, subst (IsBody v.0) (sym (region_on t below _ refl some v.1.kept.in_page (omega arith))) v.1.body, refl)
