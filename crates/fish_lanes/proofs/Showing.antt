-- What an item shows, and what else it says by its kind alone.
use Rattle.std.proofs.Common.{◌≡◌, ◌<◌, ◌≤◌, ◌⊎◌, ℕ, List, [], ◌∷◌, refl, sym, ap, subst, inl, inr, ⊎_elim, arith, true}
use Rattle.fish_lanes.proofs.Answered.{range_published}
use Rattle.fish_lanes.proofs.Publishing.{settled_published}
use Rattle.fish_lang.specs.Canonical.{definition_text}
use Rattle.fish_lang.specs.Definition.{definition_of}
use Rattle.fish_lanes.specs.within.Doing.{FitsCheckpoint, FitsScanned, IsFit, IsRefusedAt}
use Rattle.fish_lanes.specs.within.Gains.{IsFullBy}
use Rattle.fish_lanes.specs.within.Published.{IsPublished}
use Rattle.fish_lanes.specs.Registering.{ItemFits, Registry}
use Rattle.fish_lanes.specs.Running.{IsShared}
use Rattle.fish_lanes.specs.within.Running.{IsFree, IsFullItem}
use Rattle.fish_lanes.specs.Seen.{IsShown, Shown, claimed, range, settled, shown_by}
use Rattle.fish_lanes.specs.Spans.{is_answer, made_by}
use Rattle.fish_lanes.specs.Telling.{told_to}
use Rattle.fish_lanes.specs.declared.work.Work.{Work}
use Rattle.fish_lanes.specs.declared.work.Work.TheVariants as work
use Rattle.fish_report.specs.declared.item.Item.{Item}
use Rattle.fish_report.specs.declared.item.Item.TheVariants as item
use Rattle.fish_report.specs.declared.item.ScanCause.{ScanCause}
use Rattle.fish_report.specs.declared.item.ScanCause.TheVariants as cause
use Rattle.fish_rule.specs.Views.{Among}
use Rattle.fish_rule.specs.declared.view.Key.{Key}
use Rattle.fish_rule.specs.declared.view.View.{View}
use Rattle.fish_scan.specs.declared.ask.Ask.{Ask}
use Rattle.fish_walk.specs.Settling.{HasEnd, IsEnd}
use Rattle.fish_whole.specs.Whole.{Whole}

-- the number up to which all is settled, and whether one is told
abbrev count_shown : Shown → ℕ
count_shown (settled m) = m
count_shown (range from to opens) = 0
count_shown (claimed line lines end) = 0

abbrev is_count : Shown → ℕ
is_count (settled m) = 1
is_count (range from to opens) = 0
is_count (claimed line lines end) = 0

-- nothing that shows nothing shows something
shows_none : (x y : Item) (s : Shown) (P : Type 0) → x ≡ y → shown_by y ≡ [] → Among s (shown_by x) → P
shows_none x y s P is none m =
    elim (subst (λ (z : List Shown). Among s z) none (subst (λ (z : Item). Among s (shown_by z)) is m)) [ ]

module _ (u t : View) (about : t.about ≡ u.about) where
  -- what it shows of the table is published
  pub item_shown : (Past : Whole → Type 0) (w : Work) (x : Item) (n : ℕ) (s : Shown) → IsFit Past u t w x → Among s (shown_by x)
      → IsShown n s
      → t.about.number ≤ n → IsPublished t n
  item_shown Past (work.Register name def) x n s (inl f) m sh low = shows_none x _ s (IsPublished t n) f.2 refl m
  item_shown Past (work.Register name def) x n s (inr (inl f)) m sh low = shows_none x _ s (IsPublished t n) f.3 refl m
  item_shown Past (work.Register name def) x n s (inr (inr f)) m sh low = shows_none x _ s (IsPublished t n) f.1 refl m
  item_shown Past (work.Deregister name) x n s (inl f) m sh low = shows_none x _ s (IsPublished t n) f.2 refl m
  item_shown Past (work.Deregister name) x n s (inr f) m sh low = shows_none x _ s (IsPublished t n) f.1 refl m
  item_shown Past (work.Ingest form begin name file) x n s (inl f) m sh low = elim (subst (λ (z : Item). Among s (shown_by z)) f.is m) [ ]
  item_shown Past (work.Ingest form begin name file) x n s (inr (inl f)) m sh low =
      refused (subst (λ (z : Item). Among s (shown_by z)) f.is m)
    where
      refused : Among s (claimed f.line f.lines f.end ∷ []) → IsPublished t n
      refused (inr none) = elim none [ ]
      refused (inl e) = elim (subst (IsShown n) (sym e) sh) [ ]
  item_shown Past (work.Ingest form begin name file) x n s (inr (inr f)) m sh low =
      elim (subst (λ (z : Item). Among s (shown_by z)) f.is m) [ ]
  item_shown Past (work.Scan ask) x n s (inl f) m sh low =
      scanned f (subst (λ (z : Item). Among s (shown_by z)) f.is m)
    where
      scanned : (f : FitsScanned Past u t ask x) → Among s (range f.from f.to f.opens ∷ []) → IsPublished t n
      scanned f (inr none) = elim none [ ]
      scanned f (inl e) =
          let r = f.fits.planned.range in
          let i = subst (IsShown n) (sym e) sh in
          range_published u t ask f.from f.to f.opens n r
          (let same : t.about.number ≡ u.about.number = ap (λ (z : Key). z.number) about in omega arith) i.0 i.1 i.2
  item_shown Past (work.Scan ask) x n s (inr f) m sh low = elim (subst (λ (z : Item). Among s (shown_by z)) f.is m) [ ]
  item_shown Past (work.Explain ask) x n s (inl f) m sh low = elim (subst (λ (z : Item). Among s (shown_by z)) f.is m) [ ]
  item_shown Past (work.Explain ask) x n s (inr f) m sh low = elim (subst (λ (z : Item). Among s (shown_by z)) f.is m) [ ]
  item_shown Past work.Checkpoint x n s f m sh low = checked f (subst (λ (z : Item). Among s (shown_by z)) f.is m)
    where
      checked : (f : FitsCheckpoint u t x) → Among s (settled f.count ∷ []) → IsPublished t n
      checked f (inr none) = elim none [ ]
      checked f (inl e) =
          let below : n < f.count = subst (IsShown n) (sym e) sh in
          let a = f.settled in
          let b = f.counted in
          settled_published t n low (omega arith) (omega arith)

  -- and what it says is settled is
  pub item_settles : (Past : Whole → Type 0) (w : Work) (x : Item) (k : ℕ) → IsFit Past u t w x → Among (settled k) (shown_by x)
      → k ≤ t.learned.settled
  item_settles Past (work.Register name def) x k (inl f) m = shows_none x _ (settled k) (k ≤ t.learned.settled) f.2 refl m
  item_settles Past (work.Register name def) x k (inr (inl f)) m = shows_none x _ (settled k) (k ≤ t.learned.settled) f.3 refl m
  item_settles Past (work.Register name def) x k (inr (inr f)) m = shows_none x _ (settled k) (k ≤ t.learned.settled) f.1 refl m
  item_settles Past (work.Deregister name) x k (inl f) m = shows_none x _ (settled k) (k ≤ t.learned.settled) f.2 refl m
  item_settles Past (work.Deregister name) x k (inr f) m = shows_none x _ (settled k) (k ≤ t.learned.settled) f.1 refl m
  item_settles Past (work.Ingest form begin name file) x k (inl f) m =
      elim (subst (λ (z : Item). Among (settled k) (shown_by z)) f.is m) [ ]
  item_settles Past (work.Ingest form begin name file) x k (inr (inl f)) m =
      refused (subst (λ (z : Item). Among (settled k) (shown_by z)) f.is m)
    where
      refused : Among (settled k) (claimed f.line f.lines f.end ∷ []) → k ≤ t.learned.settled
      refused (inr none) = elim none [ ]
      refused (inl e) = absurd (let bad : 0 ≡ 1 = ap is_count e in cc)
  item_settles Past (work.Ingest form begin name file) x k (inr (inr f)) m =
      elim (subst (λ (z : Item). Among (settled k) (shown_by z)) f.is m) [ ]
  item_settles Past (work.Scan ask) x k (inl f) m = scanned f (subst (λ (z : Item). Among (settled k) (shown_by z)) f.is m)
    where
      scanned : (f : FitsScanned Past u t ask x) → Among (settled k) (range f.from f.to f.opens ∷ []) → k ≤ t.learned.settled
      scanned f (inr none) = elim none [ ]
      scanned f (inl e) = absurd (let bad : 0 ≡ 1 = ap is_count e in cc)
  item_settles Past (work.Scan ask) x k (inr f) m = elim (subst (λ (z : Item). Among (settled k) (shown_by z)) f.is m) [ ]
  item_settles Past (work.Explain ask) x k (inl f) m = elim (subst (λ (z : Item). Among (settled k) (shown_by z)) f.is m) [ ]
  item_settles Past (work.Explain ask) x k (inr f) m = elim (subst (λ (z : Item). Among (settled k) (shown_by z)) f.is m) [ ]
  item_settles Past work.Checkpoint x k f m = checked f (subst (λ (z : Item). Among (settled k) (shown_by z)) f.is m)
    where
      checked : (f : FitsCheckpoint u t x) → Among (settled k) (settled f.count ∷ []) → k ≤ t.learned.settled
      checked f (inr none) = elim none [ ]
      checked f (inl e) = (let same : f.count ≡ k = ap count_shown e in let a = f.settled in omega arith)

-- what tells of no number ends by any
ends_none : (x y : Item) (count : ℕ) → x ≡ y → told_to y ≡ 0 → told_to x ≤ count
ends_none x y count is none = (let e : told_to x ≡ told_to y = ap told_to is in omega arith)

-- a boundary that fits the registry was counted
registered_ends : (low high id from : ℕ) (r : Registry) (name text : List ℕ)
    → ItemFits low high r (item.Registered name id from text) → from ≤ high
registered_ends low high id from r name text (may, id_is, between) = between.1

deregistered_ends : (low high id to : ℕ) (r : Registry) (name : List ℕ) → ItemFits low high r (item.Deregistered name id to)
    → to ≤ high
deregistered_ends low high id to r name (may, active, between) = between.1

-- so was the gap for which a scan or a plan was refused
refused_ends : (u t : View) (ask : Ask) (name : List ℕ) (version : ℕ) (why : ScanCause) → IsRefusedAt u t ask version why
    → (told_to (item.ScanRefused name version why) ≤ t.learned.count) × (told_to (item.ExplainRefused name version why) ≤ t.learned.count)
refused_ends u t ask name version cause.UnknownName s = (omega arith, omega arith)
refused_ends u t ask name version (cause.EmptyRange from to) s = (omega arith, omega arith)
refused_ends u t ask name version (cause.NotCovered from to) s =
    let h = s.refused.1 in
    let under = h.gap.gap.below in
    let claimed = h.range.claimed in
    let within : h.settled ≤ h.range.count = ⊎_elim (λ (e : h.settled ≡ h.range.count). omega arith)
    (λ (e : HasEnd IsEnd u t h.settled h.range.count). (let less = e.below in omega arith)) h.stops_at in
    let most : to ≤ t.learned.count = omega arith in
    (most, most)

-- no item tells of a number that its pass hadn't counted, where a boundary fits the registry
pub item_ends : (u t : View) (Past : Whole → Type 0) (w : Work) (x : Item) → IsFit Past u t w x
    → IsShared w ⊎ ((r : Registry) × ItemFits u.learned.count t.learned.count r x) → told_to x ≤ t.learned.count
item_ends u t Past (work.Register name def) x f (inl shared) = elim shared [ ]
item_ends u t Past (work.Register name def) x (inl f) (inr so) =
    let most = registered_ends u.learned.count t.learned.count f.0 f.1 so.0 name
    (definition_text (definition_of def)) (subst (ItemFits u.learned.count t.learned.count so.0) f.2 so.1) in
    let e : told_to x ≡ f.1 = ap told_to f.2 in
    omega arith
item_ends u t Past (work.Register name def) x (inr (inl f)) (inr so) = ends_none x _ t.learned.count f.3 refl
item_ends u t Past (work.Register name def) x (inr (inr f)) (inr so) = ends_none x _ t.learned.count f.1 refl
item_ends u t Past (work.Deregister name) x f (inl shared) = elim shared [ ]
item_ends u t Past (work.Deregister name) x (inl f) (inr so) =
    let most = deregistered_ends u.learned.count t.learned.count f.0 f.1 so.0 name
    (subst (ItemFits u.learned.count t.learned.count so.0) f.2 so.1) in
    let e : told_to x ≡ f.1 = ap told_to f.2 in
    omega arith
item_ends u t Past (work.Deregister name) x (inr f) (inr so) = ends_none x _ t.learned.count f.1 refl
item_ends u t Past (work.Ingest form begin name file) x (inl f) h = ends_none x _ t.learned.count f.is refl
item_ends u t Past (work.Ingest form begin name file) x (inr (inl f)) h = ends_none x _ t.learned.count f.is refl
item_ends u t Past (work.Ingest form begin name file) x (inr (inr f)) h = ends_none x _ t.learned.count f.is refl
item_ends u t Past (work.Scan ask) x (inl f) h =
    let r = f.fits.planned.range in
    let within = r.within in
    let claimed = r.claimed in
    let e : told_to x ≡ f.to = ap told_to f.is in
    omega arith
item_ends u t Past (work.Scan ask) x (inr f) h =
    (let most = refused_ends u t ask ask.name f.version f.why f.fits in let e = ap told_to f.is in omega arith)
item_ends u t Past (work.Explain ask) x (inl f) h =
    let r = f.fits.explained.planned.range in
    let within = r.within in
    let claimed = r.claimed in
    let e : told_to x ≡ f.to = ap told_to f.is in
    omega arith
item_ends u t Past (work.Explain ask) x (inr f) h =
    (let most = refused_ends u t ask ask.name f.version f.why f.fits in let e = ap told_to f.is in omega arith)
item_ends u t Past work.Checkpoint x f h =
    (let e : told_to x ≡ f.count = ap told_to f.is in let counted = f.counted in omega arith)

-- ---- kinds

-- what fits a statement answers it
pub fit_answer : (Past : Whole → Type 0) (u t : View) (w : Work) (x : Item) → IsFit Past u t w x → is_answer x ≡ true
fit_answer Past u t (work.Register name def) x (inl f) = ap is_answer f.2
fit_answer Past u t (work.Register name def) x (inr (inl f)) = ap is_answer f.3
fit_answer Past u t (work.Register name def) x (inr (inr f)) = ap is_answer f.1
fit_answer Past u t (work.Deregister name) x (inl f) = ap is_answer f.2
fit_answer Past u t (work.Deregister name) x (inr f) = ap is_answer f.1
fit_answer Past u t (work.Ingest form begin name file) x (inl f) = ap is_answer f.is
fit_answer Past u t (work.Ingest form begin name file) x (inr (inl f)) = ap is_answer f.is
fit_answer Past u t (work.Ingest form begin name file) x (inr (inr f)) = ap is_answer f.is
fit_answer Past u t (work.Scan ask) x (inl f) = ap is_answer f.is
fit_answer Past u t (work.Scan ask) x (inr f) = ap is_answer f.is
fit_answer Past u t (work.Explain ask) x (inl f) = ap is_answer f.is
fit_answer Past u t (work.Explain ask) x (inr f) = ap is_answer f.is
fit_answer Past u t work.Checkpoint x f = ap is_answer f.is

-- and makes no version, but for registrations and their ends
pub free_made : (Past : Whole → Type 0) (u t : View) (w : Work) (x : Item) → IsFree w → IsFit Past u t w x → made_by x ≡ 0
free_made Past u t (work.Register name def) x free f = elim free [ ]
free_made Past u t (work.Deregister name) x free f = elim free [ ]
free_made Past u t (work.Ingest form begin name file) x free (inl f) = ap made_by f.is
free_made Past u t (work.Ingest form begin name file) x free (inr (inl f)) = ap made_by f.is
free_made Past u t (work.Ingest form begin name file) x free (inr (inr f)) = ap made_by f.is
free_made Past u t (work.Scan ask) x free (inl f) = ap made_by f.is
free_made Past u t (work.Scan ask) x free (inr f) = ap made_by f.is
free_made Past u t (work.Explain ask) x free (inl f) = ap made_by f.is
free_made Past u t (work.Explain ask) x free (inr f) = ap made_by f.is
free_made Past u t work.Checkpoint x free f = ap made_by f.is

-- an item of a full log names the claim that shut the pass
pub full_fit : (Past : Whole → Type 0) (u t : View) (w : Work) (x : Item) → IsFit Past u t w x → IsFullItem t x
full_fit Past u t w x fit file line lines end stored refused is = by w (subst (IsFit Past u t w) is fit)
  where
    line_in : Item → ℕ
    line_in (item.IngestFull called a b c d e) = a
    line_in x = 0

    lines_in : Item → ℕ
    lines_in (item.IngestFull called a b c d e) = b
    lines_in x = 0

    end_in : Item → ℕ
    end_in (item.IngestFull called a b c d e) = c
    end_in x = 0

    by : (w : Work) → IsFit Past u t w (item.IngestFull file line lines end stored refused)
        → IsFullBy t line lines end
    by (work.Register name def) (inl f) = (let bad = f.2 in absurd cc)
    by (work.Register name def) (inr (inl f)) = (let bad = f.3 in absurd cc)
    by (work.Register name def) (inr (inr f)) = (let bad = f.1 in absurd cc)
    by (work.Deregister name) (inl f) = (let bad = f.2 in absurd cc)
    by (work.Deregister name) (inr f) = (let bad = f.1 in absurd cc)
    by (work.Ingest form begin name content) (inl f) = (let bad = f.is in absurd cc)
    by (work.Ingest form begin name content) (inr (inl f)) =
        subst (λ (z : ℕ × ℕ × ℕ). IsFullBy t z.0 z.1 z.2)
        (λ i. (line_in (sym f.is i), lines_in (sym f.is i), end_in (sym f.is i))) f.full
    by (work.Ingest form begin name content) (inr (inr f)) = (let bad = f.is in absurd cc)
    by (work.Scan ask) (inl f) = (let bad = f.is in absurd cc)
    by (work.Scan ask) (inr f) = (let bad = f.is in absurd cc)
    by (work.Explain ask) (inl f) = (let bad = f.is in absurd cc)
    by (work.Explain ask) (inr f) = (let bad = f.is in absurd cc)
    by work.Checkpoint f = (let bad = f.is in absurd cc)
