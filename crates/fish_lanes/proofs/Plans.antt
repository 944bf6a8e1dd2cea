-- What the items of a lane say of the definitions by the plans that they tell, one item more, and views that know more.
use Rattle.std.proofs.Common.{◌≡◌, ℕ, ◌≤◌, List, [], ◌∷◌, ◌++◌, length, refl, sym, ap, subst, inl, inr, arith}
use Rattle.std.proofs.Common.{Bool, true, false, cond, drop, append-nil}
use Rattle.fish_catalog.specs.declared.listed.Listed.{Listed}
use Rattle.fish_catalog.specs.declared.row.CatRow.{CatRow}
use Rattle.fish_epoch.proofs.Reading.{knows_later}
use Rattle.fish_epoch.specs.Definitions.{rows_of, version_of}
use Rattle.fish_epoch.specs.declared.definitions.Known.{Known}
use Rattle.fish_lanes.proofs.Covering.{are_listed, gap_so, plan_so}
use Rattle.fish_lanes.proofs.Lists.{filter_first, filter_skip}
use Rattle.fish_lanes.specs.within.Doing.{IsFit, IsRefusedAt}
use Rattle.fish_lanes.specs.Plans.{PlansHold, IsNamedAt, SaysFirstPlans, SaysPlans, SaysPlansOf}
use Rattle.fish_lanes.specs.within.Plans.{AreBoundsIn, AreReadBounds}
use Rattle.fish_lanes.specs.Plans.{KnowsListed, SaysUncovered, works_behind}
use Rattle.fish_lanes.specs.Registering.{KnowsRegistry, Registry, after, after_all}
use Rattle.fish_lanes.specs.Spans.{answers, is_answer}
use Rattle.fish_lanes.specs.declared.work.Work.{Work}
use Rattle.fish_lanes.specs.declared.work.Work.TheVariants as work
use Rattle.fish_report.specs.declared.item.Item.{Item}
use Rattle.fish_report.specs.declared.item.Item.TheVariants as item
use Rattle.fish_report.specs.declared.item.ScanCause.{ScanCause}
use Rattle.fish_report.specs.declared.item.ScanCause.TheVariants as cause
use Rattle.fish_rule.specs.Logs.{Learns}
use Rattle.fish_rule.specs.Table.{IsOfMoment}
use Rattle.fish_rule.specs.declared.view.View.{View}
use Rattle.fish_scan.specs.Scans.{IsNamed}
use Rattle.fish_scan.specs.declared.ask.Ask.{Ask}
use Rattle.fish_whole.specs.Whole.{Whole}

-- ---- one item

-- the name is known to mean its text at the version that was loaded
named_at : (v u : View) (known : Known) (ask : Ask) (position version : ℕ) → version ≡ version_of known
    → IsNamed v u known ask position → IsNamedAt (KnowsListed u) ask version
named_at v u known ask position version is named = record {
  rows = rows_of known;
  are = subst (λ (z : ℕ). KnowsListed u z (rows_of known)) (sym is) named.read.rows;
  position = position;
  newest = named.newest;
}

module _ (v u : View) (r : Registry) (rows : List CatRow) (start : ℕ) (stands : IsOfMoment u) (on : Learns v u)
    (read : AreReadBounds v r.rows) (registry : KnowsRegistry v r) (bounds : AreBoundsIn u rows) (low : start ≤ v.learned.settled)
  where
    -- a refusal
    refused_so : (ask : Ask) (version first last : ℕ) → IsRefusedAt v u ask version (cause.NotCovered first last)
        → SaysUncovered (KnowsListed u) r.rows rows ask first last version
    unfolding named_at
    refused_so ask version first last f =
        let h = f.refused.1 in
        let named = h.asked.named in
        record {
          named = named_at v u f.known ask h.position version f.version_is named;
          none = gap_so v u r.rows rows _ _ h.first h.settled h.last h.plan first last on read
              (are_listed v u r f.known ask h.position stands on registry named) bounds h.covered h.gap;
        }

    scan_refused_so : (ask : Ask) (version : ℕ) (why : ScanCause) → IsRefusedAt v u ask version why
        → SaysPlansOf (KnowsListed u) r.rows rows start ask (item.ScanRefused ask.name version why)
    scan_refused_so ask version (cause.NotCovered first last) f = refused_so ask version first last f
    scan_refused_so ask version cause.UnknownName f = tt
    scan_refused_so ask version (cause.EmptyRange first last) f = tt

    explain_refused_so : (ask : Ask) (version : ℕ) (why : ScanCause) → IsRefusedAt v u ask version why
        → SaysPlansOf (KnowsListed u) r.rows rows start ask (item.ExplainRefused ask.name version why)
    explain_refused_so ask version (cause.NotCovered first last) f = refused_so ask version first last f
    explain_refused_so ask version cause.UnknownName f = tt
    explain_refused_so ask version (cause.EmptyRange first last) f = tt

    -- an item that fits its statement
    pub fit_so : (Past : Whole → Type 0) (w : Work) (x : Item) → IsFit Past v u w x → SaysPlans (KnowsListed u) r.rows rows start w x
    unfolding named_at
    fit_so Past (work.Register name def) x f = tt
    fit_so Past (work.Deregister name) x f = tt
    fit_so Past (work.Ingest form begin name file) x f = tt
    fit_so Past (work.Scan ask) x (inl f) = subst (SaysPlansOf (KnowsListed u) r.rows rows start ask) (sym f.is) tt
    fit_so Past (work.Scan ask) x (inr f) =
        subst (SaysPlansOf (KnowsListed u) r.rows rows start ask) (sym f.is) (scan_refused_so ask f.version f.why f.fits)
    fit_so Past (work.Explain ask) x (inl f) =
        let e = f.fits.explained.planned in
        let least = e.least in
        subst (SaysPlansOf (KnowsListed u) r.rows rows start ask) (sym f.is) (record {
          named = named_at v u f.fits.known ask e.position f.version f.fits.version_is e.asked.named;
          plan_is = plan_so v u r.rows rows _ _ ask.how f.from e.settled f.to f.plan start on read
              (are_listed v u r f.fits.known ask e.position stands on registry e.asked.named) bounds (omega arith) e.plan_is;
        })
    fit_so Past (work.Explain ask) x (inr f) =
        subst (SaysPlansOf (KnowsListed u) r.rows rows start ask) (sym f.is) (explain_refused_so ask f.version f.why f.fits)
    fit_so Past work.Checkpoint x f = tt

-- ---- definitions that are others

module _ {A B : ℕ → List Listed → Type 0} (so : (n : ℕ) (ls : List Listed) → A n ls → B n ls) where
  -- what was said of the one is so of the other
  named_other : (ask : Ask) (version : ℕ) → IsNamedAt A ask version → IsNamedAt B ask version
  named_other ask version h = record { rows = h.rows; are = so version h.rows h.are; position = h.position; newest = h.newest }

  of_so : (told rows : List CatRow) (start : ℕ) (ask : Ask) (x : Item) → SaysPlansOf A told rows start ask x
      → SaysPlansOf B told rows start ask x
  unfolding named_other
  of_so told rows start ask (item.Explained name value first last plan version) h =
      record { named = named_other ask version h.named; plan_is = h.plan_is }
  of_so told rows start ask (item.ExplainRefused name version (cause.NotCovered first last)) h =
      record { named = named_other ask version h.named; none = h.none }
  of_so told rows start ask (item.ScanRefused name version (cause.NotCovered first last)) h =
      record { named = named_other ask version h.named; none = h.none }
  of_so told rows start ask x h = tt

  first_so : (told rows : List CatRow) (start : ℕ) (works : List Work) (x : Item) → SaysFirstPlans A told rows start works x
      → SaysFirstPlans B told rows start works x
  first_so told rows start [] x h = tt
  first_so told rows start (work.Scan ask ∷ works) x h = of_so told rows start ask x h
  first_so told rows start (work.Explain ask ∷ works) x h = of_so told rows start ask x h
  first_so told rows start (work.Register name def ∷ works) x h = tt
  first_so told rows start (work.Deregister name ∷ works) x h = tt
  first_so told rows start (work.Ingest form begin name file ∷ works) x h = tt
  first_so told rows start (work.Checkpoint ∷ works) x h = tt

  -- by all items
  pub plans_so : (r : Registry) (rows : List CatRow) (start : ℕ) (works : List Work) (items : List Item)
      → PlansHold A r rows start works items → PlansHold B r rows start works items
  plans_so r rows start works [] h = tt
  plans_so r rows start works (x ∷ items) h =
      (first_so r.rows rows start works x h.0, plans_so (after r x) rows start (works_behind x works) items h.1)

-- by the words of a pass that knows more they are the same
pub plans_later : (u t : View) (r : Registry) (rows : List CatRow) (start : ℕ) (works : List Work) (items : List Item) → Learns u t
    → PlansHold (KnowsListed u) r rows start works items → PlansHold (KnowsListed t) r rows start works items
plans_later u t r rows start works items learns = plans_so (λ n ls. knows_later u t n ls learns) r rows start works items

-- ---- one item more

module _ (A : ℕ → List Listed → Type 0) where
  -- an item that answers nothing tells no plan
  of_other : (told rows : List CatRow) (start : ℕ) (ask : Ask) (x : Item) → is_answer x ≡ false
      → SaysPlansOf A told rows start ask x
  of_other told rows start ask (item.Explained name value first last plan version) e = absurd cc
  of_other told rows start ask (item.ExplainRefused name version (cause.NotCovered first last)) e = absurd cc
  of_other told rows start ask (item.ScanRefused name version (cause.NotCovered first last)) e = absurd cc
  of_other told rows start ask x e = tt

  first_other : (told rows : List CatRow) (start : ℕ) (works : List Work) (x : Item) → is_answer x ≡ false
      → SaysFirstPlans A told rows start works x
  first_other told rows start [] x e = tt
  first_other told rows start (work.Scan ask ∷ works) x e = of_other told rows start ask x e
  first_other told rows start (work.Explain ask ∷ works) x e = of_other told rows start ask x e
  first_other told rows start (work.Register name def ∷ works) x e = tt
  first_other told rows start (work.Deregister name ∷ works) x e = tt
  first_other told rows start (work.Ingest form begin name file ∷ works) x e = tt
  first_other told rows start (work.Checkpoint ∷ works) x e = tt

  -- what is so of the items after one is so of all, where more statements follow
  behind_one : (r : Registry) (rows : List CatRow) (start : ℕ) (later : List Work) (y : Item) (items longer : List Item)
      → ((works : List Work) → length (answers items) ≡ length works → PlansHold A (after r y) rows start works items
      → PlansHold A (after r y) rows start (works ++ later) longer)
      → (works : List Work) → length (answers (y ∷ items)) ≡ length works → PlansHold A r rows start works (y ∷ items)
      → PlansHold A r rows start (works ++ later) (y ∷ longer)
  behind_one r rows start later y items longer rest works size h = by (is_answer y) refl works size h
    where
      by : (b : Bool) → is_answer y ≡ b → (works : List Work) → length (answers (y ∷ items)) ≡ length works
          → PlansHold A r rows start works (y ∷ items) → PlansHold A r rows start (works ++ later) (y ∷ longer)
      by true e [] size h = (let z = ap length (filter_first is_answer y items e) in absurd (omega arith))
      by true e (w ∷ works) size h =
          let z = ap length (filter_first is_answer y items e) in (
            h.0,
            subst (λ (b : Bool). PlansHold A (after r y) rows start (cond b (works ++ later) (w ∷ (works ++ later))) longer) (sym e)
                (rest works (omega arith)
                (subst (λ (b : Bool). PlansHold A (after r y) rows start (cond b works (w ∷ works)) items) e h.1)),
          )
      by false e works size h =
          let z = ap length (filter_skip is_answer y items e) in (
            first_other r.rows rows start (works ++ later) y e,
            subst (λ (b : Bool). PlansHold A (after r y) rows start (cond b (drop 1 (works ++ later)) (works ++ later)) longer) (sym e)
                (rest works (omega arith)
                (subst (λ (b : Bool). PlansHold A (after r y) rows start (cond b (drop 1 works) works) items) e h.1)),
          )

  -- after the items that answer some statements stands one of those that follow
  pub plans_more : (r : Registry) (rows : List CatRow) (start : ℕ) (works later : List Work) (items : List Item) (x : Item)
      → length (answers items) ≡ length works → PlansHold A r rows start works items
      → SaysFirstPlans A (after_all r items).rows rows start later x → PlansHold A r rows start (works ++ later) (items ++ x ∷ [])
  plans_more r rows start [] later [] x size h one = (one, tt)
  plans_more r rows start (w ∷ works) later [] x size h one = absurd (omega arith)
  plans_more r rows start works later (y ∷ items) x size h one =
      behind_one r rows start later y items (items ++ x ∷ [])
      (λ rest many so. plans_more (after r y) rows start rest later items x many so one) works size h

  -- or nothing
  pub plans_longer : (r : Registry) (rows : List CatRow) (start : ℕ) (works later : List Work) (items : List Item)
      → length (answers items) ≡ length works → PlansHold A r rows start works items
      → PlansHold A r rows start (works ++ later) items
  plans_longer r rows start works later [] size h = tt
  plans_longer r rows start works later (y ∷ items) size h =
      behind_one r rows start later y items items
      (λ rest many so. plans_longer (after r y) rows start rest later items many so) works size h

  -- an item more that answers nothing
  pub plans_beside : (r : Registry) (rows : List CatRow) (start : ℕ) (works : List Work) (items : List Item) (x : Item)
      → length (answers items) ≡ length works → PlansHold A r rows start works items
      → PlansHold A r rows start works (items ++ x ∷ [])
  plans_beside r rows start works items x size h =
      subst (λ (z : List Work). PlansHold A r rows start z (items ++ x ∷ [])) (append-nil works)
      (plans_more r rows start works [] items x size h tt)
