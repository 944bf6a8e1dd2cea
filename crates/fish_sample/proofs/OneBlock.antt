-- One block of a sample: what it leaves, by what the run of a block says.
use Rattle.std.proofs.Common.{◌≡◌, ℕ, zero, suc, List, [], ◌∷◌, ◌++◌, length, refl, sym, ap, ◌∙◌, subst, arith}
use Rattle.std.proofs.Common.{true, false, Option, Some, None, append-nil, slice_get}
use Rattle.std.proofs.lemmas.Bool.{false≢true}
use Rattle.std.specs.Prelude.{is_some}
use Rattle.std.specs.List.{list_all}
use Rattle.fish_disk.specs.declared.disk.Disk.{Ghosts as Disks}
use Rattle.fish_lanes.proofs.Lists.{some_once}
use Rattle.fish_lanes.specs.Blocks.{AreEnded, AreKept, EachLane, EachLanePair, HasRegistered, IsBlockSpan, control_items}
use Rattle.fish_lanes.specs.Controlling.{bound_items}
use Rattle.fish_lanes.specs.Ending.{EndsAlone}
use Rattle.fish_lanes.specs.Registering.{after_all, registry_of}
use Rattle.fish_lanes.specs.Spans.{answers}
use Rattle.fish_lanes.specs.declared.block.BlockEnd.{BlockEnd}
use Rattle.fish_lanes.specs.declared.block.Boundary.{Boundary}
use Rattle.fish_lanes.specs.declared.lane.Lane.{Lane}
use Rattle.fish_lanes.specs.declared.work.Work.{Work}
use Rattle.fish_lanes.specs.declared.work.LaneFault.{LaneFault}
use Rattle.fish_lanes.specs.declared.work.LaneFault.TheVariants as cause
use Rattle.fish_report.specs.declared.item.Item.{Item}
use Rattle.fish_rule.specs.Passes.{view}
use Rattle.fish_rule.specs.declared.view.View.{View}
use Rattle.fish_sample.proofs.Telling.{and_both, none_left}
use Rattle.fish_sample.specs.within.Blocks.{span_of}
use Rattle.fish_sample.specs.within.Items.{is_none_fault, is_whole_lane}
use Rattle.fish_store.specs.declared.store.Store.{Store}

-- ---- lanes that did all

no_fault : (f : LaneFault) → is_none_fault f ≡ true → f ≡ cause.None
no_fault cause.None h = refl
no_fault f h = absurd (false≢true h)

-- each lane of the list is whole
pub whole_at : (lanes : List Lane) → list_all is_whole_lane lanes ≡ true → (i : ℕ) (x : Lane) → slice_get lanes i ≡ Some x
    → (x.fault ≡ cause.None) × (x.left ≡ [])
whole_at [] h i x at = absurd cc
whole_at (y ∷ lanes) h zero x at =
    let both = and_both (is_whole_lane y) (list_all is_whole_lane lanes) h in
    let parts = and_both (is_none_fault y.fault) _ both.0 in
    subst (λ (z : Lane). (z.fault ≡ cause.None) × (z.left ≡ [])) (some_once y x at) (no_fault y.fault parts.0, none_left y.left parts.1)
whole_at (y ∷ lanes) h (suc i) x at = whole_at lanes (and_both (is_whole_lane y) (list_all is_whole_lane lanes) h).1 i x at

-- no boundary was found later
no_bound : (bound : Option Boundary) → is_some bound ≡ false → bound_items bound ≡ []
no_bound None h = refl
no_bound (Some b) h = absurd (false≢true (sym h))

module _ (lanes : List Lane) (whole : list_all is_whole_lane lanes ≡ true) where
  -- they keep their statements
  pub kept_works : (old : List Lane) → AreKept old lanes → EachLanePair (λ i x y. y.works ≡ x.works) old lanes
  kept_works old kept i x y one two =
      let none = (whole_at lanes whole i y two).1 in
      sym ((kept i x y one two).works ∙ ap (λ (z : List Work). y.works ++ z) none ∙ append-nil y.works)

  -- each of which has an item that answers it
  pub all_ended : AreEnded lanes → EachLane (λ i x. length (answers x.items) ≡ length x.works) lanes
  all_ended ended i x at = (ended i x at).ended.whole (whole_at lanes whole i x at).0

  module _ {D : Type 0} (disks : Disks D) (disk : D) (s : Store) (disk' : D) (t : Store)
      (old : List Lane) (from : ℕ) (end : BlockEnd) (unbound : is_some end.bound ≡ false)
      (registered : (x : Lane) → slice_get lanes 0 ≡ Some x
      → HasRegistered (view s.pass) (view t.pass) s.registrar t.registrar x end) where
    items_are : (x : Lane) → control_items x end ≡ x.items
    items_are x = ap (λ (z : List Item). x.items ++ z) (no_bound end.bound unbound) ∙ append-nil x.items

    -- the definitions after it
    pub registry_is : (x : Lane) → slice_get lanes 0 ≡ Some x
        → registry_of (view t.pass) t.registrar ≡ after_all (registry_of (view s.pass) s.registrar) x.items
    registry_is x at = (registered x at).is (whole_at lanes whole 0 x at).0
        ∙ ap (after_all (registry_of (view s.pass) s.registrar)) (items_are x)

-- the block lies in its span
pub span_is : (v u : View) (from to lanes : ℕ) → EndsAlone v from → IsBlockSpan v u to (span_of v u from to lanes)
span_is v u from to lanes begins = record { begins = begins; ends = refl; first = omega arith; last = omega arith; full = refl }
