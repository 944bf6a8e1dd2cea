-- What items tell of a full log, one statement after the other.
use Rattle.std.proofs.Common.{◌≡◌, ◌≢◌, ◌&&◌, ◌∙◌, ◌++◌, List, [], ◌∷◌, Option, Some, None, Bool, true, false, not, refl, sym, ap, inl, inr}
use Rattle.std.proofs.Common.{⊎_elim, subst, Ok, Err}
use Rattle.std.specs.Prelude.{is_some}
use Rattle.fish_lanes.proofs.Lists.{all_more}
use Rattle.fish_lanes.proofs.Showing.{full_fit}
use Rattle.fish_lanes.specs.within.Advancing.{HasNextItem}
use Rattle.fish_lanes.specs.within.Causes.{fault_of_stop}
use Rattle.fish_lanes.specs.within.Controlling.{HasPolled}
use Rattle.fish_lanes.specs.within.Doing.{IsFit}
use Rattle.fish_lanes.specs.Full.{AreFullLast, EndsFull, IsNotFull}
use Rattle.fish_lanes.specs.within.Full.{HasMetFull, SaysLast}
use Rattle.fish_lanes.specs.Gains.{WasShut}
use Rattle.fish_lanes.specs.within.Pasts.{anywhere}
use Rattle.fish_lanes.specs.within.Running.{IsFullItem}
use Rattle.fish_lanes.specs.Sizes.{SaysClaim}
use Rattle.fish_lanes.specs.within.Sizes.{SaysShut}
use Rattle.fish_lanes.specs.declared.statements.Stop.{Stop}
use Rattle.fish_lanes.specs.declared.statements.Stop.TheVariants as stop
use Rattle.fish_lanes.specs.declared.work.LaneFault.{LaneFault}
use Rattle.fish_lanes.specs.declared.work.LaneFault.TheVariants as fault
use Rattle.fish_lanes.specs.declared.work.Work.{Work}
use Rattle.fish_registry.specs.declared.registrar.Registrar.{Registrar}
use Rattle.fish_report.specs.declared.item.Item.{Item}
use Rattle.fish_report.specs.declared.item.Item.TheVariants as item
use Rattle.fish_rule.specs.Views.{AllOf}
use Rattle.fish_rule.specs.declared.view.Shut.{Shut}
use Rattle.fish_rule.specs.declared.view.View.{View}
use Rattle.fish_whole.specs.Whole.{Whole}

-- ---- tests

-- a pass of which a test says that it isn't shut
pub unshut_test : (o : Option Shut) → is_some o ≡ false → o ≡ None
unshut_test None e = refl
unshut_test (Some s) e = (let bad : true ≡ false = e in absurd cc)

-- and that it is
pub shut_test : (o : Option Shut) → is_some o ≡ true → (s : Shut) × (o ≡ Some s)
shut_test None e = (let bad : false ≡ true = e in absurd cc)
shut_test (Some s) e = (s, refl)

-- it found the log full since it began
pub full_test : (o : Option Shut) (full b : Bool) → b ≡ (not full && is_some o) → b ≡ true → (full ≡ false) × ((s : Shut) × (o ≡ Some s))
full_test o true b is e = (let bad : false ≡ true = sym is ∙ e in absurd cc)
full_test o false b is e = (refl, shut_test o (sym is ∙ e))

-- it didn't
pub open_test : (o : Option Shut) (full b : Bool) → b ≡ (not full && is_some o) → b ≡ false → full ≡ false → o ≡ None
open_test o true b is e unset = (let bad : true ≡ false = unset in absurd cc)
open_test o false b is e unset = unshut_test o (sym is ∙ e)

-- a pass isn't both
pub not_both : (u : View) → u.shut ≡ None → ¬ WasShut u
not_both u none w = (let bad : None ≡ Some w.0 = sym none ∙ w.1 in cc)

-- ---- items

-- an item of a full log names the claim that shut the pass, so where none did it is another
not_full : (t : View) (x : Item) → IsFullItem t x → t.shut ≡ None → IsNotFull x
not_full t (item.IngestFull file line lines end stored refused) h none =
    (let bad = sym none ∙ (h file line lines end stored refused refl).shut in absurd cc)
not_full t x h none = tt

-- an item that tells of a claim, after others that tell of none
ends_full : (c : Shut) (items : List Item) (x : Item) → AllOf IsNotFull items → SaysClaim c (x ∷ []) → EndsFull (items ++ x ∷ [])
ends_full c items x none (file, stored, refused, inl e) = record {
  front = items;
  file = file;
  line = c.line;
  lines = c.lines;
  end = c.end;
  stored = stored;
  refused = refused;
  is = ap (λ (z : Item). items ++ z ∷ []) e;
  none = none;
}
ends_full c items x none (file, stored, refused, inr m) = elim m [ ]

-- so is it with the item of one statement more, where the pass wasn't shut before
pub found_more : (Past : Whole → Type 0) (u t : View) (w : Work) (items : List Item) (x : Item) → u.shut ≡ None → AllOf IsNotFull items
    → IsFit Past u t w x → SaysShut u t (x ∷ []) → HasMetFull t (items ++ x ∷ [])
found_more Past u t w items x unshut none fit shuts = by t.shut refl
  where
    by : (o : Option Shut) → t.shut ≡ o → HasMetFull t (items ++ x ∷ [])
    by None e = inl (e, all_more IsNotFull items x none (not_full t x (full_fit Past u t w x fit) e))
    by (Some c) e = ⊎_elim (λ (old : u.shut ≡ Some c). absurd (not_both u unshut (c, old)))
        (λ (claim : SaysClaim c (x ∷ [])). inr ((c, e), ends_full c items x none claim)) (shuts c e)

-- the items of a pass that isn't shut
pub found_none : (u : View) (items : List Item) → HasMetFull u items → u.shut ≡ None → AllOf IsNotFull items
found_none u items (inl h) unshut = h.1
found_none u items (inr h) unshut = absurd (not_both u unshut h.0)

-- those of one that is
pub found_full : (u : View) (items : List Item) → HasMetFull u items → WasShut u → EndsFull items
found_full u items (inl h) shut = absurd (not_both u h.0 shut)
found_full u items (inr h) shut = h.1

found_last : (u : View) (items : List Item) → HasMetFull u items → AreFullLast items
found_last u items (inl h) = inl h.1
found_last u items (inr h) = inr h.1

-- what a lane tells that met no fault, or any
pub found_tells : (u : View) (items : List Item) (why : LaneFault) → HasMetFull u items → SaysLast u items why
found_tells u items why h = record { full = found_last u items h; found = λ e. h }

-- and one that stopped at a fault
pub fault_tells : (u : View) (items : List Item) (why : LaneFault) → why ≢ fault.None → AllOf IsNotFull items → SaysLast u items why
fault_tells u items why named none = record { full = inl none; found = λ e. absurd (named e) }

-- ---- one statement of a lane after the first

module _ (u t : View) (w : Work) (old new : List Item) (unshut : u.shut ≡ None) (none : AllOf IsNotFull old) where
  -- it has its item
  pub next_found : (done : Unit {0}) → HasNextItem u t w old new (Ok done) → HasMetFull t new
  next_found done n = subst (HasMetFull t) (sym n.1) (found_more anywhere u t w old n.0 unshut none n.2.fit n.2.shuts)

  -- it has none: memory ran out, or it is a scan of older records
  pub stopped_found : (why : Stop) → HasNextItem u t w old new (Err why) → SaysLast t new (fault_of_stop why)
  stopped_found stop.Memory n = subst (λ (z : List Item). SaysLast t z fault.Memory) (sym n.0)
      (fault_tells t old fault.Memory (λ e. absurd cc) none)
  stopped_found stop.Older n = found_tells t new fault.None
      (subst (HasMetFull t) (sym n.0) (inl (ap (λ (z : View). z.shut) n.1.2.frame ∙ unshut, none)))

-- ---- a look for a boundary

-- it tells nothing of a full log
pub polled_found : (u : View) (r : Registrar) (t : View) (s : Registrar) (old new : List Item) → HasPolled u r t s old new
    → AllOf IsNotFull old → AllOf IsNotFull new
polled_found u r t s old new (inl p) none = subst (AllOf IsNotFull) (sym p.0) none
polled_found u r t s old new (inr p) none =
    subst (AllOf IsNotFull) (sym p.2) (all_more IsNotFull old (item.Bound p.0 p.1) none tt)
