-- Which definitions a crash may leave, over the items of the first lane.
use Rattle.std.proofs.Common.{◌≡◌, List, [], ◌∷◌, ◌++◌, Bool, true, false, Result, Ok, Err, refl, sym, ◌∙◌, subst, inl, inr, ⊎_elim}
use Rattle.std.specs.Prelude.{IfOk}
use Rattle.fish_catalog.specs.declared.row.CatRow.{CatRow}
use Rattle.fish_disk.specs.declared.disk.Disk.{Ghosts as Disks}
use Rattle.fish_disk.proofs.Moments.{leaves_none}
use Rattle.fish_lanes.proofs.Committing.{other_fit}
use Rattle.fish_lanes.specs.CommitRows.{LeavesRowsOf, is_checkpoint, left_rows, rows_between, rows_since, unless_made}
use Rattle.fish_lanes.specs.within.CommitRows.{rows_by}
use Rattle.fish_lanes.specs.within.Controlling.{HasPolled}
use Rattle.fish_lanes.specs.within.Doing.{IsFit}
use Rattle.fish_lanes.specs.Registering.{Registry, after, after_all}
use Rattle.fish_lanes.specs.declared.work.Work.{Work}
use Rattle.fish_lanes.specs.declared.work.Work.TheVariants as work
use Rattle.fish_registry.specs.declared.registrar.Registrar.{Registrar}
use Rattle.fish_report.specs.declared.item.Item.{Item}
use Rattle.fish_report.specs.declared.item.Item.TheVariants as item
use Rattle.fish_rule.proofs.laws.Lists.{among_either, among_left, among_right}
use Rattle.fish_rule.specs.Views.{Among}
use Rattle.fish_rule.specs.declared.view.View.{View}
use Rattle.fish_store.proofs.CommitRows.{rows_kept, rows_more, rows_then}
use Rattle.fish_store.specs.CommitRows.{LeavesRows}
use Rattle.fish_whole.specs.Whole.{Whole}

-- ---- lists

-- what was kept is less than there was
unless_fewer : (made : Bool) (was : List (List CatRow)) (rows : List CatRow) → Among rows (unless_made made was) → Among rows was
unless_fewer true was rows m = elim m [ ]
unless_fewer false was rows m = m

-- with an item more
since_push : (r : Registry) (items : List Item) (x : Item) (was : List (List CatRow))
    → rows_since r (items ++ x ∷ []) was ≡ unless_made (is_checkpoint x) (rows_since r items was) ++ (after_all r items).rows ∷ []
since_push r [] x was = refl
since_push r (y ∷ items) x was = since_push (after r y) items x (unless_made (is_checkpoint y) was ++ r.rows ∷ [])

between_push : (r : Registry) (items : List Item) (x : Item) (rows : List CatRow) → Among rows (rows_between r items)
    → Among rows (rows_between r (items ++ x ∷ []))
between_push r [] x rows (inl e) = inl e
between_push r [] x rows (inr m) = elim m [ ]
between_push r (y ∷ items) x rows (inl e) = inl e
between_push r (y ∷ items) x rows (inr m) = inr (between_push (after r y) items x rows m)

-- those after all items are among them
between_last : (r : Registry) (items : List Item) → Among (after_all r items).rows (rows_between r items)
between_last r [] = inl refl
between_last r (y ∷ items) = inr (between_last (after r y) items)

-- so are they and one list that is
between_and : (r : Registry) (items : List Item) (rows these : List CatRow) → rows ≡ (after_all r items).rows
    → Among these (rows_between r items ++ rows ∷ []) → Among these (rows_between r items)
between_and r items rows these last m = ⊎_elim (λ (h : Among these (rows_between r items)). h)
    (λ (h : Among these (rows ∷ [])). ⊎_elim
    (λ (e : rows ≡ these). subst (λ (z : List CatRow). Among z (rows_between r items)) (sym last ∙ e) (between_last r items))
    (λ (bad : Among these []). elim bad [ ]) h)
    (among_either these (rows_between r items) (rows ∷ []) m)

module _ {D : Type 0} (disks : Disks D) where
  -- ---- one statement

  -- the disk is as it was
  pub rows_same : (disk : D) → LeavesRows disks disk disk (λ was. was) []
  rows_same disk = rows_kept disks disk disk (λ told. told)
      (leaves_none disks.images disks.since disks.moment disk (disks.images disk) (λ i here. here))

  -- a statement that is no checkpoint commits nothing
  pub rows_other : (a b : D) (rows : List CatRow) (Past : Whole → Type 0) {E : Type 0} (u t : View) (w : Work) (r : Result Item E)
      → (w ≡ work.Checkpoint → ⊥) → IfOk r (IsFit Past u t w) → LeavesRows disks a b (λ was. was) []
      → LeavesRows disks a b (rows_by r rows) (rows ∷ [])
  rows_other a b rows Past {E} u t w (Ok x) other fit h =
      rows_more disks a b (λ was. was) (rows_by {E = E} (Ok x) rows) [] (rows ∷ [])
      (λ was these m. subst (λ (z : Bool). Among these (unless_made z was ++ rows ∷ [])) (sym (other_fit Past u t w x other fit))
      (among_left these was (rows ∷ []) m)) (λ these m. elim m [ ]) h
  rows_other a b rows Past u t w (Err e) other fit h =
      rows_more disks a b (λ was. was) (λ was. was ++ rows ∷ []) [] (rows ∷ [])
      (λ was these m. among_left these was (rows ∷ []) m) (λ these m. elim m [ ]) h

  -- ---- statements, from a disk on and from definitions on

  module _ (start : D) (r : Registry) where
    -- so it is after these items, as long as no statement failed
    abbrev pub HaveLeft : D → List Item → Type 0
    HaveLeft disk items = LeavesRows disks start disk (rows_since r items) (rows_between r items)

    pub left_none : HaveLeft start []
    left_none = rows_more disks start start (λ was. was) (rows_since r []) [] (rows_between r []) (λ was these m. m)
        (λ these m. elim m [ ]) (rows_same start)

    -- a boundary that was found commits nothing
    pub left_polled : (disk : D) (u : View) (q : Registrar) (t : View) (s : Registrar) (old new : List Item) → HasPolled u q t s old new
        → HaveLeft disk old → HaveLeft disk new
    left_polled disk u q t s old new (inl same) h = subst (HaveLeft disk) (sym same.0) h
    left_polled disk u q t s old new (inr more) h =
        let x = item.Bound more.0 more.1 in
        subst (HaveLeft disk) (sym more.2)
        (rows_more disks start disk (rows_since r old) (rows_since r (old ++ x ∷ [])) (rows_between r old) (rows_between r (old ++ x ∷ []))
        (λ was these m. subst (Among these) (sym (since_push r old x was))
        (among_left these (rows_since r old was) ((after_all r old).rows ∷ []) m))
        (between_push r old x) h)

    module _ (mid disk : D) (items : List Item) (rows : List CatRow) (last : rows ≡ (after_all r items).rows) (h : HaveLeft mid items) where
      -- a statement is done
      pub left_done : (x : Item) → LeavesRows disks mid disk (λ was. unless_made (is_checkpoint x) was ++ rows ∷ []) (rows ∷ [])
          → HaveLeft disk (items ++ x ∷ [])
      left_done x step =
          rows_more disks start disk (λ was. unless_made (is_checkpoint x) (rows_since r items was) ++ rows ∷ [])
          (rows_since r (items ++ x ∷ []))
          (rows_between r items ++ rows ∷ []) (rows_between r (items ++ x ∷ []))
          (λ was these m. subst (Among these) (sym (since_push r items x was))
          (subst (λ (z : List CatRow). Among these (unless_made (is_checkpoint x) (rows_since r items was) ++ z ∷ [])) last m))
          (λ these m. between_push r items x these (between_and r items rows these last m))
          (rows_then disks start mid disk (rows_since r items) (λ was. unless_made (is_checkpoint x) was ++ rows ∷ [])
          (rows_between r items) (rows ∷ []) h step)

      -- it failed, or its item was lost
      pub left_failed : {E : Type 0} (result : Result Item E) → LeavesRows disks mid disk (rows_by result rows) (rows ∷ [])
          → LeavesRowsOf disks start disk r items
      left_failed result step =
          rows_more disks start disk (λ was. rows_by result rows (rows_since r items was)) (left_rows r items)
          (rows_between r items ++ rows ∷ []) (rows_between r items)
          (λ was these m. subst (λ (z : List CatRow). Among these (rows_since r items was ++ z ∷ [])) last
          (by_fewer result (rows_since r items was) these m))
          (λ these m. between_and r items rows these last m)
          (rows_then disks start mid disk (rows_since r items) (rows_by result rows) (rows_between r items) (rows ∷ []) h step)
        where
          by_fewer : {E : Type 0} (result : Result Item E) (was : List (List CatRow)) (these : List CatRow)
              → Among these (rows_by result rows was) → Among these (was ++ rows ∷ [])
          by_fewer (Err e) was these m = m
          by_fewer (Ok x) was these m = ⊎_elim
              (λ (k : Among these (unless_made (is_checkpoint x) was)).
              among_left these was (rows ∷ []) (unless_fewer (is_checkpoint x) was these k))
              (λ (k : Among these (rows ∷ [])). among_right these was (rows ∷ []) k)
              (among_either these (unless_made (is_checkpoint x) was) (rows ∷ []) m)

    -- none failed
    pub left_all : (disk : D) (items : List Item) → HaveLeft disk items → LeavesRowsOf disks start disk r items
    left_all disk items h =
        rows_more disks start disk (rows_since r items) (left_rows r items) (rows_between r items) (rows_between r items)
        (λ was these m. among_left these (rows_since r items was) ((after_all r items).rows ∷ []) m) (λ these m. m) h

    -- reads at the end commit nothing
    pub left_read : (mid disk : D) (items : List Item) → LeavesRowsOf disks start mid r items → LeavesRows disks mid disk (λ was. was) []
        → LeavesRowsOf disks start disk r items
    left_read mid disk items h reads =
        rows_more disks start disk (left_rows r items) (left_rows r items) (rows_between r items ++ []) (rows_between r items)
        (λ was these m. m)
        (λ these m. ⊎_elim (λ (k : Among these (rows_between r items)). k) (λ (k : Among these []). elim k [ ])
        (among_either these (rows_between r items) [] m))
        (rows_then disks start mid disk (left_rows r items) (λ was. was) (rows_between r items) [] h reads)
