-- Which rows the commits have that a crash leaves, over several steps.
use Rattle.std.proofs.Common.{ℕ, List, [], ◌++◌, append_assoc, ⊎_elim, subst}
use Rattle.std.specs.Prelude.{IsSome}
use Rattle.fish_catalog.specs.declared.row.CatRow.{CatRow}
use Rattle.fish_disk.proofs.Moments.{leaves_more, leaves_then}
use Rattle.fish_disk.specs.Crash.{LeavesOnly}
use Rattle.fish_disk.specs.declared.disk.Disk.{Ghosts as Disks}
use Rattle.fish_rule.proofs.laws.Lists.{among_either, among_left, among_right}
use Rattle.fish_rule.specs.Views.{Among}
use Rattle.fish_store.specs.CommitRows.{HasRowsOf, LeavesRows}

-- rows that are among some are among others that have these
pub has_rows : (these those : List (List CatRow)) → ((rows : List CatRow) → Among rows these → Among rows those) → (i : List ℕ)
    → HasRowsOf these i → HasRowsOf those i
has_rows these those more i h = record { commit = h.commit; log = h.log; stands = h.stands; among = more h.commit.rows h.among }

-- more rows before them, or after them
among_both : (was these those : List (List CatRow)) → ((rows : List CatRow) → Among rows these → Among rows those) → (rows : List CatRow)
    → Among rows (was ++ these) → Among rows (was ++ those)
among_both was these those more rows m = ⊎_elim (λ (h : Among rows was). among_left rows was those h)
    (λ (h : Among rows these). among_right rows was those (more rows h)) (among_either rows was these m)

module _ {D : Type 0} (disks : Disks D) where
  -- nothing was committed
  pub rows_kept : (disk disk' : D) → (IsSome (disks.content disk') → IsSome (disks.content disk))
      → LeavesOnly disks.images disks.since disks.moment disk disk' (disks.images disk) → LeavesRows disks disk disk' (λ was. was) []
  rows_kept disk disk' told leaves = record {
    told_before = told;
    now = λ still was have i here. have i (leaves.now i here);
    since = λ still was have.
        leaves_more disks.images disks.since disks.moment disk disk' (disks.images disk) (HasRowsOf (was ++ []))
        (λ i here. has_rows was (was ++ []) (λ rows m. among_left rows was [] m) i (have i here)) leaves;
  }

  -- one step and then another
  pub rows_then : (a b c : D) (left right : List (List CatRow) → List (List CatRow)) (these those : List (List CatRow))
      → LeavesRows disks a b left these → LeavesRows disks b c right those
      → LeavesRows disks a c (λ was. right (left was)) (these ++ those)
  rows_then a b c left right these those first second = record {
    told_before = λ still. first.told_before (second.told_before still);
    now = λ still was have. second.now still (left was) (first.now (second.told_before still) was have);
    since = λ still was have.
        let before = first.since (second.told_before still) was have in
        leaves_then disks.images disks.since disks.moment a b c (HasRowsOf (was ++ (these ++ those)))
        (leaves_more disks.images disks.since disks.moment a b (HasRowsOf (was ++ these)) (HasRowsOf (was ++ (these ++ those)))
        (has_rows (was ++ these) (was ++ (these ++ those))
        (among_both was these (these ++ those) (λ rows m. among_left rows these those m))) before)
        (subst (λ (z : List (List CatRow)).
        LeavesOnly disks.images disks.since disks.moment b c (HasRowsOf z)) (append_assoc was these those)
        (second.since still (was ++ these) before.now));
  }

  -- more rows
  pub rows_more : (a b : D) (left right : List (List CatRow) → List (List CatRow)) (these those : List (List CatRow))
      → ((was : List (List CatRow)) (rows : List CatRow) → Among rows (left was) → Among rows (right was))
      → ((rows : List CatRow) → Among rows these → Among rows those) → LeavesRows disks a b left these → LeavesRows disks a b right those
  rows_more a b left right these those now more h = record {
    told_before = h.told_before;
    now = λ still was have i here. has_rows (left was) (right was) (now was) i (h.now still was have i here);
    since = λ still was have.
        leaves_more disks.images disks.since disks.moment a b (HasRowsOf (was ++ these)) (HasRowsOf (was ++ those))
        (has_rows (was ++ these) (was ++ those) (among_both was these those more)) (h.since still was have);
  }
