-- The rows that were cut are the catalogue's.
use Rattle.std.proofs.Common.{◌≡◌, ◌∙◌, ◌++◌, ℕ, List, All, ap, drop, length, map, subst, sym, take}
use Rattle.std.proofs.lemmas.List.{length-map}
use Rattle.fish_catalog.proofs.Clamping.{all_clamped, catalog_clamped, written_back}
use Rattle.fish_catalog.specs.Clamps.{IsClamped, clamped}
use Rattle.fish_catalog.specs.Rows.{IsCatalog}
use Rattle.fish_catalog.specs.declared.row.CatRow.{CatRow}
use Rattle.fish_catalog.proofs.catalog.Catalog.clamp.Goals as goal

-- the rows that stand there afterwards
rows_after : (n len : ℕ) (old slice new : List CatRow) → slice ≡ old → new ≡ map (clamped n) slice → length slice ≡ len
    → take len (new ++ drop (length new) old) ≡ map (clamped n) old
rows_after n len old slice new value is full =
    let same : length new ≡ length slice = ap (λ (z : List CatRow). length z) is ∙ length-map slice (clamped n) in
    written_back new old len (sym full ∙ sym same) ∙ is ∙ ap (map (clamped n)) value

pub invariant_of-self : goal.invariant_of-self
invariant_of-self c =
    let mine = c.as_mut_slice.ensures in
    subst IsCatalog (sym (rows_after c.args.count _ c.self.inside.rows.items _ _ mine.value c.clamp_rows.ensures mine.len))
    (catalog_clamped c.args.count c.self.inside.rows.items c.self.invariant)

pub returns-clause-clamped : goal.returns-clause-clamped
returns-clause-clamped c =
    let mine = c.as_mut_slice.ensures in
    subst (All (IsClamped c.args.count))
    (sym (rows_after c.args.count _ c.self.inside.rows.items _ _ mine.value c.clamp_rows.ensures mine.len))
    (all_clamped c.args.count c.self.inside.rows.items)
