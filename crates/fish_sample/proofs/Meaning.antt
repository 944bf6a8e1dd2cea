-- What the names of a sample's definitions mean by the rows.
use Rattle.std.proofs.Common.{◌≡◌, ◌≢◌, ℕ, zero, suc, List, [], ◌∷◌, ◌++◌, map, sym, ap, ◌∙◌, subst, arith, get_or}
use Rattle.std.proofs.Common.{Some, Ok, slice_get}
use Rattle.std.specs.Prelude.{codes}
use Rattle.std.specs.List.{AllByRecursion, range_with_len}
use Rattle.fish_catalog.specs.Listing.{listed_of}
use Rattle.fish_catalog.specs.declared.listed.Listed.{Listed}
use Rattle.fish_catalog.specs.declared.row.CatRow.{CatRow}
use Rattle.fish_lang.proofs.Accepted.{accepted-again}
use Rattle.fish_lang.proofs.Outcomes.{outcome-only}
use Rattle.fish_lang.specs.Canonical.{definition_text}
use Rattle.fish_lang.specs.Definition.{Definition}
use Rattle.fish_lang.specs.Language.{IsAccepted}
use Rattle.fish_lanes.proofs.Lists.{some_once}
use Rattle.fish_sample.proofs.Telling.{MeansIn}
use Rattle.fish_sample.specs.within.Blocks.{AreRows, namings}
use Rattle.fish_sample.specs.Sample.{AreDefined, SampleQuestion, Definitions, all_asked, asked_band, asked_kind, asked_late}
use Rattle.fish_scan.specs.Naming.{IsNewestListed}

-- a source has one reading
pub one_reading : (b : List ℕ) (d e : Definition) → IsAccepted b d → IsAccepted b e → d ≡ e
one_reading b d e x y =
    let same : Ok d ≡ Ok e = sym (outcome-only b (Ok d) x) ∙ outcome-only b (Ok e) y in
    cc

-- so has the canonical text of what a source is
text_reading : (b : List ℕ) (d e : Definition) → IsAccepted b d → IsAccepted (definition_text d) e → e ≡ d
text_reading b d e x y = one_reading (definition_text d) e d y (accepted-again b d x)

abbrev Pair : Type 0
Pair = List ℕ × List ℕ

-- the name and text of what is listed at a position
pair_at : (rows : List CatRow) (position : ℕ) (l : Listed) → slice_get (map listed_of rows) position ≡ Some l
    → slice_get (namings rows) position ≡ Some (l.name, l.def)
pair_at [] position l at = absurd cc
pair_at (row ∷ rows) zero l at =
    let same : listed_of row ≡ l = some_once (listed_of row) l at in
    ap (λ (z : Listed). let p : Pair = (z.name, z.def) in Some p) same
pair_at (row ∷ rows) (suc position) l at = pair_at rows position l at

-- names that begin otherwise are others
other_name : (a b : ℕ) (x y name : List ℕ) → a ≢ b → (a ∷ x) ≡ name → name ≡ (b ∷ y) → ⊥
other_name a b x y name other one two = other (ap (λ (z : List ℕ). get_or z 0 0) (one ∙ two))

module _ (k l b : List ℕ) where
  abbrev three : List Pair
  three = (codes "kind", k) ∷ (codes "late", l) ∷ (codes "band", b) ∷ []

  one_pair : (p q : Pair) → Some p ≡ Some q → (p.0 ≡ q.0) × (p.1 ≡ q.1)
  one_pair p q e = (let same = some_once p q e in (ap (λ (z : Pair). z.0) same, ap (λ (z : Pair). z.1) same))

  kind_at : (position : ℕ) (name text : List ℕ) → slice_get three position ≡ Some (name, text) → name ≡ codes "kind" → text ≡ k
  kind_at zero name text e is = sym (one_pair (codes "kind", k) (name, text) e).1
  kind_at (suc zero) name text e is =
      absurd (other_name 108 107 _ _ name (omega arith) (one_pair (codes "late", l) (name, text) e).0 is)
  kind_at (suc (suc zero)) name text e is =
      absurd (other_name 98 107 _ _ name (omega arith) (one_pair (codes "band", b) (name, text) e).0 is)
  kind_at (suc (suc (suc position))) name text e is = absurd cc

  late_at : (position : ℕ) (name text : List ℕ) → slice_get three position ≡ Some (name, text) → name ≡ codes "late" → text ≡ l
  late_at zero name text e is =
      absurd (other_name 107 108 _ _ name (omega arith) (one_pair (codes "kind", k) (name, text) e).0 is)
  late_at (suc zero) name text e is = sym (one_pair (codes "late", l) (name, text) e).1
  late_at (suc (suc zero)) name text e is =
      absurd (other_name 98 108 _ _ name (omega arith) (one_pair (codes "band", b) (name, text) e).0 is)
  late_at (suc (suc (suc position))) name text e is = absurd cc

  band_at : (position : ℕ) (name text : List ℕ) → slice_get three position ≡ Some (name, text) → name ≡ codes "band" → text ≡ b
  band_at zero name text e is =
      absurd (other_name 107 98 _ _ name (omega arith) (one_pair (codes "kind", k) (name, text) e).0 is)
  band_at (suc zero) name text e is =
      absurd (other_name 108 98 _ _ name (omega arith) (one_pair (codes "late", l) (name, text) e).0 is)
  band_at (suc (suc zero)) name text e is = sym (one_pair (codes "band", b) (name, text) e).1
  band_at (suc (suc (suc position))) name text e is = absurd cc

module _ (d : Definitions) (defined : AreDefined d) (rows : List CatRow) (are : AreRows d rows) where
  found : (position : ℕ) (name : List ℕ) (n : IsNewestListed (map listed_of rows) name position)
      → slice_get (three (definition_text d.kind) (definition_text d.late) (definition_text d.band)) position
      ≡ Some (n.listed.name, n.listed.def)
  found position name n = ap (λ (z : List Pair). slice_get z position) (sym are) ∙ pair_at rows position n.listed n.there

  kind_means : (n : ℕ) → MeansIn (map listed_of rows) (asked_kind d n)
  kind_means i position n def accepted =
      let text = kind_at (definition_text d.kind) (definition_text d.late) (definition_text d.band) position n.listed.name n.listed.def
      (found position (codes "kind") n) n.named in
      text_reading (codes "take type") d.kind def defined.kind (subst (λ (z : List ℕ). IsAccepted z def) text accepted)

  late_means : MeansIn (map listed_of rows) (asked_late d)
  late_means position n def accepted =
      let text = late_at (definition_text d.kind) (definition_text d.late) (definition_text d.band) position n.listed.name n.listed.def
      (found position (codes "late") n) n.named in
      text_reading (codes "flag when n >= 10000 and type = \"T3\"") d.late def defined.late (subst (λ (z : List ℕ). IsAccepted z def)
      text accepted)

  band_means : (n : ℕ) → MeansIn (map listed_of rows) (asked_band d n)
  band_means i position n def accepted =
      let text = band_at (definition_text d.kind) (definition_text d.late) (definition_text d.band) position n.listed.name n.listed.def
      (found position (codes "band") n) n.named in
      text_reading (codes "bucket k by 100") d.band def defined.band (subst (λ (z : List ℕ). IsAccepted z def) text accepted)

  each_map : (P : SampleQuestion → Type 0) (f : ℕ → SampleQuestion) → ((n : ℕ) → P (f n)) → (xs : List ℕ) → AllByRecursion P (map f xs)
  each_map P f h [] = tt
  each_map P f h (x ∷ xs) = (h x, each_map P f h xs)

  each_append : (P : SampleQuestion → Type 0) (xs ys : List SampleQuestion) → AllByRecursion P xs → AllByRecursion P ys
      → AllByRecursion P (xs ++ ys)
  each_append P [] ys h k = k
  each_append P (x ∷ xs) ys h k = (h.0, each_append P xs ys h.1 k)

  -- each name that is asked for means what is asked
  pub all_mean : AllByRecursion (MeansIn (map listed_of rows)) (all_asked d)
  all_mean = each_append (MeansIn (map listed_of rows)) (map (asked_kind d) (range_with_len 0 7))
      (asked_late d ∷ map (asked_band d) (range_with_len 0 10))
      (each_map (MeansIn (map listed_of rows)) (asked_kind d) kind_means (range_with_len 0 7))
      (late_means, each_map (MeansIn (map listed_of rows)) (asked_band d) band_means (range_with_len 0 10))
