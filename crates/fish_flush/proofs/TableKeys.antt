-- The rows that the control pass knows say which key entries each record of the table has.
use Rattle.std.proofs.Common.{◌≡◌, ℕ, zero, suc, ◌<◌, ◌≤◌, inl, inr, List, [], ◌∷◌}
use Rattle.std.proofs.Common.{filter, length, map, sym, refl, ap, ◌∙◌}
use Rattle.std.proofs.Common.{subst, arith, Bool, true, false, cond, Some, None, Option, option_map, slice_get}
use Rattle.std.specs.Prelude.{All}
use Rattle.std.specs.List.{flat_map}
use Rattle.std.specs.List.Sorted.{IsStrictlyIncreasing}
use mathlib.Core.Option.{some}
use Rattle.std.proofs.Math.ListN.{get_elem?}
use Rattle.std.proofs.lemmas.List.{length-map}
use Rattle.std.proofs.lemmas.Option.{get_or_from_slice_get, same_Some, slice_get-map, slice_get_within}
use Rattle.fish_catalog.proofs.ActiveTexts.{active_ids_increase}
use Rattle.fish_catalog.proofs.Texts.{canonical_read}
use Rattle.fish_catalog.specs.Canonical.{IsCanonical}
use Rattle.fish_catalog.specs.Covering.{Covers}
use Rattle.fish_catalog.specs.Listing.{active_texts, is_on, listed_of}
use Rattle.fish_catalog.specs.Words.{bound_word}
use Rattle.fish_catalog.specs.declared.listed.Listed.{Listed}
use Rattle.fish_catalog.specs.declared.row.CatRow.{CatRow}
use Rattle.fish_flush.specs.Rows.{HoldsRows}
use Rattle.fish_flush.proofs.KeyedValues.{ids_of, keyed_none, keyed_of, keyed_one, some_all, some_none, under, under_property}
use Rattle.fish_image.specs.Log.{AreSomeOf, HasValues, values_under}
use Rattle.fish_image.specs.Log as image
use Rattle.fish_lang.specs.Canonical.{definition_text}
use Rattle.fish_lang.specs.Definition.{Definition, definition_of}
use Rattle.fish_lang.specs.Language.{IsAccepted}
use Rattle.fish_layout.specs.declared.parts.BodyParts.{BodyParts}
use Rattle.fish_layout.specs.declared.parts.KeyPart.{KeyPart}
use Rattle.fish_psf.specs.Eval.{Fields, values}
use Rattle.fish_psf.specs.Keys.{keys_for, keys_under}
use Rattle.fish_psf.specs.Records.{fields_of_payload}
use Rattle.fish_psf.specs.declared.key.ActiveDef.{ActiveDef}
use Rattle.fish_rule.proofs.laws.Intervals.{among_active}
use Rattle.fish_rule.proofs.laws.Lists.{there_is}
use Rattle.fish_rule.proofs.laws.Members.{among_at, among_map, at_among, map_among}
use Rattle.fish_rule.proofs.laws.Versions.{text_grows}
use Rattle.fish_rule.specs.Boundaries.{IsOpenIn}
use Rattle.fish_rule.specs.Keys.{IsKeyedOf, IsWritten, property, text_of}
use Rattle.fish_rule.specs.Registry.{AreActiveAt, definitions_at, row_at, version_in}
use Rattle.fish_rule.specs.Rule.{Rule}
use Rattle.fish_rule.specs.Views.{Among}
use Rattle.fish_rule.specs.World.{World}
use Rattle.fish_rule.specs.declared.view.Key.{Key}
use Rattle.fish_rule.specs.declared.view.View.{View}
use Rattle.fish_value.specs.declared.value.Value.{Value}

-- an element of a list meets what all do
all_at : {A : Type 0} (P : A → Type 0) (xs : List A) (x : A) → All P xs → Among x xs → P x
all_at P xs x all m = (let t = among_at xs x m in
    subst P (get_or_from_slice_get xs t.0 x x t.1) (all t.0 x (slice_get_within xs t.0 x t.1)))

-- ---- definitions

-- an active definition with this id and text stands in the list
abbrev HasText : List Listed → ℕ × List ℕ → Type 0
HasText ls t = (i : ℕ) × (l : Listed) × (slice_get ls i ≡ Some l) × (l.id ≡ t.0) × (l.def ≡ t.1) × (l.active ≡ true)

-- and each active text is one of an active definition
active_among : (ls : List Listed) (t : ℕ × List ℕ) → Among t (active_texts ls) → HasText ls t
active_among [] t m = elim m [ ]
active_among (x ∷ ls) t m = by (λ n. active_among ls t n) x.active refl m
  where
    rest : HasText ls t → HasText (x ∷ ls) t
    rest f = (suc f.0, f.1, f.2, f.3, f.4, f.5)

    by : (Among t (active_texts ls) → HasText ls t) → (b : Bool) → x.active ≡ b
        → Among t (map (λ (l : Listed). (l.id, l.def)) (cond b (x ∷ filter is_on ls) (filter is_on ls))) → HasText (x ∷ ls) t
    by others true on (inl e) =
        (0, x, refl, ap (λ (z : ℕ × List ℕ). z.0) e, ap (λ (z : ℕ × List ℕ). z.1) e, on)
    by others true on (inr n) = rest (others n)
    by others false on n = rest (others n)

-- a listed row is one of the rows
listed_row : (rows : List CatRow) (i : ℕ) (l : Listed) → slice_get (map listed_of rows) i ≡ Some l
    → (row : CatRow) × (slice_get rows i ≡ Some row) × (row.def ≡ l.def)
listed_row [] i l there = absurd cc
listed_row (row ∷ rows) zero l there = (row, refl, ap (λ (z : Listed). z.def) (same_Some (listed_of row) l there))
listed_row (row ∷ rows) (suc i) l there = listed_row rows i l there

-- ---- one moment

module _ {v : View} (w : World) (r : Rule v.about w) (seat : ℕ) (at : get_elem? w.views seat ≡ some v)
    (rows : List CatRow) (holds : HoldsRows v rows) where
  -- the definitions of the version are those of the rows
  now : definitions_at v.about w.registry (version_in w.registry) ≡ map listed_of rows
  now = ((r.registry.each seat v at).control holds.control).definitions ∙ sym holds.listed

  -- there are at most 256
  pub few_rows : (id : ℕ) (row : CatRow) → slice_get rows id ≡ Some row → id < 256
  few_rows id row there =
      let less = slice_get_within rows id row there in
      let few = (r.registry.versions.listings (version_in w.registry) (omega arith)).few in
      let size : length (definitions_at v.about w.registry (version_in w.registry)) ≡ length rows =
      ap (λ (z : List Listed). length z) now ∙ length-map rows listed_of in
      omega arith

  -- the boundaries stand in the words
  pub begin_word : (id : ℕ) (row : CatRow) → slice_get rows id ≡ Some row → w.registry (row_at id 0) ≡ bound_word row.from
  begin_word id row there =
      ((r.registry.each seat v at).control holds.control).owned (row_at id 0) (inr (id, 0, few_rows id row there, omega arith, refl))
      ∙ holds.from id row there

  pub end_word : (id : ℕ) (row : CatRow) → slice_get rows id ≡ Some row → w.registry (row_at id 1) ≡ bound_word row.to
  end_word id row there =
      ((r.registry.each seat v at).control holds.control).owned (row_at id 1) (inr (id, 1, few_rows id row there, omega arith, refl))
      ∙ holds.to id row there

  module _ (n : ℕ) (above : v.about.number ≤ n) (below : n < w.count) (p : BodyParts) (lines : ℕ) (e : ℕ → ℕ)
      (keyed : IsKeyedOf (AreActiveAt v.about w.registry) (r.version_of n) (r.lane_of n) n lines e p) where
    -- the record's version was made
    reached : r.version_of n ≤ version_in w.registry
    reached = r.registry.versions.upto n above below

    -- its active texts are those of the record's definitions
    texts : active_texts (definitions_at v.about w.registry (r.version_of n)) ≡ map text_of keyed.keys.defs
    texts = ap (λ (z : ℕ). active_texts (definitions_at v.about w.registry z)) (sym keyed.version_is) ∙ keyed.keys.are.1

    -- a row that covers the record hasn't ended at its version
    still_open : (id : ℕ) (row : CatRow) → slice_get rows id ≡ Some row → Covers row n
        → IsOpenIn (definitions_at v.about w.registry (r.version_of n)) id
    still_open id row there covers = by row.to refl
      where
        by : (o : Option ℕ) → row.to ≡ o → IsOpenIn (definitions_at v.about w.registry (r.version_of n)) id
        by None ends = r.registry.boundaries.running id (r.version_of n) (few_rows id row there)
            (end_word id row there ∙ ap bound_word ends) reached
        by (Some to) ends = r.registry.boundaries.unended id to n (few_rows id row there)
            (end_word id row there ∙ ap bound_word ends) above (covers.ahead to ends) below

    -- what the record has at each path
    abbrev fields : Fields
    fields = fields_of_payload p.form p.payload

    -- the definitions of the record's version
    abbrev listed : List Listed
    listed = definitions_at v.about w.registry (r.version_of n)

    -- the entries of an id have the values that are given under it
    given : (id : ℕ) → values_under id p.keys ≡ under id (flat_map (keys_under fields) keyed.keys.defs)
    unfolding keys_for
    given id = under_property id p.keys ∙ ap (under id) keyed.keys.keys

    -- the ids of the definitions ascend
    ascending : IsStrictlyIncreasing (ids_of keyed.keys.defs)
    ascending = subst (λ (ts : List (ℕ × List ℕ)). IsStrictlyIncreasing (map (λ (t : ℕ × List ℕ). t.0) ts)) texts
        (active_ids_increase listed (r.registry.versions.listings (r.version_of n) reached))

    -- each of them is one of the active definitions of the version
    active_at : (d : ActiveDef) → Among d keyed.keys.defs
        → (l : Listed) × (slice_get listed d.id ≡ Some l) × (l.def ≡ definition_text (definition_of d.def)) × (l.active ≡ true)
    active_at d m =
        let t = active_among listed (text_of d)
        (subst (Among {A = ℕ × List ℕ} (text_of d)) (sym texts) (map_among text_of keyed.keys.defs d m)) in
        let own : t.0 ≡ d.id = sym ((r.registry.versions.listings (r.version_of n) reached).ids t.0 t.1 t.2) ∙ t.3 in
        (t.1, subst (λ (z : ℕ). slice_get listed z ≡ Some t.1) own t.2, t.4, t.5)

    -- so each key entry is of a row
    known : (j : ℕ) (key : KeyPart) → slice_get p.keys j ≡ Some key → key.id < length rows
    unfolding keys_for
    known j key there =
        let g = w.registry in
        let k : Key = v.about in
        let among : Among (property key) (flat_map (keys_under fields) keyed.keys.defs) = subst (Among (property key)) keyed.keys.keys
        (map_among property p.keys key (at_among p.keys j key there)) in
        let d = keyed_of fields keyed.keys.defs (property key) among in
        let l = active_at d.0 d.1 in
        let later = text_grows k g (r.version_of n) (version_in g) reached d.0.id l.0 l.1 in
        let row = listed_row rows d.0.id later.0 (ap (λ (z : List Listed). slice_get z d.0.id) (sym now) ∙ later.1) in
        subst (λ (z : ℕ). z < length rows) d.2 (slice_get_within rows d.0.id row.0 row.1)

    module _ (id : ℕ) (row : CatRow) (there : slice_get rows id ≡ Some row) where
      -- the row stands in the list of definitions
      listed_at : slice_get (definitions_at v.about w.registry (version_in w.registry)) id ≡ Some (listed_of row)
      listed_at = ap (λ (z : List Listed). slice_get z id) now ∙ slice_get-map listed_of rows id ∙ ap (option_map listed_of) there

      -- its text is canonical
      canonical : IsCanonical row.def
      canonical =
          all_at (λ (l : Listed). IsCanonical l.def) (definitions_at v.about w.registry (version_in w.registry)) (listed_of row)
          (r.registry.versions.listings (version_in w.registry) (omega arith)).texts
          (at_among (definitions_at v.about w.registry (version_in w.registry)) id (listed_of row) listed_at)

      -- where its definition is active at the record's version, the entries have just its values
      active_values : (l : Listed) → slice_get listed id ≡ Some l → l.active ≡ true → HasValues row n p (values_under id p.keys)
      active_values l at on =
          let g = w.registry in
          let k : Key = v.about in
          let u : ℕ = r.version_of n in
          let own : l.id ≡ id = (r.registry.versions.listings u reached).ids id l at in
          let later = text_grows k g u (version_in g) reached id l at in
          let same : later.0.def ≡ row.def =
          ap (λ (z : Listed). z.def) (same_Some later.0 (listed_of row) (sym later.1 ∙ listed_at)) in
          let d = among_map text_of keyed.keys.defs (l.id, l.def)
          (subst (Among {A = ℕ × List ℕ} (l.id, l.def)) texts (among_active (definitions_at k g u) id l at on)) in
          let text : definition_text (definition_of d.0.def) ≡ row.def =
          ap (λ (z : ℕ × List ℕ). z.1) d.2 ∙ sym later.2 ∙ same in
          let said : Definition = definition_of d.0.def in
          let are : values_under id p.keys ≡ values said fields =
          given id ∙ keyed_one fields id keyed.keys.defs d.0 d.1 (ap (λ (z : ℕ × List ℕ). z.0) d.2 ∙ own) ascending in
          record {
            said = said;
            read = subst (λ (z : List ℕ). IsAccepted z said) text
                (all_at IsWritten keyed.keys.defs d.0 keyed.keys.written d.1);
            some = subst (λ (vs : List Value). AreSomeOf vs (values said fields)) (sym are) (some_all (values said fields));
            all = λ _. are;
          }

      -- where it isn't, there are none, and the row doesn't cover the record
      no_values : ((l : Listed) → slice_get listed id ≡ Some l → l.active ≡ true → ⊥) → HasValues row n p (values_under id p.keys)
      no_values none =
          let nothing : values_under id p.keys ≡ [] =
          given id ∙ keyed_none fields id keyed.keys.defs (λ d m is.
          let l = active_at d m in
          none l.0 (subst (λ (z : ℕ). slice_get listed z ≡ Some l.0) is l.1) l.3) in
          record {
            said = canonical.said;
            read = canonical_read row.def canonical;
            some = some_none (values_under id p.keys) (values canonical.said fields) nothing;
            all = λ covers.
                let begun = r.registry.boundaries.begun id covers.from n (few_rows id row there)
                (begin_word id row there ∙ ap bound_word covers.begins) above covers.behind below in
                let l = there_is listed id begun in
                absurd (none l.0 l.1 (still_open id row there covers l.0 l.1));
          }

      -- so they have the values that an image asks
      row_values : HasValues row n p (values_under id p.keys)
      row_values = by (slice_get listed id) refl
        where
          on_or_off : (l : Listed) → slice_get listed id ≡ Some l → (b : Bool) → l.active ≡ b → HasValues row n p (values_under id p.keys)
          on_or_off l at true on = active_values l at on
          on_or_off l at false off = no_values (λ m there_m on.
              let same = same_Some l m (sym at ∙ there_m) in
              let active = ap (λ (z : Listed). z.active) same in
              absurd cc)

          by : (o : Option Listed) → slice_get listed id ≡ o → HasValues row n p (values_under id p.keys)
          by None at = no_values (λ l there_l on. absurd cc)
          by (Some l) at = on_or_off l at l.active refl

    -- so it has the keys that an image asks of it
    pub table_keys : image.HasRowKeys rows n p
    table_keys = record { known = known; values = row_values }
