-- The row that a registration puts after the others may be the log's next one.
use Rattle.std.proofs.Common.{◌≡◌, ℕ, ◌<◌, List, [], ◌∷◌, ◌++◌, None, count_by, get_or, length, map, refl, sym, ap}
use Rattle.std.proofs.Common.{◌∙◌, subst, arith}
use Rattle.std.proofs.lemmas.List.{length-map}
use Rattle.fish_catalog.proofs.Clamping.{mapped_from}
use Rattle.fish_catalog.proofs.Listings.{active_row, count_listed}
use Rattle.fish_catalog.specs.Canonical.{IsCanonical}
use Rattle.fish_catalog.specs.Limits.{most_active}
use Rattle.fish_catalog.specs.Listing.{IsNewName, listed_of}
use Rattle.fish_catalog.specs.Rows.{HasActive, IsCatalog, IsName, is_active, new_row}
use Rattle.fish_catalog.specs.declared.listed.Listed.{Listed}
use Rattle.fish_catalog.specs.declared.row.CatRow.{CatRow}
use Rattle.fish_lang.specs.Canonical.{definition_text}
use Rattle.fish_lang.specs.Definition.{definition_of}
use Rattle.fish_lang.specs.declared.definition.Def.{Def}
use Rattle.fish_registry.specs.Knowing.{KnowsRows}
use Rattle.fish_registry.specs.Refusing.{IsSaid}
use Rattle.fish_registry.specs.within.Rows.{HasAddedRow, MayRegisterRow}
use Rattle.fish_rule.specs.declared.view.View.{View}

-- the last of the longer list
last_is : (rows : List CatRow) (new d : CatRow) → get_or (rows ++ new ∷ []) (length rows) d ≡ new
last_is [] new d = refl
last_is (x ∷ rows) new d = last_is rows new d

-- the row at the id is the one that was added
pub added_row : (rows now : List CatRow) (new row : CatRow) (id : ℕ) → now ≡ rows ++ new ∷ [] → id ≡ length rows
    → row ≡ get_or now id row → row ≡ new
added_row rows now new row id is position found =
    found ∙ ap (λ (xs : List CatRow). get_or xs id row) is ∙ ap (λ (n : ℕ). get_or (rows ++ new ∷ []) n row) position
    ∙ last_is rows new row

-- a definition that some source says has a canonical text
canonical : (def : Def) → IsSaid def → IsCanonical (definition_text (definition_of def))
canonical def h = record { source = h.0; said = definition_of def; read = h.1; spells = refl }

-- where the catalogue has room, the definitions have
is_new : (rows : List CatRow) (name text : List ℕ) → length rows < 256 → IsName name → IsCanonical text
    → count_by is_active rows < most_active → ¬ HasActive rows name → IsNewName (map listed_of rows) name text
is_new rows name text room is_name is_text few free = record {
  room = (let e = length-map rows listed_of in omega arith);
  name_is = is_name;
  text_is = is_text;
  few = (let e = count_listed rows in omega arith);
  free = λ n l there on same.
      let was = mapped_from listed_of rows n l there in
      free (
        n,
        record {
          row = was.0;
          there = was.1;
          named = ap (λ (z : Listed). z.name) was.2 ∙ same;
          active = active_row was.0 l was.2 on;
        },
      );
}

-- so the row may be the next one
pub may_register : (v : View) (rows now : List CatRow) (name : List ℕ) (def : Def) (row : CatRow) (id : ℕ)
    → KnowsRows v rows None → now ≡ rows ++ new_row (length rows) name (definition_text (definition_of def)) ∷ []
    → IsCatalog now → id ≡ length rows → row ≡ get_or now id row → length rows < 256 → IsName name → IsSaid def
    → count_by is_active rows < most_active → ¬ HasActive rows name → MayRegisterRow v row
may_register v rows now name def row id h is catalog position found room is_name said few free =
    let text : List ℕ = definition_text (definition_of def) in
    let new : CatRow = new_row (length rows) name text in
    let same : row ≡ new = added_row rows now new row id is position found in
    let size : length v.rows ≡ length rows = ap (λ (ls : List Listed). length ls) (sym h.listed)
    ∙ length-map rows listed_of in
    subst (MayRegisterRow v) (sym same) (record {
      row_of = record { name = is_name; text = canonical def said; order = tt };
      active = refl;
      id = sym size;
      new = subst (λ (ls : List Listed). IsNewName ls name text) h.listed
          (is_new rows name text room is_name (canonical def said) few free);
    })

-- and what was registered is this one
pub registered_new : (v u : View) (rows now : List CatRow) (new row : CatRow) (id : ℕ) → now ≡ rows ++ new ∷ []
    → id ≡ length rows → row ≡ get_or now id row → HasAddedRow v row u → HasAddedRow v new u
registered_new v u rows now new row id is position found h = subst (λ (z : CatRow). HasAddedRow v z u)
    (added_row rows now new row id is position found) h
