-- An interval that a pass knows says of the records below the base that they have their key entries.
use Rattle.std.proofs.Common.{◌≡◌, ℕ, ◌<◌, List, [], ◌∷◌, option_map, sym, ap, ◌∙◌, subst, arith}
use Rattle.std.specs.Prelude.{Option, Some, slice_get}
use Rattle.std.proofs.lemmas.Option.{same_Some, slice_get-map}
use Rattle.fish_catalog.specs.Listing.{listed_of}
use Rattle.fish_catalog.specs.declared.listed.Listed.{Listed}
use Rattle.fish_catalog.specs.declared.row.CatRow.{CatRow}
use Rattle.fish_cold.specs.Carries.{CarriesTable}
use Rattle.fish_cold.specs.declared.cold.Cold.{Cold}
use Rattle.fish_lang.specs.Definition.{Definition}
use Rattle.fish_lang.specs.Language.{IsAccepted}
use Rattle.fish_rule.proofs.laws.Opened.{opened_interval}
use Rattle.fish_rule.proofs.laws.Versions.{text_grows}
use Rattle.fish_rule.specs.Parts.{first_head}
use Rattle.fish_rule.specs.Registry.{HasRead, IsRegistered, definitions_at}
use Rattle.fish_rule.specs.Table.{IsOfMoment}
use Rattle.fish_rule.specs.Views.{AllOf}
use Rattle.fish_rule.specs.declared.view.Key.{Key}
use Rattle.fish_rule.specs.declared.view.RegistryWord.{RegistryWord}
use Rattle.fish_rule.specs.declared.view.View.{View}
use Rattle.fish_scan.specs.within.Indices.{IsIndex}
use Rattle.fish_scan.specs.within.OlderReading.{IsCoveredBy, IsHeadOf}

-- the words that were read stand there
read_of : (k : Key) (g : ℕ → ℕ) (ws : List RegistryWord) → AllOf (IsRegistered k g) ws → HasRead g ws
read_of k g [] h = tt
read_of k g (x ∷ ws) h = (h.0.word, read_of k g ws h.1)

-- a row of the start has the text of the row that a pass knows under the id
row_text : (v : View) → IsOfMoment v → (id : ℕ) (row : CatRow) → slice_get v.about.rows.value id ≡ Some row → (def : Definition)
    → (from to : ℕ) → (x : IsIndex v def id from to) → row.def ≡ x.listed.def
row_text v s id row there def from to x =
    let g = s.moment.registry in
    let read = read_of v.about g v.learned.words (s.rule.registry.each s.seat v s.at).read in
    let first : slice_get (definitions_at v.about g 0) id ≡ Some (listed_of row) =
    slice_get-map listed_of v.about.rows.value id ∙ ap (option_map listed_of) there in
    let grown = text_grows v.about g 0 x.version (omega arith) id (listed_of row) first in
    let same : grown.0 ≡ x.listed = same_Some grown.0 x.listed
    (sym grown.1 ∙ ap (λ (z : List Listed). slice_get z id) (x.knows.are g read) ∙ x.there) in
    sym grown.2 ∙ ap (λ (z : Listed). z.def) same

-- so each record of an index piece below the base has them
pub index_covered : {content : Option (List ℕ)} {k : Key} {cold : Cold} (h : CarriesTable content k cold) (v : View) → IsOfMoment v
    → v.about ≡ k → (def : Definition) (id from to : ℕ) → IsIndex v def id from to → IsCoveredBy h def id from to
index_covered {k = k} h v s about def id from to x n p stored after before =
    let few = stored.few in
    let first = x.after in
    let last = x.before in
    let base = ap (λ (z : Key). z.number) about in
    let opened = opened_interval v id x.begin x.end n s x.interval (omega arith) (omega arith) (omega arith) in
    let row : CatRow = opened.0 in
    h.covered n p stored id row def (subst (λ (z : Key). slice_get z.rows.value id ≡ Some row) about opened.1) opened.2
    (subst (λ (z : List ℕ). IsAccepted z def) (sym (row_text v s id row opened.1 def from to x)) x.means)

-- the head with which the table began is that of the older records
pub head_below : {content : Option (List ℕ)} {k : Key} {cold : Cold} (h : CarriesTable content k cold) (b place : ℕ) → b < k.buckets
    → place ≡ first_head k b → IsHeadOf h b place
head_below h b place less is = is ∙ h.heads b less
