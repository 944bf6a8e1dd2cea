-- What always holds of the definitions of a version: in those of a catalogue, as one more comes and as one ends.
use Rattle.std.proofs.Common.{◌≡◌, ℕ, zero, suc, ◌≤◌, List, [], ◌∷◌, ◌++◌, true}
use Rattle.std.proofs.Common.{Option, Some, None, inl, inr, cond, is_none, length, map, refl, sym, ap, subst}
use Rattle.std.proofs.Common.{◌∙◌, arith, length-append, slice_get, count_by}
use Rattle.std.proofs.lemmas.List.{length-map}
use Rattle.std.proofs.lemmas.List.Elements.{All-map, All-push, All-weaker}
use Rattle.std.proofs.lemmas.List.Sums.{sum_by-cons, sum_by_push}
use Rattle.std.proofs.lemmas.Option.{same_Some}
use Rattle.std.proofs.Math.Decide.{ℕ_discrete}
use Rattle.fish_layout.specs.Cleared.{choose}
use Rattle.fish_catalog.specs.Canonical.{IsCanonical}
use Rattle.fish_catalog.specs.Listing.{IsListing, IsNewName, ended, ended_at, is_on, listed_of}
use Rattle.fish_catalog.specs.Rows.{IsActive, IsCatalog, IsName, IsRow, is_active}
use Rattle.fish_catalog.specs.declared.listed.Listed.{Listed}
use Rattle.fish_catalog.specs.declared.row.CatRow.{CatRow}
use Rattle.fish_catalog.proofs.Changes.{push_cases}

-- ---- the definitions of a catalogue

-- an element of a list of images is the image of one
map_at : {A B : Type 0} (f : A → B) (xs : List A) (k : ℕ) (y : B) → slice_get (map f xs) k ≡ Some y →
    (x : A) × (slice_get xs k ≡ Some x) × (f x ≡ y)
map_at f [] k y h = absurd (cc)
map_at f (x ∷ xs) zero y h = (x, refl, same_Some (f x) y h)
map_at f (x ∷ xs) (suc k) y h = map_at f xs k y h

-- an index with no end, by the test
no_end : (to : Option ℕ) → is_none to ≡ true → to ≡ None
no_end None h = refl
no_end (Some n) h = absurd (cc)

-- as many definitions are active as rows
pub count_listed : (rows : List CatRow) → count_by is_on (map listed_of rows) ≡ count_by is_active rows
count_listed [] = refl
count_listed (row ∷ rows) = omega (
  arith,
  sum_by-cons (λ l. cond (is_on l) 1 0) (listed_of row) (map listed_of rows),
  sum_by-cons (λ r. cond (is_active r) 1 0) row rows,
  count_listed rows,
)

-- a row whose definition is active has no end
pub active_row : (row : CatRow) (l : Listed) → listed_of row ≡ l → l.active ≡ true → IsActive row
active_row row l is on = no_end row.to (ap is_on is ∙ on)

-- the rows of a catalogue are the definitions of a version
pub listing_of_catalog : (rows : List CatRow) → IsCatalog rows → IsListing (map listed_of rows)
listing_of_catalog rows h = record {
  few = omega (arith, length-map rows listed_of, h.few);
  ids = λ n l at.
      let was = map_at listed_of rows n l at in
      ap (λ x. x.id) (sym was.2) ∙ h.ids n was.0 was.1;
  names = All-map (λ l. IsName l.name) listed_of rows
      (All-weaker IsRow (λ r. IsName r.name) (λ r p. p.name) rows h.each);
  texts = All-map (λ l. IsCanonical l.def) listed_of rows
      (All-weaker IsRow (λ r. IsCanonical r.def) (λ r p. p.text) rows h.each);
  few_active = omega (arith, count_listed rows, h.few_active);
  apart = λ i j one other at_i at_j on other_on same.
      let was = map_at listed_of rows i one at_i in
      let other_was = map_at listed_of rows j other at_j in
      h.apart i j was.0 other_was.0 was.1 other_was.1 (active_row was.0 one was.2 on)
      (active_row other_was.0 other other_was.2 other_on)
      (ap (λ x. x.name) was.2 ∙ same ∙ ap (λ x. x.name) (sym other_was.2));
}

-- ---- one more

-- the definition that a registration puts after the others
abbrev newest : List Listed → List ℕ → List ℕ → Listed
newest ls name text = record { id = length ls; name = name; def = text; active = true }

-- two active ones of the longer list have two names
apart_more : (ls : List Listed) (y : Listed) → IsListing ls →
    ((n : ℕ) (l : Listed) → slice_get ls n ≡ Some l → l.active ≡ true → l.name ≡ y.name → ⊥) →
    (i j : ℕ) (one other : Listed) → slice_get (ls ++ y ∷ []) i ≡ Some one →
    slice_get (ls ++ y ∷ []) j ≡ Some other → one.active ≡ true → other.active ≡ true → one.name ≡ other.name → i ≡ j
apart_more ls y old free i j one other at_i at_j on other_on same =
    elim (push_cases ls y i one at_i) [
      | inl early ↦ elim (push_cases ls y j other at_j) [
        | inl early_too ↦ old.apart i j one other early early_too on other_on same
        | inr last ↦ absurd (free i one early on (same ∙ ap (λ x. x.name) (sym last.1)))
      ]
      | inr last ↦ elim (push_cases ls y j other at_j) [
        | inl early ↦ absurd (free j other early other_on (sym same ∙ ap (λ x. x.name) (sym last.1)))
        | inr last_too ↦ last.0 ∙ sym last_too.0
      ]
    ]

-- a definition that may be registered, after the others
pub listing_registered : (ls : List Listed) (name text : List ℕ) → IsListing ls → IsNewName ls name text →
    IsListing (ls ++ record { id = length ls; name = name; def = text; active = true } ∷ [])
listing_registered ls name text old new =
    let y : Listed = newest ls name text in
    record {
      few = omega (arith, length-append ls (y ∷ []), new.room);
      ids = λ n l at. elim (push_cases ls y n l at) [
        | inl early ↦ old.ids n l early
        | inr last ↦ ap (λ x. x.id) (sym last.1) ∙ sym last.0
      ];
      names = All-push (λ l. IsName l.name) ls y old.names new.name_is;
      texts = All-push (λ l. IsCanonical l.def) ls y old.texts new.text_is;
      few_active = omega (arith, sum_by_push (λ l. cond (is_on l) 1 0) ls y, new.few);
      apart = apart_more ls y old new.free;
    }

-- ---- one that ends

-- a definition that has ended, or the same one
record EndsOrStays (old new : Listed) : Type 0 where
  id : new.id ≡ old.id
  name : new.name ≡ old.name
  def : new.def ≡ old.def
  was : new.active ≡ true → old.active ≡ true
  fewer : cond new.active 1 0 ≤ cond old.active 1 0

-- a definition ends where its id is the one, and stays else
end_one : {P : Type 0} (d : Dec P) (l : Listed) → EndsOrStays l (choose d (ended l) l)
end_one (yes p) l = record { id = refl; name = refl; def = refl; was = λ h. absurd (cc); fewer = omega arith }
end_one (no n) l = record { id = refl; name = refl; def = refl; was = λ h. h; fewer = omega arith }

-- the definition, ended where it has the id
abbrev end_at : ℕ → Listed → Listed
end_at id l = choose (ℕ_discrete l.id id) (ended l) l

-- what becomes of a definition
ends_or_stays : (id : ℕ) (l : Listed) → EndsOrStays l (end_at id l)
ends_or_stays id l = end_one (ℕ_discrete l.id id) l

-- no more are active
count_ended : (id : ℕ) (ls : List Listed) → count_by is_on (ended_at id ls) ≤ count_by is_on ls
count_ended id [] = omega arith
count_ended id (l ∷ ls) =
    let here = (ends_or_stays id l).fewer in
    omega (
      arith,
      here,
      sum_by-cons (λ l. cond (is_on l) 1 0) (end_at id l) (ended_at id ls),
      sum_by-cons (λ l. cond (is_on l) 1 0) l ls,
      count_ended id ls,
    )

-- as many definitions are there
pub length_ended : (id : ℕ) (ls : List Listed) → length (ended_at id ls) ≡ length ls
length_ended id ls = length-map ls (end_at id)

-- a definition of the version ends
pub listing_ended : (ls : List Listed) (id : ℕ) → IsListing ls → IsListing (ended_at id ls)
listing_ended ls id old = record {
  few = omega (arith, length_ended id ls, old.few);
  ids = λ n l at.
      let was = map_at (end_at id) ls n l at in
      ap (λ x. x.id) (sym was.2) ∙ (ends_or_stays id was.0).id ∙ old.ids n was.0 was.1;
  names = All-map (λ l. IsName l.name) (end_at id) ls
      (All-weaker (λ l. IsName l.name) (λ l. IsName (end_at id l).name)
      (λ l. subst IsName (sym (ends_or_stays id l).name)) ls old.names);
  texts = All-map (λ l. IsCanonical l.def) (end_at id) ls
      (All-weaker (λ l. IsCanonical l.def) (λ l. IsCanonical (end_at id l).def)
      (λ l. subst IsCanonical (sym (ends_or_stays id l).def)) ls old.texts);
  few_active = omega (arith, count_ended id ls, old.few_active);
  apart = λ i j one other at_i at_j on other_on same.
      let was = map_at (end_at id) ls i one at_i in
      let other_was = map_at (end_at id) ls j other at_j in
      let from = ends_or_stays id was.0 in
      let other_from = ends_or_stays id other_was.0 in
      old.apart i j was.0 other_was.0 was.1 other_was.1 (from.was (ap is_on was.2 ∙ on))
      (other_from.was (ap is_on other_was.2 ∙ other_on))
      (sym from.name ∙ ap (λ x. x.name) was.2 ∙ same ∙ ap (λ x. x.name) (sym other_was.2) ∙ other_from.name);
}
