-- Which items tell of the claim that shuts a pass.
use Rattle.std.proofs.Common.{◌≡◌, List, [], ◌∷◌, ◌++◌, Option, Some, sym, ◌∙◌, subst, inl, inr, ⊎_elim, Bool, true, false, refl}
use Rattle.fish_lanes.proofs.Items.{shown_in}
use Rattle.fish_lanes.proofs.Lists.{filter_first, filter_skip, some_once}
use Rattle.fish_lanes.specs.within.Running.{IsFullItem}
use Rattle.fish_lanes.specs.Seen.{claimed, shown_by}
use Rattle.fish_lanes.specs.Sizes.{NamesOneClaim, SaysClaim}
use Rattle.fish_lanes.specs.within.Sizes.{SaysShut}
use Rattle.fish_lanes.specs.Spans.{answers, is_answer}
use Rattle.fish_report.specs.declared.item.Item.{Item}
use Rattle.fish_report.specs.declared.item.Item.TheVariants as item
use Rattle.fish_rule.proofs.laws.Lists.{all_among, among_left, among_right}
use Rattle.fish_rule.specs.Views.{AllOf, Among}
use Rattle.fish_rule.specs.declared.view.Shut.{Shut}
use Rattle.fish_rule.specs.declared.view.View.{View}

-- ---- one item more

claim_left : (c : Shut) (xs ys : List Item) → SaysClaim c xs → SaysClaim c (xs ++ ys)
claim_left c xs ys h = (h.0, h.1, h.2, among_left _ xs ys h.3)

claim_right : (c : Shut) (xs ys : List Item) → SaysClaim c ys → SaysClaim c (xs ++ ys)
claim_right c xs ys h = (h.0, h.1, h.2, among_right _ xs ys h.3)

-- what shuts a pass did so before, or an item tells of it, and so it is with one item more
pub shuts_more : (v u t : View) (items : List Item) (x : Item) → SaysShut v u items → SaysShut u t (x ∷ [])
    → SaysShut v t (items ++ x ∷ [])
shuts_more v u t items x h one c e =
    ⊎_elim (λ (same : u.shut ≡ Some c). ⊎_elim (λ (first : v.shut ≡ Some c). inl first)
    (λ (told : SaysClaim c items). inr (claim_left c items (x ∷ []) told)) (h c same))
    (λ (told : SaysClaim c (x ∷ [])). inr (claim_right c items (x ∷ []) told)) (one c e)

-- ---- one claim

-- what the items tell of shut the pass that they name
pub claim_by : (s : View) (c : Shut) (items : List Item) → AllOf (IsFullItem s) items → SaysClaim c items → s.shut ≡ Some c
claim_by s c items fits (file, stored, refused, m) =
    (all_among (IsFullItem s) (item.IngestFull file c.line c.lines c.end stored refused) items fits m file c.line c.lines c.end stored
    refused refl).shut

-- so they name one claim, which is that of before, if there was one
pub names_one : (full : Option Shut) (s : View) (items : List Item) → AllOf (IsFullItem s) items
    → ((c : Shut) → full ≡ Some c → s.shut ≡ Some c) → NamesOneClaim full items
names_one full s items fits keeps = record {
  one = λ c d a b. some_once c d (sym (claim_by s c items fits a) ∙ claim_by s d items fits b);
  given = λ c d is b. some_once d c (sym (claim_by s d items fits b) ∙ keeps c is);
}

-- ---- what was shown

-- the item shows the claim that it tells of
pub claim_shown : (c : Shut) (items : List Item) → SaysClaim c items → Among (claimed c.line c.lines c.end) (shown_in items)
claim_shown c [] h = elim h.3 [ ]
claim_shown c (x ∷ items) (file, stored, refused, inl e) =
    among_left _ (shown_by x) (shown_in items)
    (subst (λ (z : Item). Among (claimed c.line c.lines c.end) (shown_by z)) (sym e) (inl refl))
claim_shown c (x ∷ items) (file, stored, refused, inr m) =
    among_right _ (shown_by x) (shown_in items) (claim_shown c items (file, stored, refused, m))

-- ---- answers

answer_among : (x : Item) (items : List Item) → Among x (answers items) → Among x items
answer_among x [] m = m
answer_among x (y ∷ items) m = by (is_answer y) refl (answer_among x items)
  where
    by : (b : Bool) → is_answer y ≡ b → (Among x (answers items) → Among x items) → Among x (y ∷ items)
    by true e rest = ⊎_elim (λ (h : y ≡ x). inl h) (λ (h : Among x (answers items)). inr (rest h))
        (subst (Among x) (filter_first is_answer y items e) m)
    by false e rest = inr (rest (subst (Among x) (filter_skip is_answer y items e) m))

pub shuts_answers : (v u : View) (items : List Item) → SaysShut v u (answers items) → SaysShut v u items
shuts_answers v u items h c e = ⊎_elim (λ (first : v.shut ≡ Some c). inl first)
    (λ (told : SaysClaim c (answers items)). inr (told.0, told.1, told.2, answer_among _ items told.3)) (h c e)
