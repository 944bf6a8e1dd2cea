-- The text of items, and what was written of it.
use Rattle.std.proofs.Common.{◌≡◌, ℕ, ◌+◌, ◌<◌, List, [], ◌∷◌, ◌++◌, length, take, drop, get_or, sym, ap, ◌∙◌, subst, arith}
use Rattle.std.proofs.Common.{append-nil, append_assoc, refl, Option, Result, Ok, Err}
use Rattle.std.specs.Prelude.{OnErr}
use Rattle.std.specs.List.{flat_map}
use Rattle.std.proofs.lemmas.Grind.{flat_map-append}
use Rattle.std.proofs.lemmas.List.{take-append-drop, take_all, take_more}
use Rattle.fish_outside.proofs.ContentLemmas.{Gained_trans}
use Rattle.fish_outside.specs.Content.{Gained, GainedPart}
use Rattle.fish_report.specs.ReportText.{item_text, report_text}
use Rattle.fish_report.specs.declared.item.Item.{Item}

-- ---- any text

-- what was sent is a first part of a text that goes on
front_of : (sent left : List ℕ) → take (length sent) (sent ++ left) ≡ sent
front_of [] left = refl
front_of (x ∷ sent) left = ap (λ (z : List ℕ). x ∷ z) (front_of sent left)

part_of : (old new : Option (List ℕ)) (sent left text : List ℕ) → sent ++ left ≡ text → Gained old new sent
    → GainedPart old new text
part_of old new sent left text all gained = (
  length sent,
  subst (Gained old new) (sym (front_of sent left) ∙ ap (take (length sent)) all) gained,
)

-- the whole is a part
pub part_whole : (old new : Option (List ℕ)) (text : List ℕ) → Gained old new text → GainedPart old new text
part_whole old new text a = (length text, subst (Gained old new) (sym (take_all (length text) text (omega arith))) a)

-- a step that wrote nothing
pub gained_none : (old mid new : Option (List ℕ)) (text : List ℕ) → Gained old mid text → Gained mid new [] → Gained old new text
gained_none old mid new text a b = subst (Gained old new) (append-nil text) (Gained_trans old mid new text [] a b)

pub part_still : (old mid new : Option (List ℕ)) (text : List ℕ) → GainedPart old mid text → Gained mid new []
    → GainedPart old new text
part_still old mid new text p b = (p.0, gained_none old mid new (take p.0 text) p.1 b)

-- ---- items

-- the text of items is theirs, one after the other
text_both : (xs ys : List Item) → report_text (xs ++ ys) ≡ report_text xs ++ report_text ys
text_both xs ys = flat_map-append item_text xs ys

-- items that were written in two steps
pub written_both : (old mid new : Option (List ℕ)) (xs ys : List Item) → Gained old mid (report_text xs)
    → Gained mid new (report_text ys) → Gained old new (report_text (xs ++ ys))
written_both old mid new xs ys a b =
    subst (Gained old new) (sym (text_both xs ys)) (Gained_trans old mid new (report_text xs) (report_text ys) a b)

-- of which the first step wrote a part
pub part_first : (old new : Option (List ℕ)) (xs ys : List Item) → GainedPart old new (report_text xs)
    → GainedPart old new (report_text (xs ++ ys))
part_first old new xs ys p =
    let text = report_text xs in
    part_of old new (take p.0 text) (drop p.0 text ++ report_text ys) (report_text (xs ++ ys))
    (sym (append_assoc (take p.0 text) (drop p.0 text) (report_text ys))
    ∙ ap (λ (z : List ℕ). z ++ report_text ys) (take-append-drop p.0 text) ∙ sym (text_both xs ys)) p.1

-- or the second
pub part_then : (old mid new : Option (List ℕ)) (xs ys : List Item) → Gained old mid (report_text xs)
    → GainedPart mid new (report_text ys) → GainedPart old new (report_text (xs ++ ys))
part_then old mid new xs ys a p =
    let text = report_text ys in
    part_of old new (report_text xs ++ take p.0 text) (drop p.0 text) (report_text (xs ++ ys))
    (append_assoc (report_text xs) (take p.0 text) (drop p.0 text)
    ∙ ap (λ (z : List ℕ). report_text xs ++ z) (take-append-drop p.0 text) ∙ sym (text_both xs ys))
    (Gained_trans old mid new (report_text xs) (take p.0 text) a p.1)

-- ---- lists of items, element by element

module _ {A : Type 0} (f : A → List Item) where
  -- those of one element more
  pub items_more : (xs : List A) (i : ℕ) (x : A) → i < length xs → x ≡ get_or xs i x
      → flat_map f (take (i + 1) xs) ≡ flat_map f (take i xs) ++ f x
  items_more xs i x less is =
      ap (flat_map f) (take_more xs i x less ∙ ap (λ (z : A). take i xs ++ z ∷ []) (sym is))
      ∙ flat_map-append f (take i xs) (x ∷ []) ∙ ap (λ (z : List Item). flat_map f (take i xs) ++ z) (append-nil (f x))

  -- those of the elements up to one, and of the rest
  pub items_split : (xs : List A) (i : ℕ) → flat_map f xs ≡ flat_map f (take i xs) ++ flat_map f (drop i xs)
  items_split xs i = sym (ap (flat_map f) (take-append-drop i xs)) ∙ flat_map-append f (take i xs) (drop i xs)

  -- written up to an element, and of that one
  pub written_more : (old mid new : Option (List ℕ)) (xs : List A) (i : ℕ) (x : A) → i < length xs → x ≡ get_or xs i x
      → Gained old mid (report_text (flat_map f (take i xs))) → Gained mid new (report_text (f x))
      → Gained old new (report_text (flat_map f (take (i + 1) xs)))
  written_more old mid new xs i x less is a b = subst (λ (z : List Item). Gained old new (report_text z))
      (sym (items_more xs i x less is)) (written_both old mid new (flat_map f (take i xs)) (f x) a b)

  -- or a part of it
  pub part_more : (old mid new : Option (List ℕ)) (xs : List A) (i : ℕ) (x : A) → i < length xs → x ≡ get_or xs i x
      → Gained old mid (report_text (flat_map f (take i xs))) → GainedPart mid new (report_text (f x))
      → GainedPart old new (report_text (flat_map f xs))
  part_more old mid new xs i x less is a p =
      let front : GainedPart old new (report_text (flat_map f (take (i + 1) xs)))
      = subst (λ (z : List Item). GainedPart old new (report_text z)) (sym (items_more xs i x less is))
      (part_then old mid new (flat_map f (take i xs)) (f x) a p) in
      subst (λ (z : List Item). GainedPart old new (report_text z)) (sym (items_split xs (i + 1)))
      (part_first old new (flat_map f (take (i + 1) xs)) (flat_map f (drop (i + 1) xs)) front)

-- ---- results

-- what holds anyway holds of a refusal
pub on_err_any : {T E Q : Type 0} (r : Result T E) → Q → OnErr r Q
on_err_any (Ok x) q = tt
on_err_any (Err e) q = q
