-- Definitions by their texts.
use Rattle.std.proofs.Common.{◌≡◌, ℕ, ◌+◌, ◌<◌, suc, List, [], ◌∷◌, ◌++◌, All, get_or, length, map, take, sym, ap, ◌∙◌}
use Rattle.std.proofs.Common.{subst, true, false, Bool, add-one, append-nil}
use Rattle.std.specs.Prelude.{filter, cond}
use Rattle.std.proofs.lemmas.List.{map-append}
use Rattle.std.proofs.lemmas.List.Elements.{All-push, filter-append}
use Rattle.std.proofs.Math.Seq.{take-suc}
use Rattle.fish_catalog.specs.Listing.{active_texts, is_on}
use Rattle.fish_catalog.specs.declared.listed.Listed.{Listed}
use Rattle.fish_psf.specs.declared.key.ActiveDef.{ActiveDef}
use Rattle.fish_rule.specs.Keys.{IsWritten, text_of}

-- an active definition more
pub texts_on : (ls : List Listed) (l : Listed) → l.active ≡ true → active_texts (ls ++ l ∷ []) ≡ active_texts ls ++ (l.id, l.def) ∷ []
texts_on ls l on =
    ap (map (λ (z : Listed). (z.id, z.def))) (filter-append is_on ls (l ∷ [])
    ∙ ap (λ (b : Bool). filter is_on ls ++ cond b (l ∷ []) []) on)
    ∙ map-append (λ (z : Listed). (z.id, z.def)) (filter is_on ls) (l ∷ [])

-- an ended one more
pub texts_off : (ls : List Listed) (l : Listed) → l.active ≡ false → active_texts (ls ++ l ∷ []) ≡ active_texts ls
texts_off ls l off =
    ap (map (λ (z : Listed). (z.id, z.def))) (filter-append is_on ls (l ∷ [])
    ∙ ap (λ (b : Bool). filter is_on ls ++ cond b (l ∷ []) []) off ∙ append-nil (filter is_on ls))

-- a definition more among those that were parsed
pub parsed_more : (defs : List ActiveDef) (d : ActiveDef) (ts : List (ℕ × List ℕ)) → map text_of defs ≡ ts
    → map text_of (defs ++ d ∷ []) ≡ ts ++ text_of d ∷ []
parsed_more defs d ts h = map-append text_of defs (d ∷ []) ∙ ap (λ (z : List (ℕ × List ℕ)). z ++ text_of d ∷ []) h

module _ (rows : List Listed) (i : ℕ) (l : Listed) (defs : List ActiveDef) (less : i < length rows)
    (is : l ≡ get_or rows i l) (texts : map text_of defs ≡ active_texts (take i rows)) (written : All IsWritten defs) where
  -- one row more
  row_more : take (i + 1) rows ≡ take i rows ++ l ∷ []
  row_more =
      let e : i + 1 ≡ suc i = add-one i in
      ap (λ (z : ℕ). take z rows) e ∙ take-suc rows i l less
      ∙ ap (λ (z : Listed). take i rows ++ z ∷ []) (sym is)

  -- of an active one the definition is parsed
  pub turn_on : (d : ActiveDef) (new : List ActiveDef) → l.active ≡ true → text_of d ≡ (l.id, l.def) → IsWritten d
      → new ≡ defs ++ d ∷ [] → (map text_of new ≡ active_texts (take (i + 1) rows)) × All IsWritten new
  turn_on d new on text said added = (
    ap (map text_of) added ∙ parsed_more defs d (active_texts (take i rows)) texts
        ∙ ap (λ (z : ℕ × List ℕ). active_texts (take i rows) ++ z ∷ []) text
        ∙ sym (ap active_texts row_more ∙ texts_on (take i rows) l on),
    subst (All IsWritten) (sym added) (All-push IsWritten defs d written said),
  )

  -- and an ended one is passed over
  pub turn_off : (new : List ActiveDef) → l.active ≡ false → new ≡ defs
      → (map text_of new ≡ active_texts (take (i + 1) rows)) × All IsWritten new
  turn_off new off same = (
    ap (map text_of) same ∙ texts ∙ sym (ap active_texts row_more ∙ texts_off (take i rows) l off),
    subst (All IsWritten) (sym same) written,
  )
