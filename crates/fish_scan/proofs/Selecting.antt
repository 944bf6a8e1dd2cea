-- Falling rows are told by what is among them, so what was found is the selection.
use Rattle.std.proofs.Common.{◌≡◌, ℕ, ◌<◌, ◌≤◌, List, [], ◌∷◌, length, refl, sym, ap, inl, inr, arith}
use Rattle.fish_lang.specs.Definition.{Definition}
use Rattle.fish_psf.proofs.SelectLemmas.{selects}
use Rattle.fish_psf.specs.Records.{evaluation}
use Rattle.fish_psf.specs.Select.{Entry, select}
use Rattle.fish_psf.specs.SelectLaw.{FallsBelow, IsMatch}
use Rattle.fish_rule.specs.Views.{Among}
use Rattle.fish_rule.specs.World.{World}
use Rattle.fish_rule.specs.declared.view.Key.{Key}
use Rattle.fish_rule.specs.declared.view.View.{View}
use Rattle.fish_scan.proofs.Finding.{falls_below}
use Rattle.fish_scan.proofs.Lists.{among_contains, contains_among}
use Rattle.fish_scan.specs.Laws.{FindsSelection, IsSpelled}
use Rattle.fish_scan.specs.Matching.{Finds, Matches}
use Rattle.fish_value.specs.declared.row.Row.{Row}
use Rattle.fish_value.specs.declared.value.Value.{Value}

-- the first of falling rows is above each of the others
first_above : (x y : Row) (xs : List Row) → FallsBelow x.number xs → Among y (x ∷ xs) → y.number ≤ x.number
first_above x y xs f (inl e) = (let same = ap (λ (z : Row). z.number) e in omega arith)
first_above x y xs f (inr m) = (let less = falls_below x.number xs y f m in omega arith)

-- what is among falling rows, and not above the first of the rest, is among the rest
rest_of : (x z : Row) (xs : List Row) → Among z (x ∷ xs) → z.number < x.number → Among z xs
rest_of x z xs (inl e) less = absurd (let same = ap (λ (y : Row). y.number) e in omega arith)
rest_of x z xs (inr m) less = m

-- a row with the first one's number is the first one
first_same : (x y : Row) (ys : List Row) → FallsBelow y.number ys → x.number ≡ y.number → Among x (y ∷ ys) → x ≡ y
first_same x y ys g same (inl e) = sym e
first_same x y ys g same (inr m) = absurd (let less = falls_below y.number ys x g m in omega arith)

-- falling rows of which each is among the others are these
pub falls_same : (m n : ℕ) (xs ys : List Row) → FallsBelow m xs → FallsBelow n ys
    → ((z : Row) → Among z xs → Among z ys) → ((z : Row) → Among z ys → Among z xs) → xs ≡ ys
falls_same m n [] [] f g in_ on = refl
falls_same m n [] (y ∷ ys) f g in_ on = absurd (on y (inl refl))
falls_same m n (x ∷ xs) [] f g in_ on = absurd (in_ x (inl refl))
falls_same m n (x ∷ xs) (y ∷ ys) f g in_ on =
    let above : x.number ≡ y.number = (let a = first_above y x ys g.1 (in_ x (inl refl)) in
    let b = first_above x y xs f.1 (on y (inl refl)) in omega arith) in
    let first = first_same x y ys g.1 above (in_ x (inl refl)) in
    let rest = falls_same x.number y.number xs ys f.1 g.1
    (λ z m. rest_of y z ys (in_ z (inr m)) (let less = falls_below x.number xs z f.1 m in omega arith))
    (λ z m. rest_of x z xs (on z (inr m)) (let less = falls_below y.number ys z g.1 m in omega arith)) in
    λ i. first i ∷ rest i

-- ---- what was found

module _ (v : View) (def : Definition) (value : Value) (from to : ℕ) (opens : List ℕ) (rows : List Row)
    (h : Finds v def value from to opens rows) (log : List Entry) where
  -- each row that was found is a match
  row_match : (row : Row) (k : Key) (w : World) → IsSpelled w from to opens log → Among row rows
      → Matches def value row k w → IsMatch log (evaluation def) value from to opens row
  row_match row k w spelled among m = record {
    above = h.above row among;
    below = falls_below to rows row h.falls among;
    closed = λ open_. h.closed row among (contains_among opens row.number open_);
    selected = (
      m.0,
      m.1,
      (spelled row.number m.0 m.1 row.payload (h.above row among)
          (falls_below to rows row h.falls among) (h.closed row among)).1 m.2,
      m.3,
    );
  }

  -- and each match is one
  match_row : (row : Row) (k : Key) (w : World) → IsSpelled w from to opens log
      → (Matches def value row k w → Among row rows) → IsMatch log (evaluation def) value from to opens row
      → Among row rows
  match_row row k w spelled found m =
      let t = m.selected in
      found (
        t.0,
        t.1,
        (spelled row.number t.0 t.1 row.payload m.above m.below
            (λ among. m.closed (among_contains opens row.number among))).0 t.2,
        t.3,
      )

-- what was found is the selection
pub finds_selection : FindsSelection
finds_selection v def value from to opens rows h x learns w r seat at log spelled =
    let law = selects log (evaluation def) value from to opens in
    falls_same to (length log) rows (select log (evaluation def) value from to opens) h.falls law.1
    (λ row among. contains_among _ row ((law.0 row).1
    (row_match v def value from to opens rows h log row x.about w spelled among (h.sound row among x learns w r seat at))))
    (λ row among. let m = (law.0 row).0 (among_contains _ row among) in
    match_row v def value from to opens rows h log row x.about w spelled
    (h.complete row m.above m.below (λ open_. m.closed (among_contains opens row.number open_)) x learns w r seat at) m)
