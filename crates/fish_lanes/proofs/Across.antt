-- A selection of a whole log, from that of a table and that of what stood before it.
use Rattle.std.proofs.Common.{◌≡◌, ℕ, ◌<◌, ◌≤◌, List, [], ◌∷◌, ◌++◌, length, map, min, max, refl, sym, ap, ◌∙◌, subst, inl, inr}
use Rattle.std.proofs.Common.{⊎_elim, arith, slice_get, Some}
use Rattle.std.proofs.Math.Decide.{dec_lt}
use Rattle.std.proofs.lemmas.List.{length-append, length-map, map-append}
use Rattle.fish_catalog.specs.declared.entry.Entry.{Entry}
use Rattle.fish_psf.proofs.SelectLemmas.{selects}
use Rattle.fish_psf.specs.Select.{Entry as Selectable, Evaluation, select}
use Rattle.fish_psf.specs.SelectLaw.{FallsBelow, IsMatch}
use Rattle.fish_rule.proofs.laws.Lists.{among_either, among_left, among_right}
use Rattle.fish_rule.specs.Views.{Among}
use Rattle.fish_scan.proofs.Lists.{among_contains, contains_among}
use Rattle.fish_scan.proofs.Selecting.{falls_same}
use Rattle.fish_scan.specs.Older.{selectable}
use Rattle.fish_value.specs.declared.row.Row.{Row}
use Rattle.fish_value.specs.declared.value.Value.{Value}
use Rattle.fish_whole.proofs.Prefixes.{front_get, prefix_get}

-- numbers that fall below one fall below a higher one
falls_wider : (m n : ℕ) (ys : List Row) → FallsBelow m ys → m ≤ n → FallsBelow n ys
falls_wider m n [] f le = tt
falls_wider m n (y ∷ ys) f le = (let less = f.0 in omega arith, f.1)

-- rows that fall, and then others below them
falls_append : (n m : ℕ) (xs ys : List Row) → FallsBelow n xs → ((x : Row) → Among x xs → m ≤ x.number) → FallsBelow m ys → m ≤ n
    → FallsBelow n (xs ++ ys)
falls_append n m [] ys f above g le = falls_wider m n ys g le
falls_append n m (x ∷ xs) ys f above g le =
    (f.0, falls_append x.number m xs ys f.1 (λ z among. above z (inr among)) g (above x (inl refl)))

-- rows of which there is none
empty_rows : (xs : List Row) → ((z : Row) → Among z xs → ⊥) → xs ≡ []
empty_rows [] none = refl
empty_rows (x ∷ xs) none = absurd (none x (inl refl))

-- no number lies in an empty range
pub none_selected : (log : List Selectable) (eval : Evaluation) (v : Value) (from to : ℕ) (opens : List ℕ) → to ≤ from
    → select log eval v from to opens ≡ []
none_selected log eval v from to opens empty =
    empty_rows (select log eval v from to opens) (λ z among.
    let m = ((selects log eval v from to opens).0 z).0 (among_contains _ z among) in
    let above = m.above in
    let below = m.below in
    absurd (omega arith))

module _ (log front rest : List Entry) (is : log ≡ front ++ rest) (eval : Evaluation) (v : Value) (from to : ℕ) (opens : List ℕ)
    (opened : (n : ℕ) → Among n opens → length front ≤ n) where
  abbrev low : ℕ
  low = min (max from (length front)) to

  abbrev high : ℕ
  high = min to (length front)

  -- the whole as a selection sees it
  parts : map selectable log ≡ map selectable front ++ map selectable rest
  parts = ap (λ (l : List Entry). map selectable l) is ∙ map-append selectable front rest

  -- it has what stood before the table, and there nothing else
  wider : (n : ℕ) (e : Selectable) → slice_get (map selectable front) n ≡ Some e → slice_get (map selectable log) n ≡ Some e
  wider n e at = subst (λ (l : List Selectable). slice_get l n ≡ Some e) (sym parts)
      (prefix_get (map selectable front) (map selectable rest) n e at)

  narrower : (n : ℕ) (e : Selectable) → n < length front → slice_get (map selectable log) n ≡ Some e
      → slice_get (map selectable front) n ≡ Some e
  narrower n e less at = front_get (map selectable front) (map selectable rest) n e
      (let size = length-map front selectable in omega arith) (subst (λ (l : List Selectable). slice_get l n ≡ Some e) parts at)

  -- a match in the table is one of the whole
  upper_match : (row : Row) → IsMatch (map selectable log) eval v low to opens row → IsMatch (map selectable log) eval v from to opens row
  upper_match row m =
      record { above = (let a = m.above in let b = m.below in omega arith); below = m.below; closed = m.closed; selected = m.selected }

  -- and so is one before it
  lower_match : (row : Row) → IsMatch (map selectable front) eval v from high [] row
      → IsMatch (map selectable log) eval v from to opens row
  lower_match row m =
      let below = m.below in
      let t = m.selected in
      record {
        above = m.above;
        below = omega arith;
        closed = λ open_. let least = opened row.number (contains_among opens row.number open_) in absurd (omega arith);
        selected = (t.0, t.1, wider row.number _ t.2, t.3);
      }

  -- a match of the whole is one or the other
  whole_match : (row : Row) → IsMatch (map selectable log) eval v from to opens row → Dec (row.number < length front)
      → Among row (select (map selectable log) eval v low to opens ++ select (map selectable front) eval v from high [])
  whole_match row m (yes less) =
      let t = m.selected in
      let above = m.above in
      let below = m.below in
      among_right row (select (map selectable log) eval v low to opens) _
      (contains_among _ row (((selects (map selectable front) eval v from high []).0 row).1 (record {
        above = above;
        below = omega arith;
        closed = λ open_. elim (contains_among {A = ℕ} [] row.number open_) [ ];
        selected = (t.0, t.1, narrower row.number _ less t.2, t.3);
      })))
  whole_match row m (no not_less) =
      let above = m.above in
      let below = m.below in
      among_left row _ (select (map selectable front) eval v from high [])
      (contains_among _ row (((selects (map selectable log) eval v low to opens).0 row).1
      (record { above = omega arith; below = below; closed = m.closed; selected = m.selected })))

  -- so the rows of the one and then of the other are the selection of the whole
  pub parts_selected : select (map selectable log) eval v low to opens ++ select (map selectable front) eval v from high []
      ≡ select (map selectable log) eval v from to opens
  parts_selected =
      let upper = selects (map selectable log) eval v low to opens in
      let lower = selects (map selectable front) eval v from high [] in
      let whole = selects (map selectable log) eval v from to opens in
      let size = length-map front selectable in
      let longer : length front ≤ length (map selectable log) = long in
      falls_same (length (map selectable log)) (length (map selectable log)) _ _
      (falls_append (length (map selectable log)) (length front) _ _ upper.1
      (λ row among. let m = (upper.0 row).0 (among_contains _ row among) in
      let above = m.above in let below = m.below in omega arith)
      (subst (λ (n : ℕ). FallsBelow n (select (map selectable front) eval v from high [])) size lower.1) longer)
      whole.1
      (λ row among. contains_among _ row ((whole.0 row).1 (⊎_elim
      (λ (a : Among row (select (map selectable log) eval v low to opens)).
      upper_match row ((upper.0 row).0 (among_contains _ row a)))
      (λ (a : Among row (select (map selectable front) eval v from high [])).
      lower_match row ((lower.0 row).0 (among_contains _ row a)))
      (among_either row (select (map selectable log) eval v low to opens) _ among))))
      (λ row among. whole_match row ((whole.0 row).0 (among_contains _ row among)) (dec_lt row.number (length front)))
    where
      long : length front ≤ length (map selectable log)
      long =
          let one = length-map log selectable in
          let two = ap (λ (l : List Entry). length l) is in
          let three = length-append front rest in
          omega arith
