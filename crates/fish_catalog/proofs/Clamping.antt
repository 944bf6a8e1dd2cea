-- Rows whose boundaries were cut are those of a catalogue, and begin and end within the count.
use Rattle.std.proofs.Common.{◌≡◌, ℕ, ◌<◌, ◌≤◌, ◌+◌, zero, suc, List, [], ◌∷◌, Option, Some, None, cond, is_none, length, map, min}
use Rattle.std.proofs.Common.{◌++◌, drop, set, take, get_or, refl, sym, ap, ◌∙◌, arith, slice_get, All, count_by, option_map}
use Rattle.std.proofs.lemmas.List.{length-map}
use Rattle.std.proofs.lemmas.List.Sums.{sum_by-cons}
use Rattle.std.proofs.lemmas.Option.{same_Some}
use Rattle.std.proofs.Math.Seq.{take-append_seam}
use Rattle.fish_catalog.specs.Clamps.{IsClamped, begun_by, clamped}
use Rattle.fish_catalog.specs.Rows.{IsCatalog, IsSpanInOrder, IsRow, is_active}
use Rattle.fish_catalog.specs.declared.row.CatRow.{CatRow}

-- a cut index ends where it begins or after
order_clamped : (n : ℕ) (from to : Option ℕ) → IsSpanInOrder from to
    → IsSpanInOrder (Some (begun_by n from)) (option_map (λ t. min t n) to)
order_clamped n from None h = tt
order_clamped n None (Some to) h = absurd h
order_clamped n (Some from) (Some to) h = omega arith

-- what holds of a row holds of the cut one
row_clamped : (n : ℕ) (row : CatRow) → IsRow row → IsRow (clamped n row)
row_clamped n row h = record { name = h.name; text = h.text; order = order_clamped n row.from row.to h.order }

-- an end stays one
none_clamped : (n : ℕ) (to : Option ℕ) → is_none (option_map (λ t. min t n) to) ≡ is_none to
none_clamped n None = refl
none_clamped n (Some to) = refl

-- and none stays none
was_none : (n : ℕ) (to : Option ℕ) → option_map (λ t. min t n) to ≡ None → to ≡ None
was_none n None h = refl
was_none n (Some to) h = cc

module _ {A B : Type 0} (f : A → B) where
  -- what stands in a mapped list was mapped
  pub mapped_from : (xs : List A) (k : ℕ) (y : B) → slice_get (map f xs) k ≡ Some y
      → (x : A) × (slice_get xs k ≡ Some x) × (f x ≡ y)
  mapped_from [] k y h = absurd cc
  mapped_from (x ∷ xs) zero y h = (x, refl, same_Some (f x) y h)
  mapped_from (x ∷ xs) (suc k) y h = mapped_from xs k y h

  -- what holds of each of a mapped list
  pub mapped_all : (P : A → Type 0) (Q : B → Type 0) → ((x : A) → P x → Q (f x)) → (xs : List A) → All P xs
      → All Q (map f xs)
  mapped_all P Q g [] h k d less = absurd (omega arith)
  mapped_all P Q g (x ∷ xs) h zero d less = g x (h 0 x (omega arith))
  mapped_all P Q g (x ∷ xs) h (suc k) d less =
      mapped_all P Q g xs (λ j e within. h (suc j) e (omega arith)) k d (omega arith)

module _ {A : Type 0} where
  -- one more of a list that is mapped in position
  pub mapped_next : (xs : List A) (g : A → A) (i : ℕ) (d : A) → i < length xs
      → set (map g (take i xs) ++ drop i xs) i (g (get_or (map g (take i xs) ++ drop i xs) i d))
      ≡ map g (take (suc i) xs) ++ drop (suc i) xs
  mapped_next [] g i d less = absurd (omega arith)
  mapped_next (x ∷ xs) g zero d less = refl
  mapped_next (x ∷ xs) g (suc i) d less = ap (λ rest. g x ∷ rest) (mapped_next xs g i d (omega arith))

-- what was written through a whole vector is all of it
pub written_back : {A : Type 0} (xs ys : List A) (n : ℕ) → n ≡ length xs → take n (xs ++ drop (length xs) ys) ≡ xs
written_back xs ys n e = ap (λ (z : ℕ). take z (xs ++ drop (length xs) ys)) e ∙ take-append_seam xs (drop (length xs) ys)

-- as many rows are active
count_clamped : (n : ℕ) (rows : List CatRow) → count_by is_active (map (clamped n) rows) ≡ count_by is_active rows
count_clamped n [] = refl
count_clamped n (row ∷ rows) =
    let one : CatRow → ℕ = λ r. cond (is_active r) 1 0 in
    sum_by-cons one (clamped n row) (map (clamped n) rows)
    ∙ (λ i. cond (none_clamped n row.to i) 1 0 + count_clamped n rows i)
    ∙ sym (sum_by-cons one row rows)

-- the cut rows are those of a catalogue
pub catalog_clamped : (n : ℕ) (rows : List CatRow) → IsCatalog rows → IsCatalog (map (clamped n) rows)
catalog_clamped n rows h =
    let size = length-map rows (clamped n) in
    let few = h.few in
    let few_active = h.few_active in
    let count = count_clamped n rows in
    record {
      few = omega arith;
      ids = λ k row there. let t = mapped_from (clamped n) rows k row there in
          ap (λ (z : CatRow). z.id) (sym t.2) ∙ h.ids k t.0 t.1;
      each = mapped_all (clamped n) IsRow IsRow (row_clamped n) rows h.each;
      few_active = omega arith;
      apart = λ j k one other at_j at_k active other_active same.
          let a = mapped_from (clamped n) rows j one at_j in
          let b = mapped_from (clamped n) rows k other at_k in
          h.apart j k a.0 b.0 a.1 b.1 (was_none n a.0.to (ap (λ (z : CatRow). z.to) a.2 ∙ active))
          (was_none n b.0.to (ap (λ (z : CatRow). z.to) b.2 ∙ other_active))
          (ap (λ (z : CatRow). z.name) a.2 ∙ same ∙ ap (λ (z : CatRow). z.name) (sym b.2));
    }

-- what ends at most at the count
ends_clamped : (n to : ℕ) (o : Option ℕ) → option_map (λ t. min t n) o ≡ Some to → to ≤ n
ends_clamped n to None h = absurd cc
ends_clamped n to (Some t) h = (let e : min t n ≡ to = same_Some (min t n) to h in omega arith)

-- where it begins
begun_early : (n : ℕ) (o : Option ℕ) → begun_by n o ≤ n
begun_early n None = omega arith
begun_early n (Some from) = omega arith

-- each begins and ends within the count
pub all_clamped : (n : ℕ) (rows : List CatRow) → All (IsClamped n) (map (clamped n) rows)
all_clamped n rows = mapped_all (clamped n) (λ _. Unit {0}) (IsClamped n) (λ row _. record {
  from = begun_by n row.from;
  begins = refl;
  early = begun_early n row.from;
  ends = λ to. ends_clamped n to row.to;
}) rows (λ k d less. tt)
