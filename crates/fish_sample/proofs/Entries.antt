-- The records of lanes among the entries of a log, and how many of them have a value.
use Rattle.std.proofs.Common.{◌≡◌, ℕ, ◌+◌, ◌%◌, ◌<◌, ◌≤◌, zero, suc, List, [], ◌∷◌, ◌++◌, length, map, filter, refl}
use Rattle.std.proofs.Common.{ap, ◌∙◌, arith}
use Rattle.std.proofs.Common.{Bool, true, false, cond, Some, None, slice_get}
use Rattle.std.proofs.Math.Decide.{ℕ_discrete}
use Rattle.std.proofs.lemmas.Bool.{le-leb}
use Rattle.std.proofs.lemmas.List.{length-reverse}
use Rattle.std.proofs.lemmas.List.Sums.{sum_by-cons}
use Rattle.std.specs.Prelude.{◌==◌, count_by, if◌then◌else◌}
use Rattle.std.specs.List.{cons_option, enumerate_from, filter_map}
use Rattle.fish_catalog.specs.declared.entry.Entry.{Entry}
use Rattle.fish_catalog.specs.declared.entry.Entry.TheVariants as entry
use Rattle.fish_layout.specs.Cleared.{choose}
use Rattle.fish_psf.specs.Select.{Evaluation, has_value, selected_row, select}
use Rattle.fish_value.specs.declared.field.Form.{Form}
use Rattle.fish_value.specs.declared.row.Row.{Row}
use Rattle.fish_value.specs.declared.value.Value.{Value}
use Rattle.fish_lanes.specs.Records.{Content, contents_of_rows, rows_from}
use Rattle.fish_lanes.specs.Telling.{all_of}
use Rattle.fish_sample.specs.within.Parts.{EachEntry, IsOfLanes, IsVoid}
use Rattle.fish_scan.specs.Older.{selectable}

-- ---- entries, one by one

pub each_at : (P : Entry → Type 0) (es : List Entry) → ((i : ℕ) (e : Entry) → slice_get es i ≡ Some e → P e) → EachEntry P es
each_at P [] h = tt
each_at P (e ∷ es) h = (h 0 e refl, each_at P es (λ i. h (suc i)))

pub each_both : (P : Entry → Type 0) (es fs : List Entry) → EachEntry P es → EachEntry P fs → EachEntry P (es ++ fs)
each_both P [] fs h k = k
each_both P (e ∷ es) fs h k = (h.0, each_both P es fs h.1 k)

pub each_weaker : (P Q : Entry → Type 0) → ((e : Entry) → P e → Q e) → (es : List Entry) → EachEntry P es → EachEntry Q es
each_weaker P Q so [] h = tt
each_weaker P Q so (e ∷ es) h = (so e h.0, each_weaker P Q so es h.1)

-- what is no record is one of no lane
pub void_lanes : (e : Entry) → IsVoid e → IsOfLanes 4 e
void_lanes (entry.Stored lane form payload) h = absurd h
void_lanes entry.Void h = tt

-- ---- the records of a lane

-- wherever they begin
contents_from : (lane n m : ℕ) (es : List Entry) → contents_of_rows (rows_from lane n es) ≡ contents_of_rows (rows_from lane m es)
contents_from lane n m [] = refl
contents_from lane n m (entry.Void ∷ es) = contents_from lane (suc n) (suc m) es
contents_from lane n m (entry.Stored l form payload ∷ es) = by (ℕ_discrete l lane) (contents_from lane (suc n) (suc m) es)
  where
    by : (d : Dec (l ≡ lane)) → contents_of_rows (rows_from lane (suc n) es) ≡ contents_of_rows (rows_from lane (suc m) es)
        → contents_of_rows (choose d (record { number = n; form = form; payload = payload } ∷ rows_from lane (suc n) es)
        (rows_from lane (suc n)
        es))
        ≡ contents_of_rows (choose d (record { number = m; form = form; payload = payload } ∷ rows_from lane (suc m) es)
        (rows_from lane (suc m)
        es))
    by (yes is) rest = ap (λ (z : List Content). (form, payload) ∷ z) rest
    by (no is) rest = rest

pub contents_both : (lane n m : ℕ) (es fs : List Entry)
    → contents_of_rows (rows_from lane n (es ++ fs)) ≡ contents_of_rows (rows_from lane n es) ++ contents_of_rows (rows_from lane m fs)
contents_both lane n m [] fs = contents_from lane n m fs
contents_both lane n m (entry.Void ∷ es) fs = contents_both lane (suc n) m es fs
contents_both lane n m (entry.Stored l form payload ∷ es) fs = by (ℕ_discrete l lane) (contents_both lane (suc n) m es fs)
  where
    by : (d : Dec (l ≡ lane))
        → contents_of_rows (rows_from lane (suc n) (es ++ fs)) ≡ contents_of_rows (rows_from lane (suc n) es)
        ++ contents_of_rows (rows_from lane m fs)
        → contents_of_rows (choose d (record { number = n; form = form; payload = payload } ∷ rows_from lane (suc n) (es ++ fs))
        (rows_from lane (suc n) (es ++ fs)))
        ≡ contents_of_rows (choose d (record { number = n; form = form; payload = payload } ∷ rows_from lane (suc n) es)
        (rows_from lane (suc n)
        es))
        ++ contents_of_rows (rows_from lane m fs)
    by (yes is) rest = ap (λ (z : List Content). (form, payload) ∷ z) rest
    by (no is) rest = rest

-- where there are none
pub contents_void : (lane n : ℕ) (es : List Entry) → EachEntry IsVoid es → contents_of_rows (rows_from lane n es) ≡ []
contents_void lane n [] h = refl
contents_void lane n (entry.Void ∷ es) h = contents_void lane (suc n) es h.1
contents_void lane n (entry.Stored l form payload ∷ es) h = absurd h.0

-- where the one lane that stored any stored none, there are none
pub void_alone : (n : ℕ) (es : List Entry) → EachEntry (IsOfLanes 1) es → contents_of_rows (rows_from 1 n es) ≡ [] → EachEntry IsVoid es
void_alone n [] h none = tt
void_alone n (entry.Void ∷ es) h none = (tt, void_alone (suc n) es h.1 none)
void_alone n (entry.Stored l form payload ∷ es) h none = by (ℕ_discrete l 1) none
  where
    by : (d : Dec (l ≡ 1))
        → contents_of_rows (choose d (record { number = n; form = form; payload = payload } ∷ rows_from 1 (suc n) es)
        (rows_from 1 (suc n) es)) ≡ []
        → EachEntry IsVoid (entry.Stored l form payload ∷ es)
    by (yes is) none = absurd (let bad = none in cc)
    by (no other) none = absurd (other (let a = h.0 in omega arith))

-- ---- how many have a value

module _ (eval : Evaluation) (v : Value) where
  -- of entries, and of forms and payloads
  abbrev pub count_entries : List Entry → ℕ
  count_entries [] = 0
  count_entries (entry.Stored lane form payload ∷ es) = cond {A = ℕ} (has_value (eval form payload) v) 1 0 + count_entries es
  count_entries (entry.Void ∷ es) = count_entries es

  abbrev pub count_contents : List Content → ℕ
  count_contents [] = 0
  count_contents (c ∷ cs) = cond {A = ℕ} (has_value (eval c.0 c.1) v) 1 0 + count_contents cs

  abbrev pub count_lane : ℕ → ℕ → List Entry → ℕ
  count_lane lane n es = count_contents (contents_of_rows (rows_from lane n es))

  -- one more of a lane
  in_first : (x t a b c d : ℕ) → t ≡ a + (b + (c + d)) → x + t ≡ (x + a) + (b + (c + d))
  in_first x t a b c d h = omega (h, arith)

  in_second : (x t a b c d : ℕ) → t ≡ a + (b + (c + d)) → x + t ≡ a + ((x + b) + (c + d))
  in_second x t a b c d h = omega (h, arith)

  in_third : (x t a b c d : ℕ) → t ≡ a + (b + (c + d)) → x + t ≡ a + (b + ((x + c) + d))
  in_third x t a b c d h = omega (h, arith)

  in_fourth : (x t a b c d : ℕ) → t ≡ a + (b + (c + d)) → x + t ≡ a + (b + (c + (x + d)))
  in_fourth x t a b c d h = omega (h, arith)

  -- those of four lanes together
  pub four_lanes : (n : ℕ) (es : List Entry) → EachEntry (IsOfLanes 4) es
      → count_entries es ≡ count_lane 1 n es + (count_lane 2 n es + (count_lane 3 n es + count_lane 4 n es))
  unfolding ℕ_discrete
  four_lanes n [] h = refl
  four_lanes n (entry.Void ∷ es) h = four_lanes (suc n) es h.1
  four_lanes n (entry.Stored zero form payload ∷ es) h = absurd (let a = h.0 in omega arith)
  four_lanes n (entry.Stored (suc zero) form payload ∷ es) h =
      in_first (cond {A = ℕ} (has_value (eval form payload) v) 1 0) _ _ _ _ _ (four_lanes (suc n) es h.1)
  four_lanes n (entry.Stored (suc (suc zero)) form payload ∷ es) h =
      in_second (cond {A = ℕ} (has_value (eval form payload) v) 1 0) _ _ _ _ _ (four_lanes (suc n) es h.1)
  four_lanes n (entry.Stored (suc (suc (suc zero))) form payload ∷ es) h =
      in_third (cond {A = ℕ} (has_value (eval form payload) v) 1 0) _ _ _ _ _ (four_lanes (suc n) es h.1)
  four_lanes n (entry.Stored (suc (suc (suc (suc zero)))) form payload ∷ es) h =
      in_fourth (cond {A = ℕ} (has_value (eval form payload) v) 1 0) _ _ _ _ _ (four_lanes (suc n) es h.1)
  four_lanes n (entry.Stored (suc (suc (suc (suc (suc l))))) form payload ∷ es) h = absurd (let a = h.0 in omega arith)

  -- the rows of a selection whose range has every record
  abbrev Within : ℕ → ℕ → ℕ → List Entry → Type 0
  Within from to n [] = Unit {0}
  Within from to n (entry.Stored lane form payload ∷ es) = (from ≤ n) × (n < to) × Within from to (n + 1) es
  Within from to n (entry.Void ∷ es) = Within from to (n + 1) es

  -- an entry that is no record is no row
  void_row : (b : Bool) (rows : List Row) (count : ℕ) → length rows ≡ count
      → length (cons_option (if b then None else None) rows) ≡ count
  void_row true rows count h = h
  void_row false rows count h = h

  -- a record that has the value is one more row
  more_row : (b : Bool) (row : Row) (rows : List Row) (count : ℕ) → length rows ≡ count
      → length (cons_option (if b then Some row else None) rows) ≡ cond {A = ℕ} b 1 0 + count
  more_row true row rows count h = omega (h, arith)
  more_row false row rows count h = omega (h, arith)

  rows_many : (from to n : ℕ) (es : List Entry) → Within from to n es
      → length (filter_map (selected_row eval v from to []) (enumerate_from n (map selectable es))) ≡ count_entries es
  rows_many from to n [] h = refl
  rows_many from to n (entry.Void ∷ es) h =
      void_row _ (filter_map (selected_row eval v from to []) (enumerate_from (n + 1) (map selectable es))) (count_entries es)
      (rows_many from to (n + 1) es h)
  rows_many from to n (entry.Stored lane form payload ∷ es) h =
      let low = le-leb from n h.0 in
      let high = le-leb (suc n) to (omega (h.1, arith)) in
      let rest = rows_many from to (n + 1) es h.2 in
      rw low (rw high (more_row (has_value (eval form payload) v) (record { number = n; payload = payload })
      (filter_map (selected_row eval v from to []) (enumerate_from (n + 1) (map selectable es))) (count_entries es) rest))

  -- so many are selected
  pub selected_many : (from to : ℕ) (es : List Entry)
      → ((i lane : ℕ) (form : Form) (payload : List ℕ) → slice_get es i ≡ Some (entry.Stored lane form payload) → (from ≤ i) × (i < to))
      → length (select (map selectable es) eval v from to []) ≡ count_entries es
  unfolding select
  selected_many from to es within =
      length-reverse (filter_map (selected_row eval v from to []) (enumerate_from 0 (map selectable es)))
      ∙ rows_many from to 0 es (all_within 0 es (λ i lane form payload at. (let a = within i lane form payload at in (
        omega (a, arith),
        omega (a, arith),
      ))))
    where
      all_within : (n : ℕ) (es : List Entry)
          → ((i lane : ℕ) (form : Form) (payload : List ℕ) → slice_get es i ≡ Some (entry.Stored lane form payload)
          → (from ≤ n + i) × (n + i < to)) → Within from to n es
      all_within n [] h = tt
      all_within n (entry.Void ∷ es) h =
          all_within (n + 1) es (λ i lane form payload at. (let a = h (suc i) lane form payload at in (omega (a, arith), omega (a, arith))))
      all_within n (entry.Stored lane form payload ∷ es) h =
          let here = h 0 lane form payload refl in (
            omega (here, arith),
            omega (here, arith),
            all_within (n + 1) es (λ i lane form payload at. (let a = h (suc i) lane form payload at in (
              omega (a, arith),
              omega (
                a,
                arith,
              ),
            ))),
          )

  -- of the records at some numbers
  pub count_texts : (f : ℕ → List ℕ) (form : Form) (xs : List ℕ)
      → count_contents (all_of form (map f xs)) ≡ count_by (λ i. has_value (eval form (f i)) v) xs
  count_texts f form [] = refl
  count_texts f form (x ∷ xs) =
      let rest = count_texts f form xs in
      let more = sum_by-cons (λ i. cond {A = ℕ} (has_value (eval form (f i)) v) 1 0) x xs in
      omega arith

-- ---- the shares

module _ (p : ℕ → Bool) where
  -- those of the numbers that a lane has
  abbrev of_share : ℕ → List ℕ → ℕ
  of_share lane xs = count_by p (filter (λ i. (i % 4) + 1 == lane) xs)

  abbrev one_of : ℕ → ℕ
  one_of x = cond {A = ℕ} (p x) 1 0

  count_more : (x : ℕ) (xs : List ℕ) → count_by p (x ∷ xs) ≡ one_of x + count_by p xs
  count_more x xs = sum_by-cons one_of x xs

  -- a number is of one share alone
  share_more : (lane r x : ℕ) (xs : List ℕ) → x % 4 ≡ r → of_share lane (x ∷ xs)
      ≡ cond {A = ℕ} (r + 1 == lane) (one_of x) 0 + of_share lane xs
  share_more lane r x xs is = rw is (by (r + 1 == lane))
    where
      by : (b : Bool) → count_by p (cond b (x ∷ filter (λ i. (i % 4) + 1 == lane) xs) (filter (λ i. (i % 4) + 1 == lane) xs))
          ≡ cond {A = ℕ} b (one_of x) 0 + of_share lane xs
      by true = count_more x (filter (λ i. (i % 4) + 1 == lane) xs)
      by false = omega arith

  pub four_shares : (xs : List ℕ) → of_share 1 xs + (of_share 2 xs + (of_share 3 xs + of_share 4 xs)) ≡ count_by p xs
  four_shares [] = refl
  four_shares (x ∷ xs) = by (x % 4) refl (omega arith) (four_shares xs)
    where
      by : (r : ℕ) → x % 4 ≡ r → r < 4 → of_share 1 xs + (of_share 2 xs + (of_share 3 xs + of_share 4 xs)) ≡ count_by p xs
          → of_share 1 (x ∷ xs) + (of_share 2 (x ∷ xs) + (of_share 3 (x ∷ xs) + of_share 4 (x ∷ xs))) ≡ count_by p (x ∷ xs)
      by zero is less rest =
          let a = share_more 1 0 x xs is in let b = share_more 2 0 x xs is in let c = share_more 3 0 x xs is in
          let d = share_more 4 0 x xs is in let e = count_more x xs in omega arith
      by (suc zero) is less rest =
          let a = share_more 1 1 x xs is in let b = share_more 2 1 x xs is in let c = share_more 3 1 x xs is in
          let d = share_more 4 1 x xs is in let e = count_more x xs in omega arith
      by (suc (suc zero)) is less rest =
          let a = share_more 1 2 x xs is in let b = share_more 2 2 x xs is in let c = share_more 3 2 x xs is in
          let d = share_more 4 2 x xs is in let e = count_more x xs in omega arith
      by (suc (suc (suc zero))) is less rest =
          let a = share_more 1 3 x xs is in let b = share_more 2 3 x xs is in let c = share_more 3 3 x xs is in
          let d = share_more 4 3 x xs is in let e = count_more x xs in omega arith
      by (suc (suc (suc (suc r)))) is less rest = absurd (omega (less, arith))
