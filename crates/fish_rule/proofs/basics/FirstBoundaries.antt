-- The boundaries that rows have as a log begins: those of the start, at most the number at which it begins.
use Rattle.std.proofs.Common.{◌≡◌, ◌≢◌, ℕ, ◌+◌, ◌<◌, ◌≤◌, zero, suc, List, [], ◌∷◌, length, map, sym, refl, ap, ◌∙◌}
use Rattle.std.proofs.Common.{subst, inl, inr, arith, Some, None, Option, All, slice_get, true}
use Rattle.std.proofs.Math.Decide.{ℕ_discrete, dec_lt}
use Rattle.std.proofs.lemmas.List.{length-map}
use Rattle.std.proofs.lemmas.Option.{get_or_from_slice_get, same_Some, slice_get_within}
use Rattle.fish_catalog.proofs.Clamping.{mapped_from}
use Rattle.fish_catalog.specs.Clamps.{IsClamped}
use Rattle.fish_catalog.specs.Listing.{listed_of}
use Rattle.fish_catalog.specs.Rows.{IsSpanInOrder, IsRow, is_active}
use Rattle.fish_catalog.specs.Words.{bound_word, row_word}
use Rattle.fish_catalog.specs.declared.listed.Listed.{Listed}
use Rattle.fish_catalog.specs.declared.row.CatRow.{CatRow}
use Rattle.fish_layout.proofs.Clearing.{choose_first, choose_second}
use Rattle.fish_rule.proofs.basics.Lists.{there_is}
use Rattle.fish_rule.proofs.basics.RegistryWords.{definitions_first}
use Rattle.fish_rule.specs.Boundaries.{Boundaries, IsFirstBoundary, IsOpenIn}
use Rattle.fish_rule.specs.Epochs.{IsOwned, IsUnmade}
use Rattle.fish_rule.specs.BoundarySteps.{with_boundary}
use Rattle.fish_rule.specs.Registry.{HasBoundary, IsRegistered, definitions_at, control_word, row_at, version_in}
use Rattle.fish_rule.specs.Start.{IsOpening}
use Rattle.fish_rule.specs.Table.{boundaries_of, set_boundaries_of}
use Rattle.fish_rule.specs.Views.{AllOf, Among}
use Rattle.fish_rule.specs.declared.view.Epoch.TheVariants.{Out}
use Rattle.fish_rule.specs.declared.view.Key.{Key}
use Rattle.fish_rule.specs.declared.view.RegistryWord.{RegistryWord}

-- ---- rows

-- what holds of each row holds of one
row_has : (P : CatRow → Type 0) (rows : List CatRow) → All P rows → (id : ℕ) (row : CatRow)
    → slice_get rows id ≡ Some row → P row
row_has P rows h id row there = subst P (get_or_from_slice_get rows id row row there)
    (h id row (slice_get_within rows id row there))

-- a word of a boundary that is 0 is none
none_word : (row : CatRow) → row_word row 1 ≡ 0 → is_active row ≡ true
unfolding row_word
none_word row e = by row.to e
  where
    by : (to : Option ℕ) → bound_word to ≡ 0 → Rattle.std.specs.Prelude.is_none to ≡ true
    by None e = refl
    by (Some n) e = absurd (omega arith)

-- a beginning has its word
pub from_word : (row : CatRow) (n : ℕ) → row.from ≡ Some n → row_word row 0 ≡ suc n
unfolding row_word
from_word row n is = ap bound_word is

-- an end has its word
pub to_word : (row : CatRow) (n : ℕ) → row.to ≡ Some n → row_word row 1 ≡ suc n
unfolding row_word
to_word row n is = ap bound_word is

-- the word of a beginning that is set has that beginning
pub word_from : (row : CatRow) (n : ℕ) → row_word row 0 ≡ suc n → row.from ≡ Some n
unfolding row_word
word_from row n e = by row.from e
  where
    by : (from : Option ℕ) → bound_word from ≡ suc n → from ≡ Some n
    by None e = absurd (omega arith)
    by (Some m) e = ap (λ (z : ℕ). Some z) (omega arith)

-- and the word of an end that is set has that end
pub word_to : (row : CatRow) (n : ℕ) → row_word row 1 ≡ suc n → row.to ≡ Some n
unfolding row_word
word_to row n e = by row.to e
  where
    by : (to : Option ℕ) → bound_word to ≡ suc n → to ≡ Some n
    by None e = absurd (omega arith)
    by (Some m) e = ap (λ (z : ℕ). Some z) (omega arith)

-- a row in order ends where it began or after it
word_order : (row : CatRow) (from to : ℕ) → IsSpanInOrder row.from row.to → row_word row 0 ≡ suc from → row_word row 1 ≡ suc to
    → from ≤ to
word_order row from to order begins ends =
    let begin = word_from row from begins in
    let end = word_to row to ends in
    subst (λ (z : Option ℕ × Option ℕ). IsSpanInOrder z.0 z.1) (λ i. (begin i, end i)) order

-- no boundary of a clamped row is past the number
clamped_word : (number : ℕ) (row : CatRow) (i n : ℕ) → IsClamped number row → i < 2 → row_word row i ≡ suc n → n ≤ number
unfolding row_word
clamped_word number row zero n h bound e =
    let begins : bound_word row.from ≡ suc h.from = ap bound_word h.begins in
    let early = h.early in
    omega arith
clamped_word number row (suc zero) n h bound e = by row.to h.ends e
  where
    by : (to : Option ℕ) → ((t : ℕ) → to ≡ Some t → t ≤ number) → bound_word to ≡ suc n → n ≤ number
    by None ends e = absurd (omega arith)
    by (Some t) ends e = (let most = ends t refl in omega arith)
clamped_word number row (suc (suc i)) n h bound e = absurd (omega arith)

-- ---- the words that the control pass knows at the start

-- no word is stored at an index that is no boundary of the rows
drafted_else : (p n : ℕ) (rows : List CatRow)
    → ((id i : ℕ) → n ≤ id → id < n + length rows → i < 2 → p ≢ row_at id i)
    → control_word (boundaries_of n rows) p ≡ 0
drafted_else p n [] away = refl
drafted_else p n (row ∷ rows) away =
    choose_second (ℕ_discrete p (row_at n 0)) (row_word row 0) _ (away n 0 (omega arith) (omega arith) (omega arith))
    ∙ choose_second (ℕ_discrete p (row_at n 1)) (row_word row 1) _ (away n 1 (omega arith) (omega arith) (omega arith))
    ∙ drafted_else p (suc n) rows (λ id i above below bound. away id i (omega arith) (omega arith) bound)

-- each boundary is the row's
pub drafted_here : (n id i : ℕ) (rows : List CatRow) (row : CatRow) → slice_get rows id ≡ Some row → i < 2
    → control_word (boundaries_of n rows) (row_at (n + id) i) ≡ row_word row i
drafted_here n id i [] row there bound = absurd cc
drafted_here n zero zero (x ∷ rows) row there bound =
    choose_first (ℕ_discrete (row_at (n + 0) 0) (row_at n 0)) (row_word x 0) _ (omega arith)
    ∙ ap (λ (z : CatRow). row_word z 0) (same_Some x row there)
drafted_here n zero (suc zero) (x ∷ rows) row there bound =
    choose_second (ℕ_discrete (row_at (n + 0) 1) (row_at n 0)) (row_word x 0) _ (λ e. omega arith)
    ∙ choose_first (ℕ_discrete (row_at (n + 0) 1) (row_at n 1)) (row_word x 1) _ (omega arith)
    ∙ ap (λ (z : CatRow). row_word z 1) (same_Some x row there)
drafted_here n zero (suc (suc i)) (x ∷ rows) row there bound = absurd (omega arith)
drafted_here n (suc id) i (x ∷ rows) row there bound =
    choose_second (ℕ_discrete (row_at (n + suc id) i) (row_at n 0)) (row_word x 0) _ (λ e. omega arith)
    ∙ choose_second (ℕ_discrete (row_at (n + suc id) i) (row_at n 1)) (row_word x 1) _ (λ e. omega arith)
    ∙ (let e : n + suc id ≡ suc n + id = omega arith in
    ap (λ (z : ℕ). control_word (boundaries_of (suc n) rows) (row_at z i)) e)
    ∙ drafted_here (suc n) id i rows row there bound

-- ---- the words that it has read at the start

-- a word that is set is put before others, which stay
with_here : (p m x : ℕ) (words : List RegistryWord) → x ≡ suc m
    → Among (record { index = p; value = suc m }) (with_boundary p x words)
with_here p m zero words e = absurd (omega arith)
with_here p m (suc n) words e = inl (ap (λ (z : ℕ). let w : RegistryWord = record { index = p; value = z } in w) e)

with_more : (p x : ℕ) (words : List RegistryWord) (y : RegistryWord) → Among y words → Among y (with_boundary p x words)
with_more p zero words y h = h
with_more p (suc n) words y h = inr h

-- each boundary of a row that is set was read
pub set_here : (n id i m : ℕ) (rows : List CatRow) (row : CatRow) → slice_get rows id ≡ Some row → i < 2
    → row_word row i ≡ suc m → Among (record { index = row_at (n + id) i; value = suc m }) (set_boundaries_of n rows)
set_here n id i m [] row there bound is = absurd cc
set_here n zero zero m (x ∷ rows) row there bound is =
    let place : n + 0 ≡ n = omega arith in
    subst (λ (z : ℕ). Among (record { index = row_at z 0; value = suc m }) (set_boundaries_of n (x ∷ rows))) (sym place)
    (with_here (row_at n 0) m (row_word x 0) _ (ap (λ (z : CatRow). row_word z 0) (same_Some x row there) ∙ is))
set_here n zero (suc zero) m (x ∷ rows) row there bound is =
    let place : n + 0 ≡ n = omega arith in
    subst (λ (z : ℕ). Among (record { index = row_at z 1; value = suc m }) (set_boundaries_of n (x ∷ rows))) (sym place)
    (with_more (row_at n 0) (row_word x 0) _ _
    (with_here (row_at n 1) m (row_word x 1) _ (ap (λ (z : CatRow). row_word z 1) (same_Some x row there) ∙ is)))
set_here n zero (suc (suc i)) m (x ∷ rows) row there bound is = absurd (omega arith)
set_here n (suc id) i m (x ∷ rows) row there bound is =
    let place : suc n + id ≡ n + suc id = omega arith in
    subst (λ (z : ℕ). Among (record { index = row_at z i; value = suc m }) (set_boundaries_of n (x ∷ rows))) place
    (with_more (row_at n 0) (row_word x 0) _ _ (with_more (row_at n 1) (row_word x 1) _ _
    (set_here (suc n) id i m rows row there bound is)))

module _ (k : Key) (g : ℕ → ℕ) (opening_ : IsOpening k.version k.number k.rows.value g) where
  -- the definitions are those of the start
  pub began : definitions_at k g (version_in g) ≡ map listed_of k.rows.value
  began = definitions_first k g (version_in g) (let z = opening_.version in omega arith)

  -- no word of an operation or a row that is still to come is set
  unmade_zero : (p : ℕ) → IsUnmade k g p → g p ≡ 0
  unmade_zero p (inl h) = (let z = opening_.version in let a = h.1 in
      ap g h.3 ∙ opening_.operations h.0 (omega arith) h.2)
  unmade_zero p (inr h) =
      let all : length (definitions_at k g (version_in g)) ≡ length k.rows.value =
      ap (λ (z : List Listed). length z) began ∙ length-map k.rows.value listed_of in
      let a = h.2 in
      ap g h.5 ∙ opening_.rest h.0 h.1 (omega arith) h.3 h.4

  -- as many definitions as rows
  as_many : length (definitions_at k g (version_in g)) ≡ length k.rows.value
  as_many = ap (λ (z : List Listed). length z) began ∙ length-map k.rows.value listed_of

  -- a row of the start
  row_of : (id : ℕ) → id < length k.rows.value → (row : CatRow) × (slice_get k.rows.value id ≡ Some row)
  row_of id less = there_is k.rows.value id less

  -- its index has begun, at or before the number at which the log begins
  clamped_of : (id : ℕ) (row : CatRow) → slice_get k.rows.value id ≡ Some row → IsClamped k.number row
  clamped_of id row there = row_has (IsClamped k.number) k.rows.value opening_.clamped id row there

  -- its boundaries stand in the words
  bound_is : (id i : ℕ) (row : CatRow) → slice_get k.rows.value id ≡ Some row → i < 2 → g (row_at id i) ≡ row_word row i
  bound_is id i row there bound = (opening_.words id row there).1 i (omega arith)

  -- the words of those that are set last
  with_read : (id i x : ℕ) (words : List RegistryWord) → id < 256 → i < 2 → g (row_at id i) ≡ x
      → AllOf (IsRegistered k g) words → AllOf (IsRegistered k g) (with_boundary (row_at id i) x words)
  with_read id i zero words few bound is h = h
  with_read id i (suc m) words few bound is h = (
    record { lasts = inr (inr (inr ((id, i, few, bound, refl), λ e. absurd (omega arith)))); word = is },
    h,
  )

  read_from : (n : ℕ) (rows : List CatRow)
      → ((id : ℕ) (row : CatRow) → slice_get rows id ≡ Some row → slice_get k.rows.value (n + id) ≡ Some row)
      → AllOf (IsRegistered k g) (set_boundaries_of n rows)
  read_from n [] at = tt
  read_from n (row ∷ rows) at =
      let place : n + 0 ≡ n = omega arith in
      let here : slice_get k.rows.value n ≡ Some row =
      subst (λ (z : ℕ). slice_get k.rows.value z ≡ Some row) place (at 0 row refl) in
      let within = slice_get_within k.rows.value n row here in
      let few = opening_.catalog.few in
      with_read n 0 _ _ (omega arith) (omega arith) (bound_is n 0 row here (omega arith))
      (with_read n 1 _ _ (omega arith) (omega arith) (bound_is n 1 row here (omega arith))
      (read_from (suc n) rows (λ id r there. let next : n + suc id ≡ suc n + id = omega arith in
      subst (λ (z : ℕ). slice_get k.rows.value z ≡ Some r) next (at (suc id) r there))))

  -- so those that the pass has read are right
  pub read_first : AllOf (IsRegistered k g) (set_boundaries_of 0 k.rows.value)
  read_first = read_from 0 k.rows.value (λ id row there. let same : id ≡ 0 + id = omega arith in
      subst (λ (z : ℕ). slice_get k.rows.value z ≡ Some row) same there)

  -- none is past the number, each index has begun, and no pass is entered
  pub first_boundaries : Boundaries k k.number g (λ _. Out) (λ _. k.version)
  first_boundaries = record {
    unmade = λ id i more few bound. (let e = as_many in opening_.rest id i (omega arith) few (omega arith));
    in_order = λ id few unset. ordered id few unset (dec_lt id (length k.rows.value));
    after = λ id from to few begins ends. ends_after id from to few begins ends (dec_lt id (length k.rows.value));
    claimed = λ id i n few bound is. most id i n few bound is (dec_lt id (length k.rows.value));
    opened = λ id row few there. record {
      clamped = clamped_of id row there;
      stays = λ i n bound e. bound_is id i row there bound ∙ e;
    };
    early = λ id i n few bound is less. has_it id i n few bound is (dec_lt id (length k.rows.value));
    entered = λ id n l few is above below. tt;
    begun = λ id from n few is above after below. absurd (omega arith);
    unended = λ id to n few is above before below. absurd (omega arith);
    running = λ id v few unset reached. still_open id v few unset reached;
  }
    where
      ordered : (id : ℕ) → id < 256 → g (row_at id 0) ≡ 0 → Dec (id < length k.rows.value) → g (row_at id 1) ≡ 0
      ordered id few unset (no h) = opening_.rest id 1 (omega arith) few (omega arith)
      ordered id few unset (yes h) =
          let row = row_of id h in
          let clamped = clamped_of id row.0 row.1 in
          let word = sym (bound_is id 0 row.0 row.1 (omega arith)) ∙ unset in
          let some_ : row_word row.0 0 ≡ suc clamped.from = from_word row.0 clamped.from clamped.begins in
          absurd (omega arith)

      most : (id i n : ℕ) → id < 256 → i < 2 → HasBoundary g id i n → Dec (id < length k.rows.value) → n ≤ k.number
      most id i n few bound is (no h) = (let z = opening_.rest id i (omega arith) few (omega arith) in absurd (omega arith))
      most id i n few bound is (yes h) =
          let row = row_of id h in
          let clamped = clamped_of id row.0 row.1 in
          clamped_word k.number row.0 i n clamped bound (sym (bound_is id i row.0 row.1 bound) ∙ is)

      ends_after : (id from to : ℕ) → id < 256 → HasBoundary g id 0 from → HasBoundary g id 1 to
          → Dec (id < length k.rows.value) → from ≤ to
      ends_after id from to few begins ends (no h) =
          (let z = opening_.rest id 0 (omega arith) few (omega arith) in absurd (omega arith))
      ends_after id from to few begins ends (yes h) =
          let row = row_of id h in
          let proper = row_has IsRow k.rows.value opening_.catalog.each id row.0 row.1 in
          word_order row.0 from to proper.order (sym (bound_is id 0 row.0 row.1 (omega arith)) ∙ begins)
          (sym (bound_is id 1 row.0 row.1 (omega arith)) ∙ ends)

      has_it : (id i n : ℕ) → id < 256 → i < 2 → HasBoundary g id i n → Dec (id < length k.rows.value)
          → IsFirstBoundary k id i n
      has_it id i n few bound is (no h) = (let z = opening_.rest id i (omega arith) few (omega arith) in absurd (omega arith))
      has_it id i n few bound is (yes h) =
          let row = row_of id h in
          (row.0, row.1, sym (bound_is id i row.0 row.1 bound) ∙ is)

      still_open : (id v : ℕ) → id < 256 → g (row_at id 1) ≡ 0 → v ≤ version_in g → IsOpenIn (definitions_at k g v) id
      still_open id v few unset reached =
          let z = opening_.version in
          subst (λ (x : List Listed). IsOpenIn x id) (sym (definitions_first k g v (omega arith)))
          (λ l there. let row = mapped_from listed_of k.rows.value id l there in
          ap (λ (x : Listed). x.active) (sym row.2)
          ∙ none_word row.0 (sym (bound_is id 1 row.0 row.1 (omega arith)) ∙ unset))

  -- the control pass knows the boundaries
  pub owned_first : (p : ℕ) → IsOwned k g p → g p ≡ control_word (boundaries_of 0 k.rows.value) p
  owned_first p (inl h) = unmade_zero p h ∙ sym (drafted_else p 0 k.rows.value (λ id i above below bound e. away p h id i
      (omega arith) bound e))
    where
      away : (p : ℕ) → IsUnmade k g p → (id i : ℕ) → id < length k.rows.value → i < 2 → p ≢ row_at id i
      away p (inl m) id i less bound e = (let a = m.2 in let b = m.3 in omega arith)
      away p (inr m) id i less bound e = (let a = m.2 in let b = m.5 in let c = as_many in let d = m.4 in omega arith)
  owned_first p (inr h) = pick h.0 h.1 h.2 h.3 h.4 (dec_lt h.0 (length k.rows.value))
    where
      pick : (id i : ℕ) → id < 256 → i < 2 → p ≡ row_at id i → Dec (id < length k.rows.value)
          → g p ≡ control_word (boundaries_of 0 k.rows.value) p
      pick id i few bound is (yes h) =
          let row = row_of id h in
          let place : row_at (0 + id) i ≡ p = omega arith in
          ap g is ∙ bound_is id i row.0 row.1 bound ∙ sym (drafted_here 0 id i k.rows.value row.0 row.1 bound)
          ∙ ap (control_word (boundaries_of 0 k.rows.value)) place
      pick id i few bound is (no h) = ap g is ∙ opening_.rest id i (omega arith) few (omega arith)
          ∙ sym (drafted_else p 0 k.rows.value (λ n j above below small e. omega arith))
