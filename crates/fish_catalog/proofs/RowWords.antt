-- The words of a row: which of them say what a version knows of it, and that they say it.
use Rattle.std.proofs.Common.{◌≡◌, ℕ, suc, ◌+◌, ◌-◌, ◌*◌, ◌/◌, ◌%◌, ◌<◌, ◌≤◌, ◌==◌, List, [], Bool, true}
use Rattle.std.proofs.Common.{false, length, get_or, map, refl, sym, ap, ◌∙◌, inl, inr, arith, append-nil}
use Rattle.std.proofs.Common.{All}
use Rattle.std.specs.List.{range_with_len}
use Rattle.std.proofs.Math.Decide.{dec_lt}
use Rattle.std.proofs.Math.ListN.{get_or-eq_default}
use Rattle.std.proofs.lemmas.Bool.{cases_lt}
use Rattle.std.proofs.lemmas.List.{ext_get_or}
use Rattle.std.proofs.lemmas.List.FromFn.{get_or-map-range_with_len, length-map-range_with_len, take-map-range_with_len}
use Rattle.fish_layout.specs.Bytes.{bytes_in, word_at, words_for, words_of_bytes}
use Rattle.fish_layout.proofs.Bytes.{bytes_back, bytes_enough}
use Rattle.fish_layout.specs.Cleared.{choose}
use Rattle.fish_catalog.specs.Listing.{listed_in, listed_of}
use Rattle.fish_catalog.specs.Rows.{is_active}
use Rattle.fish_catalog.specs.Words.{IsWritable, bit_of, name_in, name_size, row_word, text_in, text_size, was_active}
use Rattle.fish_catalog.specs.declared.row.CatRow.{CatRow}

-- ---- equal words say the same

-- runs of numbers with the same images
ranges_same : (f g : ℕ → ℕ) (a b n : ℕ) → ((i : ℕ) → i < n → f (a + i) ≡ g (b + i)) →
    map f (range_with_len a n) ≡ map g (range_with_len b n)
ranges_same f g a b n h =
    let size = length-map-range_with_len f a n in
    ext_get_or 0 (map f (range_with_len a n)) (map g (range_with_len b n))
    (omega (arith, size, length-map-range_with_len g b n))
    (λ i within. let few : i < n = omega (arith, size) in
    get_or-map-range_with_len f a n i (a + i) 0 few refl ∙ h i few
    ∙ sym (get_or-map-range_with_len g b n i (b + i) 0 few refl))

-- words that are equal from the third on spell the same name
name_same : (f g : ℕ → ℕ) → ((i : ℕ) → 2 ≤ i → i < 39 → f i ≡ g i) → name_in f ≡ name_in g
unfolding name_in
name_same f g h =
    ap (λ ws. bytes_in ws (name_size (f 2)))
    (ranges_same f g 3 3 4 (λ i few. h (3 + i) (omega arith) (omega arith)))
    ∙ ap (λ w. bytes_in (map g (range_with_len 3 4)) (name_size w)) (h 2 (omega arith) (omega arith))

-- and the same text
text_same : (f g : ℕ → ℕ) → ((i : ℕ) → 2 ≤ i → i < 39 → f i ≡ g i) → text_in f ≡ text_in g
unfolding text_in
text_same f g h =
    ap (λ ws. bytes_in ws (text_size (f 2)))
    (ranges_same f g 7 7 32 (λ i few. h (7 + i) (omega arith) (omega arith)))
    ∙ ap (λ w. bytes_in (map g (range_with_len 7 32)) (text_size w)) (h 2 (omega arith) (omega arith))

-- a definition is read from the words after the two boundaries alone
pub listed_same : (f g : ℕ → ℕ) (id : ℕ) (active : Bool) → ((i : ℕ) → 2 ≤ i → i < 39 → f i ≡ g i) →
    listed_in f id active ≡ listed_in g id active
listed_same f g id active h =
    ap (λ (n : List ℕ). record { id = id; name = n; def = text_in f; active = active }) (name_same f g h)
    ∙ ap (λ (t : List ℕ). record { id = id; name = name_in g; def = t; active = active }) (text_same f g h)

-- ---- the words of a row say what it is

-- what holds of each byte holds of the 0 past the end
small_at : (b : List ℕ) → All (λ x. x < 256) b → (i : ℕ) → get_or b i 0 < 256
small_at b small i =
    elim (cases_lt i (length b)) [
      | inl within ↦ small i 0 within
      | inr past ↦ omega (arith, get_or-eq_default b 0 {n = i} past)
    ]

-- bytes come back from as many words as have room for them
bytes_from : (b : List ℕ) (n : ℕ) → length b ≤ 8 * n → All (λ x. x < 256) b →
    bytes_in (map (word_at b) (range_with_len 0 n)) (length b) ≡ b
unfolding words_of_bytes
bytes_from b n room small =
    let words : List ℕ = map (word_at b) (range_with_len 0 n) in
    let few : words_for (length b) ≤ n = omega arith in
    sym (bytes_enough words (length b) (omega (arith, length-map-range_with_len (word_at b) 0 n)))
    ∙ ap (λ ws. bytes_in ws (length b)) (take-map-range_with_len (word_at b) 0 n (words_for (length b)) few)
    ∙ ap (λ ws. bytes_in ws (length b)) (sym (append-nil (words_of_bytes b)))
    ∙ bytes_back b [] (small_at b small)

-- a claim that holds chooses the first
chosen_first : {P : Type 0} {X : Type 0} (d : Dec P) (x y : X) → P → choose d x y ≡ x
chosen_first (yes p) x y holds = refl
chosen_first (no n) x y holds = absurd (n holds)

-- and one that fails the second
chosen_second : {P : Type 0} {X : Type 0} (d : Dec P) (x y : X) → ¬ P → choose d x y ≡ y
chosen_second (yes p) x y fails = absurd (fails p)
chosen_second (no n) x y fails = refl

-- a word of the name
pub word_of_name : (row : CatRow) (k : ℕ) → 3 ≤ k → k < 7 → row_word row k ≡ word_at row.name (k - 3)
unfolding row_word
word_of_name row k low few =
    let i : ℕ = k - 3 in
    let position : k ≡ suc (suc (suc i)) = omega arith in
    ap (row_word row) position ∙ chosen_first (dec_lt i 4) (word_at row.name i) (word_at row.def (i - 4)) (omega arith)

-- a word of the text
pub word_of_text : (row : CatRow) (k : ℕ) → 7 ≤ k → row_word row k ≡ word_at row.def (k - 7)
unfolding row_word
word_of_text row k low =
    let i : ℕ = k - 3 in
    let position : k ≡ suc (suc (suc i)) = omega arith in
    let same : i - 4 ≡ k - 7 = omega arith in
    ap (row_word row) position
    ∙ chosen_second (dec_lt i 4) (word_at row.name i) (word_at row.def (i - 4)) (λ less. omega arith)
    ∙ ap (word_at row.def) same

-- a bit says its yes
bit_back : (b : Bool) → (bit_of b == 1) ≡ b
bit_back true = refl
bit_back false = refl

-- a bit is 0 or 1
bit_small : (b : Bool) → bit_of b < 2
bit_small true = omega arith
bit_small false = omega arith

-- the third word has the length of the name
size_of_name : (row : CatRow) → IsWritable row → name_size (row_word row 2) ≡ length row.name
unfolding row_word
size_of_name row h = omega (arith, h.short_name, bit_small (is_active row))

-- and of the text
size_of_text : (row : CatRow) → IsWritable row → text_size (row_word row 2) ≡ length row.def
unfolding row_word
size_of_text row h = omega (arith, h.short_name, h.short_text, bit_small (is_active row))

-- and whether the row is active
pub active_back : (row : CatRow) → IsWritable row → was_active (row_word row 2) ≡ is_active row
unfolding row_word
active_back row h =
    let bit : row_word row 2 / 65536 % 2 ≡ bit_of (is_active row) =
    omega (arith, h.short_name, h.short_text, bit_small (is_active row)) in
    ap (λ n. n == 1) bit ∙ bit_back (is_active row)

-- counted from a position on, or from 0
at_0 : (f : ℕ → ℕ) (a i : ℕ) → f (a + i - a) ≡ f (0 + i)
at_0 f a i = let same : a + i - a ≡ 0 + i = omega arith in ap f same

-- the name comes back from a row's words
pub name_back : (row : CatRow) → IsWritable row → name_in (row_word row) ≡ row.name
unfolding name_in
name_back row h =
    ap (bytes_in (map (row_word row) (range_with_len 3 4))) (size_of_name row h)
    ∙ ap (λ ws. bytes_in ws (length row.name))
    (ranges_same (row_word row) (word_at row.name) 3 0 4
    (λ i few. word_of_name row (3 + i) (omega arith) (omega arith) ∙ at_0 (word_at row.name) 3 i))
    ∙ bytes_from row.name 4 h.short_name h.name

-- and so does the text
pub text_back : (row : CatRow) → IsWritable row → text_in (row_word row) ≡ row.def
unfolding text_in
text_back row h =
    ap (bytes_in (map (row_word row) (range_with_len 7 32))) (size_of_text row h)
    ∙ ap (λ ws. bytes_in ws (length row.def))
    (ranges_same (row_word row) (word_at row.def) 7 0 32
    (λ i few. word_of_text row (7 + i) (omega arith) ∙ at_0 (word_at row.def) 7 i))
    ∙ bytes_from row.def 32 (omega (arith, h.short_text)) h.text

-- the definition of a row comes back from its words
pub listed_back : (row : CatRow) → IsWritable row →
    listed_in (row_word row) row.id (was_active (row_word row 2)) ≡ listed_of row
listed_back row h =
    ap (λ (n : List ℕ). record {
      id = row.id;
      name = n;
      def = text_in (row_word row);
      active = was_active (row_word row 2);
    }) (name_back row h)
    ∙ ap (λ (t : List ℕ). record {
      id = row.id;
      name = row.name;
      def = t;
      active = was_active (row_word row 2);
    }) (text_back row h)
    ∙ ap (λ (a : Bool). record { id = row.id; name = row.name; def = row.def; active = a }) (active_back row h)
