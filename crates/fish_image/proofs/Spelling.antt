-- What the bytes of a slot's body say: words, rows, and all of it.
use Rattle.std.proofs.Common.{◌≡◌, ℕ, zero, suc, ◌+◌, ◌-◌, ◌*◌, ◌<◌, ◌≤◌, ◌^◌, List, [], ◌∷◌, ◌++◌, Option, Some, None, All}
use Rattle.std.proofs.Common.{length, take, drop, get_or, refl, sym, ap, subst, ◌∙◌, arith, append_assoc}
use Rattle.std.proofs.Common.{length-append, length-drop, slice_get}
use Rattle.std.specs.List.{flat_map}
use Rattle.std.specs.Prelude.{IsSome}
use Rattle.std.proofs.Common.{drop-drop}
use Rattle.std.proofs.lemmas.List.{get_or-drop, length-replicate, take_all, take_at}
use Rattle.std.proofs.lemmas.Option.{get_or_from_slice_get, slice_get_within}
use Rattle.fish_catalog.specs.Rows.{IsRow}
use Rattle.std.proofs.Math.Seq.{drop-append-add, drop-append_seam}
use Rattle.byteorder.specs.Numbers.{length-bytes_low_first, little_number-reads_back}
use Rattle.fish_catalog.proofs.RowReads.{canonical_short}
use Rattle.fish_catalog.specs.declared.commit.Commit.{Commit}
use Rattle.fish_catalog.specs.declared.row.CatRow.{CatRow}
use Rattle.fish_image.specs.Commits.{HasBoundaries, HasTexts, IsBoundary}
use Rattle.fish_image.specs.Reading.{IsBodyOf}
use Rattle.fish_image.specs.within.Reading.{AreRowsOf, IsRowOf, IsSpellable}
use Rattle.fish_image.specs.Slot.{boundary_word, boundary_words, bytes_behind, head_words, number, padded, row_bytes}
use Rattle.fish_image.specs.Slot.{slot_bytes, word, zeros}

-- ---- words

-- a word has eight bytes
pub length-word : (n : ℕ) → length (word n) ≡ 8
unfolding word
length-word n = length-bytes_low_first 0 8 n

-- and reads back
pub number-word : (n : ℕ) (rest : List ℕ) → n < 2 ^ 64 → number (word n ++ rest) ≡ n
unfolding word number
number-word n rest small = little_number-reads_back 8 n rest small

-- so many zero bytes
pub length-zeros : (n : ℕ) → length (zeros n) ≡ n
unfolding zeros
length-zeros n = length-replicate n 0

-- after the first bytes stands what follows
pub behind : (xs ys : List ℕ) (n : ℕ) → length xs ≡ n → drop n (xs ++ ys) ≡ ys
behind xs ys n size = ap (λ (m : ℕ). drop m (xs ++ ys)) (sym size) ∙ drop-append_seam xs ys

-- and further after
pub further : (xs ys : List ℕ) (n m : ℕ) → length xs ≡ n → drop (n + m) (xs ++ ys) ≡ drop m ys
further xs ys n m size = ap (λ (k : ℕ). drop (k + m) (xs ++ ys)) (sym size) ∙ drop-append-add xs ys m

-- words have eight bytes each
pub length-words : (ns : List ℕ) → length (flat_map word ns) ≡ 8 * length ns
length-words [] = refl
length-words (n ∷ ns) =
    let size = length-append (word n) (flat_map word ns) in
    let one = length-word n in
    let rest = length-words ns in
    omega arith

-- the word at a position
pub words_at : (ns : List ℕ) (k : ℕ) (rest : List ℕ) → k < length ns → All (λ n. n < 2 ^ 64) ns →
    number (drop (8 * k) (flat_map word ns ++ rest)) ≡ get_or ns k 0
words_at [] k rest less small = absurd (omega arith)
words_at (n ∷ ns) zero rest less small =
    ap number (append_assoc (word n) (flat_map word ns) rest)
    ∙ number-word n (flat_map word ns ++ rest) (small 0 0 (omega arith))
words_at (n ∷ ns) (suc k) rest less small =
    let at : 8 * suc k ≡ 8 + 8 * k = omega arith in
    ap (λ (m : ℕ). number (drop m ((word n ++ flat_map word ns) ++ rest))) at
    ∙ ap (λ (l : List ℕ). number (drop (8 + 8 * k) l)) (append_assoc (word n) (flat_map word ns) rest)
    ∙ ap number (further (word n) (flat_map word ns ++ rest) 8 (8 * k) (length-word n))
    ∙ words_at ns k rest (omega arith) (λ i d within. small (suc i) d (omega arith))

-- ---- rows

-- a boundary fits a word
pub boundary_fits : (o : Option ℕ) → IsBoundary o → boundary_word o < 2 ^ 64
boundary_fits None h = omega arith
boundary_fits (Some n) h = omega arith

-- padded bytes are so many
pub length-padded : (n : ℕ) (b : List ℕ) → length b ≤ n → length (padded n b) ≡ n
length-padded n b few =
    let size = length-append b (zeros (n - length b)) in
    let rest = length-zeros (n - length b) in
    omega arith

-- what follows the boundaries of a row
abbrev pub behind_boundaries : CatRow → List ℕ
behind_boundaries row = length row.name ∷ length row.def ∷ (padded 46 row.name ++ padded 256 row.def)

-- a row in two parts
pub row_parts : (row : CatRow) → row_bytes row ≡ flat_map word (boundary_words row) ++ behind_boundaries row
unfolding row_bytes
row_parts row = refl

-- the boundaries take 16 bytes
pub length-boundaries : (row : CatRow) → length (flat_map word (boundary_words row)) ≡ 16
length-boundaries row = length-words (boundary_words row)

-- a row has 320 bytes
pub length-row : (row : CatRow) → IsSpellable row → length (row_bytes row) ≡ 320
length-row row h =
    let all = ap length (row_parts row) ∙ length-append (flat_map word (boundary_words row)) (behind_boundaries row) in
    let first = length-boundaries row in
    let rest = length-append (padded 46 row.name) (padded 256 row.def) in
    let name = length-padded 46 row.name (omega (arith, h.short_name)) in
    let text = length-padded 256 row.def (omega (arith, h.short_text)) in
    omega arith

-- ---- the whole

-- a slot's body in two parts
pub slot_parts : (c : Commit) →
    slot_bytes c ≡ flat_map word (head_words c) ++ (flat_map row_bytes c.rows ++ zeros (bytes_behind (length c.rows)))
unfolding slot_bytes
slot_parts c = refl

module _ (row : CatRow) (b : List ℕ) (is : b ≡ row_bytes row) (h : IsSpellable row) where
  -- the bytes in two parts
  in_parts : b ≡ flat_map word (boundary_words row) ++ behind_boundaries row
  in_parts = is ∙ row_parts row

  -- both boundaries fit a word
  both_fit : All (λ n. n < 2 ^ 64) (boundary_words row)
  both_fit zero d less = boundary_fits row.from h.boundaries.0
  both_fit (suc zero) d less = boundary_fits row.to h.boundaries.1
  both_fit (suc (suc k)) d less = absurd (omega arith)

  -- the words of the boundaries
  pub row_word : (k : ℕ) → k < 2 → number (drop (8 * k) b) ≡ get_or (boundary_words row) k 0
  row_word k less =
      ap (λ (l : List ℕ). number (drop (8 * k) l)) in_parts
      ∙ words_at (boundary_words row) k (behind_boundaries row) less both_fit

  -- what follows them
  row_behind : drop 16 b ≡ behind_boundaries row
  row_behind =
      ap (λ (l : List ℕ). drop 16 l) in_parts
      ∙ behind (flat_map word (boundary_words row)) (behind_boundaries row) 16 (length-boundaries row)

  -- the lengths of the name and of the text
  pub name_length : get_or b 16 0 ≡ length row.name
  name_length = sym (get_or-drop 16 b 0 0) ∙ ap (λ (l : List ℕ). get_or l 0 0) row_behind

  pub text_length : get_or b 17 0 ≡ length row.def
  text_length = sym (get_or-drop 16 b 1 0) ∙ ap (λ (l : List ℕ). get_or l 1 0) row_behind

  -- the name, and what follows
  name_behind : drop 18 b ≡ padded 46 row.name ++ padded 256 row.def
  name_behind = sym (drop-drop 2 16 b) ∙ ap (λ (l : List ℕ). drop 2 l) row_behind

  pub name_read : take (length row.name) (drop 18 b) ≡ row.name
  name_read =
      ap (λ (l : List ℕ). take (length row.name) l)
      (name_behind ∙ append_assoc row.name (zeros (46 - length row.name)) (padded 256 row.def))
      ∙ take_at row.name (zeros (46 - length row.name) ++ padded 256 row.def) (length row.name) refl

  pub text_read : take (length row.def) (drop 64 b) ≡ row.def
  text_read =
      ap (λ (l : List ℕ). take (length row.def) l)
      (sym (drop-drop 46 18 b) ∙ ap (λ (l : List ℕ). drop 46 l) name_behind
      ∙ behind (padded 46 row.name) (padded 256 row.def) 46 (length-padded 46 row.name (omega (arith, h.short_name))))
      ∙ take_at row.def (zeros (256 - length row.def)) (length row.def) refl

-- what is there is not none
pub gone : {A : Type 0} (o : Option A) → IsSome o → o ≡ None → ⊥
gone o some none = absurd (cc (subst IsSome none some))

-- ---- several rows

-- a list before a position, what stands there, and the rest
pub parted : {A : Type 0} (xs : List A) (n : ℕ) → n < length xs →
    (x : A) × (slice_get xs n ≡ Some x) × (drop n xs ≡ x ∷ drop (n + 1) xs) × (take (n + 1) xs ≡ take n xs ++ x ∷ [])
parted [] n less = absurd (omega arith)
parted (x ∷ xs) zero less = (x, refl, refl, refl)
parted {A} (x ∷ xs) (suc n) less =
    let t = parted xs n (omega arith) in
    let up : suc n + 1 ≡ suc (n + 1) = omega arith in
    (t.0, t.1, t.2 ∙ ap (λ (k : ℕ). t.0 ∷ drop k (x ∷ xs)) (sym up), ap (λ (k : ℕ). take k (x ∷ xs)) up ∙ ap (λ (l : List A). x ∷ l) t.3)

-- what rows take
pub length-rows : (rows : List CatRow) → ((k : ℕ) (row : CatRow) → slice_get rows k ≡ Some row → IsSpellable row) →
    length (flat_map row_bytes rows) ≡ 320 * length rows
length-rows [] each = refl
length-rows (row ∷ rows) each =
    let size = length-append (row_bytes row) (flat_map row_bytes rows) in
    let one = length-row row (each 0 row refl) in
    let rest = length-rows rows (λ k r there. each (suc k) r there) in
    omega arith

-- the front of what is left is the next row, and the rest is left then
pub next_row : {rows : List CatRow} {more b : List ℕ} (n : ℕ) (left : List ℕ) → AreRowsOf rows more b → n < length rows →
    left ≡ flat_map row_bytes (drop n rows) ++ more →
    (row : CatRow) × IsRowOf n row (take 320 left) × (drop 320 left ≡ flat_map row_bytes (drop (n + 1) rows) ++ more)
    × (take (n + 1) rows ≡ take n rows ++ row ∷ [])
next_row {rows} {more} n left h less is =
    let t = parted rows n less in
    let can = h.spellable n t.0 t.1 in
    let parts : left ≡ row_bytes t.0 ++ (flat_map row_bytes (drop (n + 1) rows) ++ more) =
    is ∙ ap (λ (l : List CatRow). flat_map row_bytes l ++ more) t.2
    ∙ append_assoc (row_bytes t.0) (flat_map row_bytes (drop (n + 1) rows)) more in
    let size = length-row t.0 can in (
      t.0,
      record {
        spellable = can;
        id_is = h.ids n t.0 t.1;
        bytes = ap (λ (l : List ℕ). take 320 l) parts ∙ take_at (row_bytes t.0) _ 320 size;
      },
      ap (λ (l : List ℕ). drop 320 l) parts ∙ behind (row_bytes t.0) _ 320 size,
      t.3,
    )

-- ---- a slot that tells a commit

module _ (c : Commit) (b : List ℕ) (h : IsBodyOf c b) where
  -- the bytes in two parts
  told_parts : b ≡ flat_map word (head_words c) ++ (flat_map row_bytes c.rows ++ zeros (bytes_behind (length c.rows)))
  told_parts = h.bytes ∙ slot_parts c

  -- the words of the head fit
  heads_fit : All (λ n. n < 2 ^ 64) (head_words c)
  heads_fit zero d less = (let few = h.commit.format.known in omega arith)
  heads_fit (suc zero) d less = (let few = h.commit.within.turn in omega arith)
  heads_fit (suc (suc zero)) d less = (let few = h.commit.within.few_pages in omega arith)
  heads_fit (suc (suc (suc zero))) d less = (let few = h.commit.within.few_bits in omega arith)
  heads_fit (suc (suc (suc (suc zero)))) d less = (let few = h.commit.within.count in omega arith)
  heads_fit (suc (suc (suc (suc (suc zero))))) d less = (let few = h.commit.within.lines in omega arith)
  heads_fit (suc (suc (suc (suc (suc (suc zero)))))) d less = (let few = h.commit.rows.few in omega arith)
  heads_fit (suc (suc (suc (suc (suc (suc (suc zero))))))) d less = omega arith
  heads_fit (suc (suc (suc (suc (suc (suc (suc (suc k)))))))) d less = absurd (omega arith)

  -- a word of the head
  pub told_word : (k : ℕ) → k < 8 → number (drop (8 * k) b) ≡ get_or (head_words c) k 0
  told_word k less =
      ap (λ (l : List ℕ). number (drop (8 * k) l)) told_parts
      ∙ words_at (head_words c) k (flat_map row_bytes c.rows ++ zeros (bytes_behind (length c.rows))) less heads_fit

  -- each row has room
  told_row : (k : ℕ) (row : CatRow) → slice_get c.rows k ≡ Some row → IsSpellable row
  told_row k row there =
      let less = slice_get_within c.rows k row there in
      let is = get_or_from_slice_get c.rows k row row there in
      let of = subst IsRow is (h.commit.rows.each k row less) in
      record {
        short_name = of.name.1;
        short_text = canonical_short row.def of.text;
        boundaries = subst HasBoundaries is (h.commit.within.boundaries k row less);
        texts = subst HasTexts is (h.commit.texts k row less);
      }

  -- the rows come after the head
  pub told_rows : AreRowsOf c.rows (zeros (bytes_behind (length c.rows))) (take (length b - 64) (drop 64 b))
  told_rows = record {
    spellable = told_row;
    ids = h.commit.rows.ids;
    bytes = take_all (length b - 64) (drop 64 b) (omega (arith, length-drop 64 b))
        ∙ ap (λ (l : List ℕ). drop 64 l) told_parts ∙ behind (flat_map word (head_words c)) _ 64 (length-words (head_words c));
  }

  -- the bytes are those of a slot's body, all of them
  pub told_length : length b ≡ 86016
  told_length =
      let all = ap length told_parts
      ∙ length-append (flat_map word (head_words c)) (flat_map row_bytes c.rows ++ zeros (bytes_behind (length c.rows))) in
      let head = length-words (head_words c) in
      let rest = length-append (flat_map row_bytes c.rows) (zeros (bytes_behind (length c.rows))) in
      let rows = length-rows c.rows told_row in
      let none = length-zeros (bytes_behind (length c.rows)) in
      let few = h.commit.rows.few in
      omega arith
