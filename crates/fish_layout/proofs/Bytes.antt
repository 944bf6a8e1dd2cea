-- Bytes as words, eight at a time, and back.
use Rattle.std.proofs.Common.{◌≡◌, ℕ, zero, suc, ◌+◌, ◌-◌, ◌*◌, ◌<◌, ◌≤◌}
use Rattle.std.proofs.Common.{List, [], ◌∷◌, ◌++◌, length, get_or, take, drop, replicate}
use Rattle.std.proofs.Common.{refl, sym, ap, ◌∙◌, subst}
use Rattle.std.proofs.Common.{inl, inr, arith, append_assoc, length-append, length-drop}
use Rattle.std.specs.Int.{from_le_bytes, to_le_bytes}
use Rattle.std.specs.Int.Width.{w64}
use Rattle.std.proofs.Common.{drop-drop, map}
use Rattle.std.specs.Simd.{first_chunks}
use Rattle.std.specs.List.{flat_map}
use Rattle.std.proofs.lemmas.Bool.{cases_lt}
use Rattle.std.proofs.lemmas.Grind.{flat_map-append}
use Rattle.std.proofs.lemmas.List.{ext_get_or, length-replicate, length-take-le}
use Rattle.std.proofs.lemmas.List.{take-append-drop, take-append-le, take_all}
use Rattle.std.proofs.lemmas.List.FromFn.{get_or-map-range_with_len}
use Rattle.std.proofs.lemmas.Nat.{le_bytes_8}
use Rattle.std.proofs.Math.Seq.{drop-append-add, take-append-add, take-append_seam}
use Rattle.fish_layout.specs.Bytes.{bytes_in, word_at, words_for, words_of_bytes}
use Rattle.fish_layout.proofs.Sizes.{length-words_of_bytes}

-- a word is made of the eight bytes at its position
pub word_of : (b : List ℕ) (i : ℕ) → i < words_for (length b) → get_or (words_of_bytes b) i 0 ≡ word_at b i
unfolding words_of_bytes
word_of b i h = get_or-map-range_with_len (word_at b) 0 (words_for (length b)) i i 0 h (omega arith)

-- the first word is made of the first eight bytes, and the others of what follows
words_chunk_at : (c more : List ℕ) → length c ≡ 8 → (i : ℕ) → i < words_for (length (c ++ more)) →
    get_or (words_of_bytes (c ++ more)) i 0 ≡ get_or (from_le_bytes w64 c ∷ words_of_bytes more) i 0
words_chunk_at c more eight zero within =
    word_of (c ++ more) 0 within ∙ ap (λ n. from_le_bytes w64 (take n (c ++ more))) (sym eight)
    ∙ ap (from_le_bytes w64) (take-append_seam c more)
words_chunk_at c more eight (suc i) within =
    let size = length-append c more in
    let further : 8 * suc i ≡ length c + 8 * i = omega arith in
    word_of (c ++ more) (suc i) within
    ∙ ap (λ n. from_le_bytes w64 (take 8 (drop n (c ++ more)))) further
    ∙ ap (λ l. from_le_bytes w64 (take 8 l)) (drop-append-add c more (8 * i))
    ∙ sym (word_of more i (omega arith))

-- eight bytes are a word
pub words_chunk : (c more : List ℕ) → length c ≡ 8 →
    words_of_bytes (c ++ more) ≡ from_le_bytes w64 c ∷ words_of_bytes more
words_chunk c more eight =
    let size = length-append c more in
    ext_get_or 0 (words_of_bytes (c ++ more)) (from_le_bytes w64 c ∷ words_of_bytes more)
    (omega (arith, length-words_of_bytes (c ++ more), length-words_of_bytes more))
    (λ i within. words_chunk_at c more eight i (omega (arith, length-words_of_bytes (c ++ more))))

-- the one word of at most eight bytes
words_last_at : (b : List ℕ) → 0 < length b → length b ≤ 8 → (i : ℕ) → i < 1 →
    get_or (words_of_bytes b) i 0 ≡ get_or (from_le_bytes w64 b ∷ []) i 0
words_last_at b some few zero within = word_of b 0 (omega arith) ∙ ap (from_le_bytes w64) (take_all 8 b few)
words_last_at b some few (suc i) within = absurd (omega arith)

-- at most eight bytes are one word
pub words_last : (b : List ℕ) → 0 < length b → length b ≤ 8 → words_of_bytes b ≡ from_le_bytes w64 b ∷ []
words_last b some few =
    ext_get_or 0 (words_of_bytes b) (from_le_bytes w64 b ∷ []) (omega (arith, length-words_of_bytes b))
    (λ i within. words_last_at b some few i (omega (arith, length-words_of_bytes b)))

-- no bytes are no word
pub words_none : words_of_bytes [] ≡ []
unfolding words_of_bytes
words_none = refl

-- a number is made of its first eight bytes, and zeros after them
pub from_le_bytes_same : (a b : List ℕ) → ((i : ℕ) → get_or a i 0 ≡ get_or b i 0) →
    from_le_bytes w64 a ≡ from_le_bytes w64 b
from_le_bytes_same a b same = omega (arith, same 0, same 1, same 2, same 3, same 4, same 5, same 6, same 7)

-- zeros after bytes read as what follows bytes
padded_at : (b : List ℕ) (n i : ℕ) → get_or (b ++ replicate n 0) i 0 ≡ get_or b i 0
padded_at [] zero i = refl
padded_at [] (suc n) zero = refl
padded_at [] (suc n) (suc i) = padded_at [] n i
padded_at (x ∷ b) n zero = refl
padded_at (x ∷ b) n (suc i) = padded_at b n i

-- a word of at most eight bytes has these bytes, and zeros after them
le_bytes_few : (b : List ℕ) → length b ≤ 8 → ((i : ℕ) → get_or b i 0 < 256) →
    to_le_bytes w64 (from_le_bytes w64 b) ≡ b ++ replicate (8 - length b) 0
le_bytes_few b few small =
    let padded = b ++ replicate (8 - length b) 0 in
    let eight : length padded ≡ 8 =
    omega (arith, length-append b (replicate (8 - length b) 0), length-replicate {A = ℕ} (8 - length b) 0) in
    let bytes : (i : ℕ) → get_or padded i 0 < 256 = λ i. omega (arith, padded_at b (8 - length b) i, small i) in
    le_bytes_8 padded (from_le_bytes w64 b) eight bytes
    (from_le_bytes_same b padded (λ i. sym (padded_at b (8 - length b) i)))

-- what holds of each element of a whole holds of those in front, and of the 0 after them
pub small_left : (xs ys : List ℕ) → ((i : ℕ) → get_or (xs ++ ys) i 0 < 256) → (i : ℕ) → get_or xs i 0 < 256
small_left [] ys h i = omega arith
small_left (x ∷ xs) ys h zero = h 0
small_left (x ∷ xs) ys h (suc i) = small_left xs ys (λ j. h (suc j)) i

-- and of those after
pub small_right : (xs ys : List ℕ) → ((i : ℕ) → get_or (xs ++ ys) i 0 < 256) → (i : ℕ) → get_or ys i 0 < 256
small_right [] ys h i = h i
small_right (x ∷ xs) ys h i = small_right xs ys (λ j. h (suc j)) i

-- bytes come back from their one word
back_few : (b rest : List ℕ) → 0 < length b → length b ≤ 8 → ((i : ℕ) → get_or b i 0 < 256) →
    bytes_in (words_of_bytes b ++ rest) (length b) ≡ b
back_few b rest some few small =
    let behind = flat_map (to_le_bytes w64) rest in
    let zeros : List ℕ = replicate (8 - length b) 0 in
    ap (λ ws. bytes_in (ws ++ rest) (length b)) (words_last b some few)
    ∙ ap (λ l. take (length b) (l ++ behind)) (le_bytes_few b few small)
    ∙ ap (take (length b)) (append_assoc b zeros behind)
    ∙ take-append_seam b (zeros ++ behind)

-- bytes come back from a word and those after it
back_many : (c d rest : List ℕ) → length c ≡ 8 → ((i : ℕ) → get_or c i 0 < 256) →
    bytes_in (words_of_bytes d ++ rest) (length d) ≡ d →
    bytes_in (words_of_bytes (c ++ d) ++ rest) (length (c ++ d)) ≡ c ++ d
back_many c d rest eight small behind =
    let others = flat_map (to_le_bytes w64) (words_of_bytes d ++ rest) in
    ap (λ ws. bytes_in (ws ++ rest) (length (c ++ d))) (words_chunk c d eight)
    ∙ ap (λ l. take (length (c ++ d)) (l ++ others)) (le_bytes_8 c (from_le_bytes w64 c) eight small refl)
    ∙ ap (λ n. take n (c ++ others)) (length-append c d)
    ∙ take-append-add c others (length d)
    ∙ ap (λ l. c ++ l) behind

-- bytes come back from their words, whatever comes after these
back_within : (n : ℕ) (b rest : List ℕ) → length b ≤ 8 * n → ((i : ℕ) → get_or b i 0 < 256) →
    bytes_in (words_of_bytes b ++ rest) (length b) ≡ b
back_within n [] rest h small = refl
back_within zero (x ∷ b) rest h small = absurd (omega arith)
back_within (suc n) (x ∷ b) rest h small =
    let whole = x ∷ b in
    elim (cases_lt 8 (length whole)) [
      | inl many ↦ (
          let parts : take 8 whole ++ drop 8 whole ≡ whole = take-append-drop 8 whole in
          let eight : length (take 8 whole) ≡ 8 = length-take-le 8 whole (omega arith) in
          let fewer : length (drop 8 whole) ≤ 8 * n = omega (arith, length-drop 8 whole) in
          let all : (i : ℕ) → get_or (take 8 whole ++ drop 8 whole) i 0 < 256 =
          λ i. subst (λ l. get_or l i 0 < 256) (sym parts) (small i) in
          let behind = back_within n (drop 8 whole) rest fewer (small_right (take 8 whole) (drop 8 whole) all) in
          subst (λ l. bytes_in (words_of_bytes l ++ rest) (length l) ≡ l) parts
          (back_many (take 8 whole) (drop 8 whole) rest eight (small_left (take 8 whole) (drop 8 whole) all) behind))
      | inr few ↦ back_few whole rest (omega arith) few small
    ]

-- bytes come back from their words, whatever comes after these
pub bytes_back : (b rest : List ℕ) → ((i : ℕ) → get_or b i 0 < 256) → bytes_in (words_of_bytes b ++ rest) (length b) ≡ b
bytes_back b rest small = back_within (length b) b rest (omega arith) small

-- the first eight bytes are a word, and those after them the others
pub words_split : (b c more : List ℕ) → c ≡ take 8 b → more ≡ drop 8 b → 8 ≤ length b →
    words_of_bytes b ≡ from_le_bytes w64 c ∷ words_of_bytes more
words_split b c more front behind many =
    let parts : b ≡ c ++ more =
    sym (take-append-drop 8 b) ∙ ap (λ l. l ++ drop 8 b) (sym front) ∙ ap (λ l. c ++ l) (sym behind) in
    ap words_of_bytes parts ∙ words_chunk c more (ap length front ∙ length-take-le 8 b many)

-- so many times eight bytes are as many words, and those after them the others
pub words_chunks : (k : ℕ) (b : List ℕ) → 8 * k ≤ length b →
    words_of_bytes b ≡ map (from_le_bytes w64) (first_chunks 8 k b) ++ words_of_bytes (drop (k * 8) b)
words_chunks zero b h = refl
words_chunks (suc k) b h =
    let size = length-drop 8 b in
    words_split b (take 8 b) (drop 8 b) refl refl (omega arith)
    ∙ ap (λ l. from_le_bytes w64 (take 8 b) ∷ l) (words_chunks k (drop 8 b) (omega arith))
    ∙ ap (λ l. from_le_bytes w64 (take 8 b) ∷ (map (from_le_bytes w64) (first_chunks 8 k (drop 8 b)) ++ words_of_bytes l))
    (drop-drop (k * 8) 8 b ∙ ap (λ n. drop n b) (omega arith))

-- bytes that are none are no word
pub words_empty : (b : List ℕ) → length b ≡ 0 → words_of_bytes b ≡ []
words_empty [] h = words_none
words_empty (x ∷ b) h = absurd (omega arith)

-- a word has eight bytes
pub length_words : (ws : List ℕ) → length (flat_map (to_le_bytes w64) ws) ≡ 8 * length ws
length_words [] = refl
length_words (w ∷ ws) = omega (arith, length_words ws)

-- the words that hold so many bytes are enough for them
pub bytes_enough : (ws : List ℕ) (n : ℕ) → words_for n ≤ length ws → bytes_in (take (words_for n) ws) n ≡ bytes_in ws n
bytes_enough ws n room =
    let bytes = flat_map (to_le_bytes w64) in
    let front = take (words_for n) ws in
    let whole : bytes front ++ bytes (drop (words_for n) ws) ≡ bytes ws =
    sym (flat_map-append (to_le_bytes w64) front (drop (words_for n) ws))
    ∙ ap bytes (take-append-drop (words_for n) ws) in
    let enough : n ≤ length (bytes front) = omega (arith, length_words front, length-take-le (words_for n) ws room) in
    sym (take-append-le n (bytes front) (bytes (drop (words_for n) ws)) enough) ∙ ap (take n) whole
