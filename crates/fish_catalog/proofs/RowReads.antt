-- What the functions that make and read a row's words stand on.
use Rattle.std.proofs.Common.{◌≡◌, ℕ, ◌+◌, ◌*◌, ◌<◌, ◌≤◌, List, Bool, true, false, length, get_or}
use Rattle.std.proofs.Common.{slice_index, map, take, drop, refl, sym, ap, subst, ◌∙◌, inl, inr, arith}
use Rattle.std.proofs.Common.{length-drop, All}
use mir.Val.{bool_byte}
use Rattle.std.specs.Prelude.{IsUtf8}
use Rattle.std.specs.List.{range_with_len}
use Rattle.std.proofs.lemmas.List.{ext_get_or, get_or-drop, get_or-take, length-take-le}
use Rattle.std.proofs.lemmas.List.Elements.{All-from_get_or}
use Rattle.std.proofs.lemmas.List.FromFn.{get_or-map-range_with_len, length-map-range_with_len}
use Rattle.fish_layout.specs.Bytes.{bytes_in}
use Rattle.fish_layout.proofs.Utf8.{bytes_text}
use Rattle.fish_catalog.specs.Canonical.{IsCanonical}
use Rattle.fish_catalog.specs.Listing.{listed_in}
use Rattle.fish_catalog.specs.Words.{bit_of, name_in, name_size, text_in, text_size}
use Rattle.fish_catalog.specs.declared.listed.Listed.{Listed}

-- a yes as a number is its bit
pub bit_byte : (b : Bool) → bool_byte b ≡ bit_of b
bit_byte true = refl
bit_byte false = refl

-- a canonical text has at most 255 bytes, since a longer one is refused
pub canonical_short : (text : List ℕ) → IsCanonical text → length text ≤ 255
canonical_short text h =
    elim h.read [ inl refused ↦ absurd (cc (refused.1)) | inr read ↦ omega (arith, ap length h.spells, read.1.1) ]

-- the bytes of a text are bytes
pub text_small : {seen text : List ℕ} → seen ≡ text → IsUtf8 seen → All (λ x. x < 256) text
text_small {seen} {text} is utf8 =
    subst (All (λ x. x < 256)) is (All-from_get_or (λ x. x < 256) seen 0 (λ i _. bytes_text seen utf8 i))

-- the bytes that a word is made of
pub byte_of_word : (b : List ℕ) (i j k : ℕ) → j < 8 → 8 * i + j ≡ k →
    get_or (take 8 (drop (8 * i) b)) j 0 ≡ get_or b k 0
byte_of_word b i j k few at =
    get_or-take 8 (drop (8 * i) b) j 0 few ∙ get_or-drop (8 * i) b j 0 ∙ ap (λ n. get_or b n 0) at

-- a run of words, as the images of their positions
words_run : (ws : List ℕ) (a n : ℕ) → a + n ≤ length ws →
    take n (drop a ws) ≡ map (slice_index ws) (range_with_len a n)
words_run ws a n room =
    let size : length (take n (drop a ws)) ≡ n = length-take-le n (drop a ws) (omega (arith, length-drop a ws)) in
    ext_get_or 0 (take n (drop a ws)) (map (slice_index ws) (range_with_len a n))
    (omega (arith, size, length-map-range_with_len (slice_index ws) a n))
    (λ i within. let few : i < n = omega (arith, size) in
    get_or-take n (drop a ws) i 0 few ∙ get_or-drop a ws i 0
    ∙ sym (get_or-map-range_with_len (slice_index ws) a n i (a + i) 0 few refl))

-- the definition whose parts were read from runs of words
pub listed_from : (ws : List ℕ) (id : ℕ) (active : Bool) → length ws ≡ 39 → {name text : List ℕ} {ns ts : ℕ} →
    name ≡ bytes_in (take 4 (drop 3 ws)) ns → text ≡ bytes_in (take 32 (drop 7 ws)) ts →
    ns ≡ name_size (slice_index ws 2) → ts ≡ text_size (slice_index ws 2) →
    ◌≡◌ {A = Listed} (record { id = id; name = name; def = text; active = active })
    (listed_in (slice_index ws) id active)
unfolding name_in text_in
listed_from ws id active size {name} {text} {ns} {ts} name_is text_is ns_is ts_is =
    let f : ℕ → ℕ = slice_index ws in
    let spelled : name ≡ name_in f =
    name_is ∙ ap (λ l. bytes_in l ns) (words_run ws 3 4 (omega arith))
    ∙ ap (bytes_in (map f (range_with_len 3 4))) ns_is in
    let said : text ≡ text_in f =
    text_is ∙ ap (λ l. bytes_in l ts) (words_run ws 7 32 (omega arith))
    ∙ ap (bytes_in (map f (range_with_len 7 32))) ts_is in
    ap (λ (n : List ℕ). record { id = id; name = n; def = text; active = active }) spelled
    ∙ ap (λ (t : List ℕ). record { id = id; name = name_in f; def = t; active = active }) said
