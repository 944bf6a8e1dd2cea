-- Words as bytes, and back.
use Rattle.std.proofs.Common.{◌≡◌, ℕ, suc, ◌+◌, ◌*◌, ◌/◌, ◌<◌, ◌^◌, List, [], ◌∷◌, ◌++◌}
use Rattle.std.proofs.Common.{length, get_or, drop, refl, ap, sym, ◌∙◌, arith, length-append}
use Rattle.std.specs.List.{flat_map}
use Rattle.byteorder.specs.Endian.{little_bytes}
use Rattle.fish_image.proofs.Spelling.{behind, length-word, length-words, number-word}
use Rattle.fish_image.proofs.ByteWords.{words_of-append}
use Rattle.fish_image.specs.Slot.{word}
use Rattle.fish_image.specs.Stands.{words_in, words_of}

-- words that were spelled are read back
pub words_back : (ws : List ℕ) → ((i : ℕ) → get_or ws i 0 < 2 ^ 64) → words_of (length ws) (flat_map word ws) ≡ ws
words_back [] fits = refl
words_back (w ∷ ws) fits =
    let first = number-word w (flat_map word ws) (fits 0) in
    let rest : drop 8 (word w ++ flat_map word ws) ≡ flat_map word ws = behind (word w) (flat_map word ws) 8 (length-word w) in
    let more : words_of (length ws) (drop 8 (word w ++ flat_map word ws)) ≡ ws =
    ap (words_of (length ws)) rest ∙ words_back ws (λ i. fits (suc i)) in
    (λ i. first i ∷ more i)

-- so it is of all words
pub words_both : (n m : ℕ) (a b : List ℕ) → length a ≡ 8 * n → length b ≡ 8 * m → words_in (a ++ b) ≡ words_in a ++ words_in b
words_both n m a b size more =
    let both = length-append a b in
    let all : length (a ++ b) / 8 ≡ n + m = omega arith in
    let one : length a / 8 ≡ n = omega arith in
    let other : length b / 8 ≡ m = omega arith in
    ap (λ (k : ℕ). words_of k (a ++ b)) all ∙ words_of-append n m a b size
    ∙ (λ i. words_of (sym one i) a ++ words_of (sym other i) b)

-- words as bytes are these words
pub words_bytes : (ws b : List ℕ) → ((i : ℕ) → get_or ws i 0 < 2 ^ 64) → b ≡ flat_map (little_bytes 8) ws → words_in b ≡ ws
unfolding word
words_bytes ws b fits is =
    let size : length b ≡ 8 * length ws = ap (λ (l : List ℕ). length l) is ∙ length-words ws in
    let count : length b / 8 ≡ length ws = omega arith in
    (λ i. words_of (count i) (is i)) ∙ words_back ws fits

-- and there are as many
pub bytes_size : (ws b : List ℕ) → b ≡ flat_map (little_bytes 8) ws → length b ≡ 8 * length ws
unfolding word
bytes_size ws b is = ap (λ (l : List ℕ). length l) is ∙ length-words ws
