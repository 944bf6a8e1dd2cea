-- The words of bytes, which the file has eight bytes a word: how many, each one, parts of them, and those of bytes one after the other.
use Rattle.std.proofs.Common.{◌≡◌, ℕ, zero, suc, ◌+◌, ◌-◌, ◌*◌, ◌<◌, ◌≤◌, List, [], ◌∷◌, ◌++◌, length, take, drop, get_or}
use Rattle.std.proofs.Common.{refl, sym, ap, ◌∙◌, arith, drop-drop, get_or-take, length-drop}
use Rattle.std.proofs.lemmas.List.{drop-append-le, drop-take, ext_get_or}
use Rattle.byteorder.specs.Endian.{IsRead, little_number}
use Rattle.byteorder.specs.Numbers.{little_from-append}
use Rattle.fish_image.specs.Slot.{number}
use Rattle.fish_image.specs.Stands.{words_of}

-- so many words
pub length-words_of : (n : ℕ) (b : List ℕ) → length (words_of n b) ≡ n
length-words_of zero b = refl
length-words_of (suc n) b = ap suc (length-words_of n (drop 8 b))

-- the first word is made of the first eight bytes
number-take : (m : ℕ) (b : List ℕ) → 8 ≤ m → number (take m b) ≡ number b
unfolding number
number-take m b h =
    omega (
      arith,
      get_or-take m b 0 0 (omega arith),
      get_or-take m b 1 0 (omega arith),
      get_or-take m b 2 0 (omega arith),
      get_or-take m b 3 0 (omega arith),
      get_or-take m b 4 0 (omega arith),
      get_or-take m b 5 0 (omega arith),
      get_or-take m b 6 0 (omega arith),
      get_or-take m b 7 0 (omega arith),
    )

number-append : (a b : List ℕ) → 8 ≤ length a → number (a ++ b) ≡ number a
unfolding number
number-append a b long = little_from-append 8 a b long

-- each of them
index-words_of : (n : ℕ) (b : List ℕ) (k : ℕ) → k < n → get_or (words_of n b) k 0 ≡ number (drop (8 * k) b)
index-words_of zero b k h = absurd (omega arith)
index-words_of (suc n) b zero h = refl
index-words_of (suc n) b (suc k) h =
    let further : 8 + 8 * k ≡ 8 * suc k = omega arith in
    index-words_of n (drop 8 b) k (omega arith) ∙ ap number (drop-drop (8 * k) 8 b ∙ ap (λ j. drop j b) further)

-- words that were read are these
pub read_words : (n : ℕ) (b ws : List ℕ) → length ws ≡ n → IsRead little_number 8 b ws → ws ≡ words_of n b
unfolding number
read_words n b ws size read =
    ext_get_or 0 ws (words_of n b) (size ∙ sym (length-words_of n b))
    (λ k within. read k within ∙ sym (index-words_of n b k (omega arith)))

-- what comes after the bytes of words is none of them
pub words_of-take : (n m : ℕ) (b : List ℕ) → 8 * n ≤ m → words_of n (take m b) ≡ words_of n b
words_of-take zero m b h = refl
words_of-take (suc n) m b h =
    let long : 8 + (m - 8) ≡ m = omega arith in
    let behind : drop 8 (take m b) ≡ take (m - 8) (drop 8 b) = ap (λ k. drop 8 (take k b)) (sym long) ∙ drop-take 8 (m - 8) b in
    ap (λ x. x ∷ words_of n (drop 8 (take m b))) (number-take m b (omega arith))
    ∙ ap (λ l. number b ∷ words_of n l) behind
    ∙ ap (λ l. number b ∷ l) (words_of-take n (m - 8) (drop 8 b) (omega arith))

-- no bytes are none
pub no_bytes : (a : List ℕ) → length a ≡ 0 → a ≡ []
no_bytes [] size = refl
no_bytes (x ∷ a) size = absurd (omega arith)

-- words of two lists of bytes, one after the other
pub words_of-append : (n m : ℕ) (a b : List ℕ) → length a ≡ 8 * n → words_of (n + m) (a ++ b) ≡ words_of n a ++ words_of m b
words_of-append zero m a b size =
    let none : a ≡ [] = no_bytes a (omega arith) in
    let same : zero + m ≡ m = omega arith in
    ap (λ (k : ℕ). words_of k (a ++ b)) same ∙ ap (λ (l : List ℕ). words_of m (l ++ b)) none
words_of-append (suc n) m a b size =
    let same : suc n + m ≡ suc (n + m) = omega arith in
    let first = number-append a b (omega arith) in
    let rest : drop 8 (a ++ b) ≡ drop 8 a ++ b = drop-append-le 8 a b (omega arith) in
    let left = length-drop 8 a in
    ap (λ (k : ℕ). words_of k (a ++ b)) same
    ∙ (λ i. first i ∷ words_of (n + m) (rest i))
    ∙ ap (λ (l : List ℕ). number a ∷ l) (words_of-append n m (drop 8 a) b (omega arith))
