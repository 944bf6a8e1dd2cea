-- How tokens are cut off the front of a text.
use Rattle.std.proofs.Common.{◌≡◌, ℕ, ◌+◌, ◌<◌, ◌≤◌, zero, suc, List, [], ◌∷◌, ◌++◌, refl, ap, subst, arith, length}
use Rattle.std.proofs.Common.{take, drop, length-drop, one-add, append_assoc}
use Rattle.std.specs.Prelude.{Bool, true, false, not, ◌&&◌, nat_lt, Option, Some, None, slice_index, IsUtf8}
use Rattle.std.specs.Char.{is_ascii_digit}
use Rattle.std.specs.List.{list_all}
use Rattle.std.specs.Str.{IsAscii}
use Rattle.std.proofs.lemmas.Bool.Decides.{nat_tests}
use Rattle.std.proofs.lemmas.Str.{IsUtf8-from_ascii}
use Rattle.fish_lang.specs.Token.{is_word_byte, is_ident, length_behind, listed, token_of, tokens_from}
use Rattle.fish_lang.specs.declared.token.Token.{Token}
use Rattle.fish_lang.specs.declared.token.Placed.{Placed}

-- what two tests say where both hold
pub both : (a b : Bool) → (a && b) ≡ true → (a ≡ true) × (b ≡ true)
both true b h = (refl, h)
both false b h = cc

-- the bytes of words are ASCII
is_word_byte-ascii : (c : ℕ) → is_word_byte c ≡ true → c < 128
is_word_byte-ascii c h = grind (arith, nat_tests)

IsAscii-word : (w : List ℕ) → list_all is_word_byte w ≡ true → IsAscii w
IsAscii-word [] h i = omega arith
IsAscii-word (c ∷ cs) h zero = is_word_byte-ascii c (both (is_word_byte c) (list_all is_word_byte cs) h).0
IsAscii-word (c ∷ cs) h (suc i) = IsAscii-word cs (both (is_word_byte c) (list_all is_word_byte cs) h).1 i

-- a word that can be a step has word bytes alone
pub is_ident-word : (w : List ℕ) → is_ident w ≡ true → list_all is_word_byte w ≡ true
unfolding is_ident
is_ident-word w h = (both (nat_lt 0 (length w)) _
    (both (nat_lt 0 (length w) && list_all is_word_byte w) _
    (both (nat_lt 0 (length w) && list_all is_word_byte w && not (is_ascii_digit (slice_index w 0)))
    _ h).0).0).1

-- so it is a text
pub IsUtf8-ident : (w : List ℕ) → is_ident w ≡ true → IsUtf8 w
IsUtf8-ident w h = IsUtf8-from_ascii w (IsAscii-word w (is_ident-word w h))

-- a `most` above the length changes nothing
pub tokens_from-most : (m n at : ℕ) (b : List ℕ) → length b ≤ m → length b ≤ n → tokens_from m at b
    ≡ tokens_from n at b
tokens_from-most zero zero at b h k = refl
tokens_from-most zero (suc n) at [] h k = refl
tokens_from-most zero (suc n) at (c ∷ b) h k = absurd (omega arith)
tokens_from-most (suc m) zero at [] h k = refl
tokens_from-most (suc m) zero at (c ∷ b) h k = absurd (omega arith)
tokens_from-most (suc m) (suc n) at [] h k = refl
tokens_from-most (suc m) (suc n) at (c ∷ b) h k =
    let l = length_behind c b in
    let short : length (drop l b) ≤ length b = omega (arith, length-drop l b) in
    ap (listed at (token_of (c ∷ take l b)))
    (tokens_from-most m n (at + suc l) (drop l b) (omega arith) (omega arith))

-- what is listed goes in front
pub listed-append : (at : ℕ) (t : Option Token) (ts : List Placed) → listed at t [] ++ ts ≡ listed at t ts
listed-append at None ts = refl
listed-append at (Some t) ts = refl

-- one token, or one blank, and the rest
pub tokens_from-turn : (at c : ℕ) (b : List ℕ) (n : ℕ) → n ≡ length_behind c b
    → tokens_from (suc (length b)) at (c ∷ b) ≡ listed at (token_of (c ∷ take n b)) []
    ++ tokens_from (length (drop n b)) (at + suc n) (drop n b)
tokens_from-turn at c b n e =
    let short : length (drop n b) ≤ length b = omega (arith, length-drop n b) in
    let most = tokens_from-most (length b) (length (drop n b)) (at + suc n) (drop n b) short (omega arith) in
    rw (
      listed-append at (token_of (c ∷ take n b))
          (tokens_from (length (drop n b)) (at + suc n) (drop n b)),
      ← most,
      e,
    )

-- a turn of the loop that collects the tokens
pub tokens-turn : (whole done more : List Placed) (at c n : ℕ) (b rest piece next : List ℕ) → rest
    ≡ c ∷ b → n ≡ length_behind c b → piece ≡ take (1 + n) rest → length piece ≡ 1 + n → next
    ≡ drop (1 + n) rest → more ≡ done ++ listed at (token_of piece) [] → done
    ++ tokens_from (length rest) at rest ≡ whole → more
    ++ tokens_from (length next) (at + length piece) next ≡ whole
tokens-turn whole done more at c n b rest piece next r size front l back m h =
    let turn = tokens_from-turn at c b n size in
    let P : List ℕ → Type 0 = λ x. done ++ tokens_from (length x) at x ≡ whole in
    let old : done ++ tokens_from (suc (length b)) at (c ∷ b) ≡ whole = subst P r h in
    let front' : piece ≡ c ∷ take n b = rw (r, one-add) at front in
    let back' : next ≡ drop n b = rw (r, one-add) at back in
    rw (m, l, back', front', one-add, append_assoc, ← turn) old
