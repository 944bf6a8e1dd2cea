-- The lexer cuts a source into the longest pieces, and no other cut has them.
use Rattle.std.proofs.Common.{◌≡◌, ◌==◌, ◌+◌, ◌-◌, ◌≤◌, ℕ, zero, suc, List, [], ◌∷◌, ◌++◌, Bool, true, false}
use Rattle.std.proofs.Common.{refl, sym, ap, subst, ◌∙◌, length, take, drop, arith, inl, inr}
use Rattle.std.proofs.Common.{append_assoc, length-append, length-drop}
use Rattle.std.specs.Prelude.{◌&&◌, not, slice_index, if◌then◌else◌}
use Rattle.std.specs.List.{list_all}
use Rattle.std.proofs.lemmas.Bool.{cases_Bool, eqb-true}
use Rattle.std.proofs.lemmas.Bool.Decides.{nat_tests}
use Rattle.std.proofs.lemmas.List.{length-take-le, nil_from_length, take-append-drop}
use Rattle.std.proofs.Math.Seq.{drop-append-add, drop-append_seam, take-append-add, take-append_seam}
use Rattle.fish_lang.specs.Pieces.{AreLongest, IsCut, IsLongest, IsPiece, joined, tokens_in}
use Rattle.fish_lang.specs.Token.{begins_word, is_word_byte, length_behind, listed, run_length, string_length}
use Rattle.fish_lang.specs.Token.{takes_equals, token_of, tokens, tokens_from}
use Rattle.fish_lang.proofs.StringEnds.{ended-taken, string-ends, unended-taken}
use Rattle.fish_lang.proofs.TokenLemmas.{both}

-- ---- how far the lexer goes, by the first byte

word-behind : (c : ℕ) (b : List ℕ) → begins_word c ≡ true → length_behind c b ≡ run_length b
unfolding length_behind
word-behind c b word = rw word refl

string-behind : (c : ℕ) (b : List ℕ) → begins_word c ≡ false → (c == 34) ≡ true →
    length_behind c b ≡ string_length false b
unfolding length_behind
string-behind c b no_word quote = rw (no_word, quote) refl

sign-behind : (c : ℕ) (b : List ℕ) (t : Bool) → begins_word c ≡ false → (c == 34) ≡ false →
    (takes_equals c && (slice_index b 0 == 61)) ≡ t → length_behind c b ≡ (if t then 1 else 0)
unfolding length_behind
sign-behind c b t no_word no_quote equals = rw (no_word, no_quote, equals) refl

-- ---- words

all-turn : (c : ℕ) (b : List ℕ) (t : Bool) → is_word_byte c ≡ t → list_all is_word_byte (take (run_length b) b) ≡ true →
    list_all is_word_byte (take (if t then suc (run_length b) else 0) (c ∷ b)) ≡ true
all-turn c b true word all = rw word all
all-turn c b false other all = refl

-- a run has bytes of words alone
run-all : (b : List ℕ) → list_all is_word_byte (take (run_length b) b) ≡ true
run-all [] = refl
run-all (c ∷ b) = all-turn c b (is_word_byte c) refl (run-all b)

-- it takes in all bytes of words at the front
run-reaches : (w rest : List ℕ) → list_all is_word_byte w ≡ true → length w ≤ run_length (w ++ rest)
run-reaches [] rest all = omega arith
run-reaches (c ∷ w) rest all =
    let parts = both (is_word_byte c) (list_all is_word_byte w) all in
    let later = run-reaches w rest parts.1 in
    rw parts.0 (omega (arith, later))

-- ---- the lexer stays within the text

run-step : (t : Bool) (m n : ℕ) → m ≤ n → (if t then suc m else 0) ≤ suc n
run-step true m n h = omega arith
run-step false m n h = omega arith

run-within : (b : List ℕ) → run_length b ≤ length b
run-within [] = omega arith
run-within (c ∷ b) = run-step (is_word_byte c) (run_length b) (length b) (run-within b)

string-step : (t : Bool) (m n : ℕ) → m ≤ n → (if t then 1 else suc m) ≤ suc n
string-step true m n h = omega arith
string-step false m n h = omega arith

string-within : (o : Bool) (b : List ℕ) → string_length o b ≤ length b
string-within o [] = omega arith
string-within o (c ∷ b) =
    let odd = (c == 92) && not o in
    string-step ((c == 34) && not o) (string_length odd b) (length b) (string-within odd b)

-- an equality sign at the front is the first byte
equals-front : (b : List ℕ) → (slice_index b 0 == 61) ≡ true → (take 1 b ≡ 61 ∷ []) × (1 ≤ length b)
equals-front [] h = cc
equals-front (x ∷ b) h = (ap (λ y. y ∷ []) (eqb-true x 61 h), omega arith)

-- one part of the other: a sign of two bytes, or a byte by itself
behind-within : (c : ℕ) (b : List ℕ) → length_behind c b ≤ length b
behind-within c b = elim (cases_Bool (begins_word c)) [
  | inl word ↦ omega (arith, word-behind c b word, run-within b)
  | inr no_word ↦ elim (cases_Bool (c == 34)) [
    | inl quote ↦ omega (arith, string-behind c b no_word quote, string-within false b)
    | inr no_quote ↦ elim (cases_Bool (takes_equals c && (slice_index b 0 == 61))) [
      | inl equals ↦ omega (
        arith,
        sign-behind c b true no_word no_quote equals,
        (equals-front b (both (takes_equals c) (slice_index b 0 == 61) equals).1).1,
      )
      | inr alone ↦ omega (arith, sign-behind c b false no_word no_quote alone)
    ]
  ]
]

-- ---- what the lexer takes is a piece

resized : (c : ℕ) (b : List ℕ) (n : ℕ) → length_behind c b ≡ n → IsPiece (c ∷ take n b) (drop n b) →
    IsPiece (c ∷ take (length_behind c b) b) (drop (length_behind c b) b)
resized c b n is h = subst (λ m. IsPiece (c ∷ take m b) (drop m b)) (sym is) h

piece-at : (c : ℕ) (b : List ℕ) → IsPiece (c ∷ take (length_behind c b) b) (drop (length_behind c b) b)
piece-at c b = elim (cases_Bool (begins_word c)) [
  | inl word ↦ resized c b (run_length b) (word-behind c b word) (inr (inl (word, run-all b)))
  | inr no_word ↦ elim (cases_Bool (c == 34)) [
    | inl quote ↦ resized c b (string_length false b) (string-behind c b no_word quote)
        (inr (inr (inl (eqb-true c 34 quote, string-ends b))))
    | inr no_quote ↦ elim (cases_Bool (takes_equals c && (slice_index b 0 == 61))) [
      | inl equals ↦
          let tests = both (takes_equals c) (slice_index b 0 == 61) equals in
          resized c b 1 (sign-behind c b true no_word no_quote equals)
          (inr (inr (inr (tests.0, (equals-front b tests.1).0))))
      | inr alone ↦ resized c b 0 (sign-behind c b false no_word no_quote alone) (inl refl)
    ]
  ]
]

-- ---- and no piece is longer

takes-other : (c : ℕ) → takes_equals c ≡ true → (begins_word c ≡ false) × ((c == 34) ≡ false)
takes-other c h = (grind (arith, nat_tests), grind (arith, nat_tests))

sign-bound : (c : ℕ) (t rest : List ℕ) → takes_equals c ≡ true → t ≡ 61 ∷ [] → length t ≤ length_behind c (t ++ rest)
sign-bound c t rest takes is =
    let other = takes-other c takes in
    let equals : (takes_equals c && (slice_index (61 ∷ rest) 0 == 61)) ≡ true = rw takes refl in
    let one : length_behind c (61 ∷ rest) ≡ 1 = sign-behind c (61 ∷ rest) true other.0 other.1 equals in
    subst (λ s. length s ≤ length_behind c (s ++ rest)) (sym is) (omega (arith, one))

piece-bound : (c : ℕ) (t rest : List ℕ) → IsPiece (c ∷ t) rest → length t ≤ length_behind c (t ++ rest)
piece-bound c t rest (inl none) = omega (arith, ap length none)
piece-bound c t rest (inr (inl word)) = omega (arith, word-behind c (t ++ rest) word.0, run-reaches t rest word.1)
piece-bound c t rest (inr (inr (inl string))) =
    let size : length_behind 34 (t ++ rest) ≡ string_length false (t ++ rest) =
    string-behind 34 (t ++ rest) refl refl in
    let least : length t ≤ string_length false (t ++ rest) = elim string.1 [
      | inl ended ↦ omega (arith, ended-taken t rest ended)
      | inr unended ↦ unended-taken t rest unended.0
    ] in
    subst (λ x. length t ≤ length_behind x (t ++ rest)) (sym string.0) (omega arith)
piece-bound c t rest (inr (inr (inr sign))) = sign-bound c t rest sign.0 sign.1

longest-at : (c : ℕ) (b : List ℕ) → IsLongest (c ∷ take (length_behind c b) b) (drop (length_behind c b) b)
longest-at c b more behind e piece =
    let n = length_behind c b in
    let front = take n b in
    let whole : (front ++ more) ++ behind ≡ b =
    append_assoc front more behind ∙ ap (λ r. front ++ r) (sym e) ∙ take-append-drop n b in
    let bound : length (front ++ more) ≤ length_behind c ((front ++ more) ++ behind) =
    piece-bound c (front ++ more) behind piece in
    let same : length_behind c ((front ++ more) ++ behind) ≡ n = ap (length_behind c) whole in
    let size : length front ≡ n = length-take-le n b (behind-within c b) in
    nil_from_length more (omega (arith, bound, same, size, length-append front more))

-- ---- the cut

-- a text of at most so many bytes has a cut
cut-of : (most : ℕ) (b : List ℕ) → length b ≤ most → (pieces : List (List ℕ)) × IsCut b pieces
cut-of zero [] h = ([], record { whole = refl; longest = tt })
cut-of zero (c ∷ b) h = absurd (omega arith)
cut-of (suc most) [] h = ([], record { whole = refl; longest = tt })
cut-of (suc most) (c ∷ b) h =
    let n = length_behind c b in
    let later = cut-of most (drop n b) (omega (arith, length-drop n b)) in (
      (c ∷ take n b) ∷ later.0,
      record {
        whole = ap (λ r. c ∷ (take n b ++ r)) later.1.whole ∙ ap (λ t. c ∷ t) (take-append-drop n b);
        longest = (
          subst (IsPiece (c ∷ take n b)) (sym later.1.whole) (piece-at c b),
          subst (IsLongest (c ∷ take n b)) (sym later.1.whole) (longest-at c b),
          later.1.longest,
        );
      },
    )

pub has-cut : (b : List ℕ) → (pieces : List (List ℕ)) × IsCut b pieces
has-cut b = cut-of (length b) b (omega arith)

-- the longest piece is the one that the lexer takes
piece-size : (c : ℕ) (t rest : List ℕ) → IsPiece (c ∷ t) rest → IsLongest (c ∷ t) rest →
    length_behind c (t ++ rest) ≡ length t
piece-size c t rest piece longest =
    let n = length_behind c (t ++ rest) in
    let k = n - length t in
    let sum : n ≡ length t + k = omega (arith, piece-bound c t rest piece) in
    let front : take n (t ++ rest) ≡ t ++ take k rest =
    ap (λ m. take m (t ++ rest)) sum ∙ take-append-add t rest k in
    let back : drop n (t ++ rest) ≡ drop k rest = ap (λ m. drop m (t ++ rest)) sum ∙ drop-append-add t rest k in
    let longer : IsPiece (c ∷ (t ++ take k rest)) (drop k rest) =
    subst (λ s. IsPiece (c ∷ s) (drop k rest)) front
    (subst (IsPiece (c ∷ take n (t ++ rest))) back (piece-at c (t ++ rest))) in
    let none : take k rest ≡ [] = longest (take k rest) (drop k rest) (sym (take-append-drop k rest)) longer in
    let within : k ≤ length rest = omega (arith, behind-within c (t ++ rest), length-append t rest) in
    omega (arith, sum, ap length none, length-take-le k rest within)

-- so the tokens of a cut are those of the text
tokens-cut : (most at : ℕ) (pieces : List (List ℕ)) → AreLongest pieces → length (joined pieces) ≤ most →
    tokens_from most at (joined pieces) ≡ tokens_in at pieces
tokens-cut zero at [] h le = refl
tokens-cut zero at ([] ∷ ts) h le = absurd h.0
tokens-cut zero at ((c ∷ t) ∷ ts) h le = absurd (omega arith)
tokens-cut (suc most) at [] h le = refl
tokens-cut (suc most) at ([] ∷ ts) h le = absurd h.0
tokens-cut (suc most) at ((c ∷ t) ∷ ts) h le =
    let size : length_behind c (t ++ joined ts) ≡ length t = piece-size c t (joined ts) h.0 h.1 in
    let few : length (joined ts) ≤ most = omega (arith, length-append t (joined ts)) in
    rw (size, take-append_seam t (joined ts), drop-append_seam t (joined ts))
    (ap (listed at (token_of (c ∷ t))) (tokens-cut most (at + suc (length t)) ts h.2 few))

pub cut-tokens : (b : List ℕ) (pieces : List (List ℕ)) → IsCut b pieces → tokens b ≡ tokens_in 0 pieces
unfolding tokens
cut-tokens b pieces h =
    subst (λ s. tokens_from (length s) 0 s ≡ tokens_in 0 pieces) h.whole
    (tokens-cut (length (joined pieces)) 0 pieces h.longest (omega arith))
