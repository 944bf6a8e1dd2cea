-- How the tokens of a text begin, by how the text begins.
use Rattle.std.proofs.Common.{◌≡◌, ℕ, ◌+◌, zero, suc, List, [], ◌∷◌, ◌++◌, refl, sym, ◌∙◌, ap, length, take, drop}
use Rattle.std.specs.Prelude.{true, false, Option, Some, None}
use Rattle.std.specs.List.{list_all}
use Rattle.std.proofs.Math.Seq.{take-append_seam, drop-append_seam}
use Rattle.fish_lang.specs.Language.{kinds}
use Rattle.fish_lang.specs.Token.{tokens_from, token_of, length_behind, listed, is_word_byte, begins_word, run_length, sign_token}
use Rattle.fish_lang.specs.declared.token.Token.{Token}
use Rattle.fish_lang.specs.declared.token.Token.TheVariants as kind
use Rattle.fish_lang.specs.declared.token.Placed.{Placed}
use Rattle.fish_lang.proofs.TokenLemmas.{both, tokens_from-turn}

-- the tokens of a text, without their positions
unfoldable pub lexed : List ℕ → List Token
lexed b = kinds (tokens_from (length b) 0 b)

pub lexed-none : lexed [] ≡ []
unfolding lexed
lexed-none = refl

kinds-listed : (at low : ℕ) (t : Option Token) (ts us : List Placed) → kinds ts ≡ kinds us
    → kinds (listed at t ts) ≡ kinds (listed low t us)
kinds-listed at low None ts us e = e
kinds-listed at low (Some t) ts us e = ap (λ ks. t ∷ ks) e

-- they don't depend on where the text begins
kinds-position : (most at low : ℕ) (b : List ℕ) → kinds (tokens_from most at b) ≡ kinds (tokens_from most low b)
kinds-position zero at low b = refl
kinds-position (suc most) at low [] = refl
kinds-position (suc most) at low (c ∷ b) =
    kinds-listed at low (token_of (c ∷ take (length_behind c b) b)) _ _
    (kinds-position most _ _ (drop (length_behind c b) b))

-- one token at the front, or none where it is a blank
abbrev behind_token : Option Token → List Token → List Token
behind_token None ts = ts
behind_token (Some t) ts = t ∷ ts

kinds-front : (at : ℕ) (t : Option Token) (ts : List Placed) → kinds (listed at t [] ++ ts)
    ≡ behind_token t (kinds ts)
kinds-front at None ts = refl
kinds-front at (Some t) ts = refl

lexed-turn : (c : ℕ) (b : List ℕ) (n : ℕ) → n ≡ length_behind c b → lexed (c ∷ b)
    ≡ behind_token (token_of (c ∷ take n b)) (lexed (drop n b))
unfolding lexed
lexed-turn c b n e =
    ap kinds (tokens_from-turn 0 c b n e) ∙ kinds-front 0 (token_of (c ∷ take n b)) _
    ∙ ap (behind_token (token_of (c ∷ take n b)))
    (kinds-position (length (drop n b)) (0 + suc n) 0 (drop n b))

-- a token before a rest that it doesn't reach into
pub lexed-token : (c : ℕ) (w rest : List ℕ) (t : Token) → length_behind c (w ++ rest) ≡ length w
    → token_of (c ∷ w) ≡ Some t → lexed (c ∷ (w ++ rest)) ≡ t ∷ lexed rest
lexed-token c w rest t size is =
    lexed-turn c (w ++ rest) (length w) (sym size) ∙ rw (take-append_seam w rest, drop-append_seam w rest, is)

-- a blank
pub lexed-blank : (rest : List ℕ) → lexed (32 ∷ rest) ≡ lexed rest
unfolding length_behind token_of
lexed-blank rest = lexed-turn 32 rest 0 refl

-- the signs
pub lexed-open : (rest : List ℕ) → lexed (40 ∷ rest) ≡ kind.Open ∷ lexed rest
unfolding length_behind token_of sign_token
lexed-open rest = lexed-token 40 [] rest kind.Open refl refl

pub lexed-close : (rest : List ℕ) → lexed (41 ∷ rest) ≡ kind.Close ∷ lexed rest
unfolding length_behind token_of sign_token
lexed-close rest = lexed-token 41 [] rest kind.Close refl refl

pub lexed-dot : (rest : List ℕ) → lexed (46 ∷ rest) ≡ kind.Dot ∷ lexed rest
unfolding length_behind token_of sign_token
lexed-dot rest = lexed-token 46 [] rest kind.Dot refl refl

-- what a word must not touch
abbrev pub EndsWord : List ℕ → Type 0
EndsWord [] = Unit {0}
EndsWord (c ∷ b) = is_word_byte c ≡ false

run_length-word : (w rest : List ℕ) → list_all is_word_byte w ≡ true → EndsWord rest
    → run_length (w ++ rest) ≡ length w
run_length-word [] [] h e = refl
run_length-word [] (c ∷ b) h e = rw e
run_length-word (c ∷ w) rest h e =
    let parts = both (is_word_byte c) (list_all is_word_byte w) h in
    rw parts.0 (ap suc (run_length-word w rest parts.1 e))

-- a word
pub lexed-word : (c : ℕ) (w rest : List ℕ) (t : Token) → begins_word c ≡ true
    → list_all is_word_byte w ≡ true → EndsWord rest → token_of (c ∷ w) ≡ Some t
    → lexed (c ∷ (w ++ rest)) ≡ t ∷ lexed rest
unfolding length_behind
lexed-word c w rest t begins all ends is =
    lexed-token c w rest t (rw begins (run_length-word w rest all ends)) is
