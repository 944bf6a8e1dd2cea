-- What a source is: a definition, or refused. All of it is said by derivations.
use Rattle.std.specs.Prelude.{◌≡◌, ◌≢◌, ℕ, ◌≤◌, ◌<◌, ◌⊎◌, List, [], ◌∷◌, ◌++◌, Some, Result, Ok, Err, length, map}
use Rattle.fish_lang.specs.Canonical.{definition_text}
use Rattle.fish_lang.specs.Definition.{Definition}
use Rattle.fish_lang.specs.Grammar.{Terminal, terminal, terminals, spelled}
use Rattle.fish_lang.specs.Derivation.{Derivation, meaning}
use Rattle.fish_lang.specs.Token.{tokens, token_of}
use Rattle.fish_lang.specs.declared.parse.LangRefusal.{LangRefusal}
use Rattle.fish_lang.specs.declared.parse.LangRefusal.TheVariants as refusal
use Rattle.fish_lang.specs.Limits.{longest_source, longest_canonical}
use Rattle.fish_lang.specs.declared.fault.Fault.{Fault}
use Rattle.fish_lang.specs.declared.fault.Fault.TheVariants.{TooDeep, NumberTooLarge, ZeroWidth}
use Rattle.fish_lang.specs.declared.token.Token.{Token}
use Rattle.fish_lang.specs.declared.token.Placed.{Placed}

-- the tokens without their positions
abbrev pub kinds : List Placed → List Token
kinds = map (λ p. p.token)

-- the tokens in positions where none is refused
abbrev pub unrefused : List Placed → List Terminal
unrefused = map (λ p. terminal p.token)

-- tokens that bytes can be
abbrev pub AreTokens : List Terminal → Type 0
AreTokens [] = Unit {0}
AreTokens (x ∷ xs) = ((bytes : List ℕ) × (token_of bytes ≡ Some x.token)) × AreTokens xs

-- the tokens are those of a derivation with this meaning, and none is refused
pub record IsRead (ts : List Placed) (d : Definition) : Type 0 where
  pub tree : Derivation
  pub spells : terminals tree ≡ unrefused ts
  pub means : meaning tree ≡ d

-- a definition begins with the tokens, and none of them is refused
pub record BeginsWell (ts : List Placed) : Type 0 where
  pub tree : Derivation
  pub more : List Terminal
  pub real : AreTokens more
  pub spells : terminals tree ≡ unrefused ts ++ more

-- no definition begins with the tokens
abbrev pub BeginsNone : List Placed → Type 0
BeginsNone ts = (tree : Derivation) (more : List Token) → spelled (terminals tree) ≢ kinds ts ++ more

-- the first token such that no definition begins with the tokens up to it, and none before is refused
pub record StopsAt (ts : List Placed) (at : ℕ) : Type 0 where
  pub before : List Placed
  pub placed : Placed
  pub behind : List Placed
  pub splits : ts ≡ before ++ placed ∷ behind
  pub position : placed.at ≡ at
  pub well : BeginsWell before
  pub none : BeginsNone (before ++ placed ∷ [])

-- a definition begins with all tokens, but none has no more than them
pub record StopsAtEnd (ts : List Placed) : Type 0 where
  pub well : BeginsWell ts
  pub none : (tree : Derivation) → spelled (terminals tree) ≢ kinds ts

-- a definition begins with the tokens up to one that is refused in its position, and none before is
pub record Faulty (fault : Fault) (ts : List Placed) (at : ℕ) : Type 0 where
  pub before : List Placed
  pub placed : Placed
  pub behind : List Placed
  pub splits : ts ≡ before ++ placed ∷ behind
  pub position : placed.at ≡ at
  pub tree : Derivation
  pub more : List Terminal
  pub real : AreTokens more
  pub spells : terminals tree ≡ unrefused before ++ record { token = placed.token; fault = Some fault } ∷ more

-- what tokens are, whose source ends at a position
abbrev pub IsVerdict : List Placed → ℕ → Result Definition LangRefusal → Type 0
IsVerdict ts end (Ok d) = IsRead ts d
IsVerdict ts end (Err (refusal.Unexpected at)) = StopsAt ts at ⊎ ((at ≡ end) × StopsAtEnd ts)
IsVerdict ts end (Err (refusal.TooDeep at)) = Faulty TooDeep ts at
IsVerdict ts end (Err (refusal.NumberTooLarge at)) = Faulty NumberTooLarge ts at
IsVerdict ts end (Err (refusal.ZeroWidth at)) = Faulty ZeroWidth ts at
IsVerdict ts end (Err (refusal.TooLong n)) = ⊥
IsVerdict ts end (Err refusal.OutOfMemory) = ⊥

-- a definition whose canonical text has too many bytes
pub record HasLongText (ts : List Placed) (n : ℕ) : Type 0 where
  pub said : Definition
  pub read : IsRead ts said
  pub long : longest_canonical < length (definition_text said)
  pub size : n ≡ length (definition_text said)

-- what a source of no more than the most bytes is
abbrev pub IsParseResult : List ℕ → Result Definition LangRefusal → Type 0
IsParseResult b (Ok d) = IsRead (tokens b) d × (length (definition_text d) ≤ longest_canonical)
IsParseResult b (Err (refusal.TooLong n)) = HasLongText (tokens b) n
IsParseResult b (Err e) = IsVerdict (tokens b) (length b) (Err e)

-- what a source is: too long, or what its tokens are
abbrev pub IsOutcome : List ℕ → Result Definition LangRefusal → Type 0
IsOutcome b r = ((longest_source < length b) × (r ≡ Err (refusal.TooLong (length b)))) ⊎
    ((length b ≤ longest_source) × IsParseResult b r)

-- the source is this definition
abbrev pub IsAccepted : List ℕ → Definition → Type 0
IsAccepted b d = IsOutcome b (Ok d)

-- an answer, seen by `view`, is one that is due, unless memory ran out
abbrev pub UnlessMemory : {X Y : Type 0} → (X → Y) → Result X LangRefusal →
    (Result Y LangRefusal → Type 0) → Type 0
UnlessMemory view (Ok x) IsDue = IsDue (Ok (view x))
UnlessMemory view (Err refusal.OutOfMemory) IsDue = Unit {0}
UnlessMemory view (Err e) IsDue = IsDue (Err e)
