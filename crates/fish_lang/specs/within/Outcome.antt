-- What a parse answers, token by token. `Language` says what it means; these words are for the clauses of private
-- functions. What private clauses need of it.
use Rattle.std.specs.Prelude.{ℕ, nat_lt, List, [], ◌∷◌, Option, Some, None, Result, Ok, Err, length, if◌then◌else◌}
use Rattle.fish_lang.specs.Canonical.{definition_text}
use Rattle.fish_lang.specs.Definition.{Definition}
use Rattle.fish_lang.specs.Limits.{longest_source, longest_canonical}
use Rattle.fish_lang.specs.within.Machine.{State, start}
use Rattle.fish_lang.specs.within.Moves.{advance, fault_at, finish}
use Rattle.fish_lang.specs.Token.{tokens}
use Rattle.fish_lang.specs.declared.fault.Fault.TheVariants.{TooDeep, NumberTooLarge, ZeroWidth}
use Rattle.fish_lang.specs.declared.fault.Fault.{Fault}
use Rattle.fish_lang.specs.declared.parse.LangRefusal.TheVariants as refusal
use Rattle.fish_lang.specs.declared.parse.LangRefusal.{LangRefusal}
use Rattle.fish_lang.specs.declared.token.Placed.{Placed}

abbrev pub refusal_at : Fault → ℕ → LangRefusal
refusal_at TooDeep at = refusal.TooDeep at
refusal_at NumberTooLarge at = refusal.NumberTooLarge at
refusal_at ZeroWidth at = refusal.ZeroWidth at

abbrev pub unless_fault : {Y : Type 0} → Option Fault → Y → ℕ → Result Y LangRefusal
unless_fault None next at = Ok next
unless_fault (Some f) next at = Err (refusal_at f at)

abbrev pub unless_unexpected : {Y : Type 0} → Option Y → Option Fault → ℕ → Result Y LangRefusal
unless_unexpected None fault at = Err (refusal.Unexpected at)
unless_unexpected (Some next) fault at = unless_fault fault next at

-- one token
abbrev pub turn : State → Placed → Result State LangRefusal
turn state placed = unless_unexpected (advance state placed.token) (fault_at state placed.token) placed.at

abbrev pub and_then : {X Y : Type 0} → Result X LangRefusal → (X → Result Y LangRefusal)
    → Result Y LangRefusal
and_then (Ok x) f = f x
and_then (Err e) f = Err e

-- the end of the tokens
abbrev pub outcome_at : Option Definition → ℕ → Result Definition LangRefusal
outcome_at (Some d) end = Ok d
outcome_at None end = Err (refusal.Unexpected end)

-- all tokens from a state on
abbrev pub run : State → List Placed → ℕ → Result Definition LangRefusal
run state [] end = outcome_at (finish state) end
run state (placed ∷ more) end = and_then (turn state placed) (λ next. run next more end)

-- a definition, unless its canonical text is too long
abbrev pub unless_long : Definition → Result Definition LangRefusal
unless_long d = if nat_lt longest_canonical (length (definition_text d)) then Err
    (refusal.TooLong (length (definition_text d))) else Ok d

-- a source
unfoldable pub outcome : List ℕ → Result Definition LangRefusal
outcome b = if nat_lt longest_source (length b) then Err (refusal.TooLong (length b)) else and_then
    (run start (tokens b) (length b)) unless_long
