-- What a parse answers, token by token. `Language` says what it means; these words are for the clauses
-- of private functions.
use Rattle.std.specs.Prelude.{◌≡◌, Result, Ok, Err}
use Rattle.fish_lang.specs.declared.parse.LangRefusal.{LangRefusal}
use Rattle.fish_lang.specs.declared.parse.LangRefusal.TheVariants as refusal

-- a refusal is the one that is due, unless memory ran out
abbrev pub Refuses : {Y : Type 0} → LangRefusal → Result Y LangRefusal → Type 0
Refuses refusal.OutOfMemory due = Unit {0}
Refuses e due = due ≡ Err e

-- an answer, seen by `view`, is the one that is due, unless memory ran out
abbrev pub Gives : {X Y : Type 0} → (X → Y) → Result X LangRefusal → Result Y LangRefusal → Type 0
Gives view (Ok x) due = due ≡ Ok (view x)
Gives view (Err e) due = Refuses e due
