-- What follows for every list of words.
use Rattle.std.specs.Prelude.{◌≡◌, List, Result}
use Rattle.fish_command.specs.Options.{Word}
use Rattle.fish_command.specs.Request.{IsRequest, Request}
use Rattle.fish_command.specs.Command.{Asked, IsCommand}
use Rattle.fish_command.specs.declared.refusal.UsageCause.{UsageCause}

-- words are a command or are refused with a cause
abbrev pub SomeOutcome : Type 0
SomeOutcome = (words : List Word) → (r : Result Asked UsageCause) × IsCommand words r

-- words are so in one way alone
abbrev pub OneOutcome : Type 0
OneOutcome = (words : List Word) (r s : Result Asked UsageCause) → IsCommand words r → IsCommand words s → r ≡ s

-- words have one reading by the grammar
abbrev pub OneReading : Type 0
OneReading = (words : List Word) (p q : Request) → IsRequest words p → IsRequest words q → p ≡ q
