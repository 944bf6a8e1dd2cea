-- What a counter begins with.
use Rattle.std.specs.Prelude.{ℕ, ◌≡◌, ◌<◌}
use Rattle.std.specs.declared.sync.ledger.Blank.{Blank}

-- a counter of the ledger with this name and so many parts, of which there is one at least, may begin with the blank
pub record IsBlankOf (name parts : ℕ) (blank : Blank) : Type 0 where
  pub name_is : blank.name ≡ name
  pub parts_are : blank.parts ≡ parts
  pub some : 0 < blank.parts
