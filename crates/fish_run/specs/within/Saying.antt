-- What is taken away of what a lane said.
use Rattle.std.specs.Prelude.{◌≡◌, List, ◌++◌, Bool, Option, None, Some, true}
use Rattle.fish_report.specs.declared.item.Item.{Item}
use Rattle.fish_run.specs.Joins.{first_joined, said_after}

-- the last item, where it is of a file that may go on; else none
abbrev pub TakesPart : Bool → List Item → List Item → Option Item → Type 0
TakesPart fresh old new None = (bound items : List Item)
    → said_after fresh true old bound items ≡ new ++ (bound ++ items)
TakesPart fresh old new (Some x) = (bound items : List Item)
    → said_after fresh true old bound items ≡ new ++ (bound ++ first_joined fresh x items)
