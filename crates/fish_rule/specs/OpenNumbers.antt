-- Numbers that a pass found unpublished, one after the other, since it loaded the tail: what that says of the records
-- that come to stand there.
use Rattle.std.specs.Prelude.{ℕ, ◌<◌, List}
use Rattle.fish_catalog.specs.declared.entry.Entry.TheVariants as entry
use Rattle.fish_rule.specs.Logs.{IsEntry}
use Rattle.fish_rule.specs.Views.{Among}
use Rattle.fish_rule.specs.ChainFacts.{Always}
use Rattle.fish_rule.specs.declared.view.Opens.{Opens}
use Rattle.fish_rule.specs.declared.view.View.{View}
use Rattle.fish_value.specs.declared.field.Form.{Form}

-- of the first so many numbers each of these is the last that is ever stored by its lane
abbrev pub AreLast : View → ℕ → List ℕ → Type 0
AreLast v count numbers = (m n lane : ℕ) (f g : Form) (p q : List ℕ) → Among n numbers → n < m → m < count
    → Always v (λ k w. IsEntry w m (entry.Stored lane f p) → ¬ IsEntry w n (entry.Stored lane g q))

-- so it is of the numbers that a pass found unpublished since one load of the tail, and of those claimed by then
abbrev pub OpensAreLast : Type 0
OpensAreLast = (v : View) (o : Opens) → Among o v.learned.opens → AreLast v o.count o.numbers
