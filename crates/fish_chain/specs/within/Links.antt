-- When a key entry of the record in flight may be linked, and what the pass knows afterwards. What private clauses need
-- of it.
use Rattle.std.specs.Prelude.{ℕ, ◌≡◌, ◌<◌, List, Option, Some, None}
use Rattle.fish_chain.specs.Links.{CanLink, Changed, IsLinked}
use Rattle.fish_rule.specs.ChainSteps.{HasNode, own_place}
use Rattle.fish_rule.specs.declared.view.Flight.{Flight}
use Rattle.fish_rule.specs.declared.view.View.{View}

-- no entry more is, and one of the bucket is known to be linked at a higher place
pub record IsLinkBelow (v : View) (f : Flight) (bucket place : ℕ) (u : View) : Type 0 where
  pub words : List ℕ
  pub changed : Changed v f words f.linked u
  pub node : HasNode u bucket place
  pub above : own_place f < place

-- the next entry of f is to be linked at a place, below a linked entry of the bucket
pub record CanLinkBelow (v : View) (f : Flight) (bucket above place : ℕ) : Type 0 where
  pub can : CanLink v f f.linked bucket
  pub at : place ≡ own_place f
  pub node : HasNode v bucket above
  pub over : place < above

-- the entry is linked, or is below the place that was answered
abbrev pub Tried : View → Flight → ℕ → Option ℕ → View → Type 0
Tried v f bucket None u = IsLinked v f bucket u
Tried v f bucket (Some place) u = IsLinkBelow v f bucket place u
