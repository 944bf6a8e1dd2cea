-- What the items of the first lane that tell of a registration which waits have after them: a look at a lane of their
-- own, that found it at an older version.
use Rattle.std.specs.Prelude.{ℕ, ◌<◌, suc, List, [], ◌∷◌, ⊤}
use Rattle.fish_lanes.specs.Registering.{Registry, after}
use Rattle.fish_report.specs.declared.item.DeregisterCause.TheVariants as deregister
use Rattle.fish_report.specs.declared.item.Item.{Item}
use Rattle.fish_report.specs.declared.item.Item.TheVariants as item
use Rattle.fish_report.specs.declared.item.RegisterCause.TheVariants as register
use Rattle.fish_rule.specs.Clocks.{HasLoaded, IsLater}
use Rattle.fish_rule.specs.declared.view.Clock.{Clock}
use Rattle.fish_rule.specs.declared.view.Noted.TheVariants.{Epoch}

-- between two clocks the epoch word of a lane was loaded, and told that its pass was entered at a version older than
-- this
pub record HasFoundOlder (c d : Clock) (version : ℕ) : Type 0 where
  pub lane : ℕ
  pub older : ℕ
  pub loaded : HasLoaded c d (Epoch lane) (suc older)
  pub less : older < version

-- what an item has after it between two clocks, where the registry is this: the lane and version of a registration that
-- waits are those that were loaded, and a change that was refused since one waits comes after such a load too
abbrev pub IsFoundBy : Clock → Clock → Registry → Item → Type 0
IsFoundBy c d r (item.Rolling name id def lane older) = HasLoaded c d (Epoch lane) (suc older)
IsFoundBy c d r (item.RegisterRefused name (register.Rolling id)) = HasFoundOlder c d r.version
IsFoundBy c d r (item.DeregisterRefused name (deregister.Rolling id)) = HasFoundOlder c d r.version
IsFoundBy c d r x = ⊤

-- the items have that one after the other, each by loads of its own
abbrev pub AreFound : Clock → Clock → Registry → List Item → Type 0
AreFound c d r [] = IsLater c d
AreFound c d r (x ∷ items) = (m : Clock) × IsLater c m × IsFoundBy c m r x × AreFound m d (after r x) items
