-- The words of a record in flight. What private clauses need of it.
use Rattle.std.specs.Prelude.{ℕ, ◌≡◌, IsTrue}
use Rattle.fish_layout.specs.Body.{body_lines}
use Rattle.fish_layout.specs.declared.parts.BodyParts.{BodyParts}
use Rattle.fish_psf.specs.Records.{is_record}
use Rattle.fish_rule.specs.Keys.{HasKeys}
use Rattle.fish_rule.specs.Registry.{KnowsActive}
use Rattle.fish_rule.specs.declared.view.Epoch.TheVariants.{Confirmed}
use Rattle.fish_rule.specs.declared.view.View.{View}

-- the parts of a record that the pass may store: of its lane, of the version at which it is entered, of this number
-- and lines, with a payload that is a record of its form and the keys that the definitions active at the version
-- give for it, as far as the pass knows
pub record IsStorable (v : View) (number lines : ℕ) (p : BodyParts) : Type 0 where
  pub lane_is : p.lane ≡ v.lane
  pub entered : v.epoch ≡ Confirmed p.version
  pub number_is : p.number ≡ number
  pub lines_is : body_lines p ≡ lines
  pub reads : IsTrue (is_record p.form p.payload)
  pub keys : HasKeys (KnowsActive v.about v.learned) p
