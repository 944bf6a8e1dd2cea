-- What a registrar keeps of the definitions is what its pass knows of the log's words. What private clauses need of it.
use Rattle.std.specs.Prelude.{◌≡◌}
use Rattle.fish_registry.specs.Knowing.{Knows}
use Rattle.fish_registry.specs.declared.registrar.Registrar.{Registrar}
use Rattle.fish_rule.specs.Logs.{Learns}
use Rattle.fish_rule.specs.declared.view.View.{View}

-- what a registrar keeps stays what its pass knows, whatever else that pass does: its lane, definitions, boundaries and
-- the registration that waits are the same, and it has learned no less
abbrev pub KnowsOn : Type 0
KnowsOn = (v u : View) (r : Registrar) → u.lane ≡ v.lane → u.rows ≡ v.rows → u.control_words ≡ v.control_words
    → u.round ≡ v.round
    → Learns v u → Knows v r → Knows u r
