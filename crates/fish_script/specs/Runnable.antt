-- The statements of a script can be run.
use Rattle.std.specs.Prelude.{◌≡◌, ℕ, ◌<◌, ◌≤◌, List, false, Some, length, slice_get}
use Rattle.fish_lang.specs.Definition.{definition_of}
use Rattle.fish_lang.specs.Language.{IsAccepted}
use Rattle.fish_script.specs.Refusals.{IsScript}
use Rattle.fish_script.specs.Script.{AreFree}
use Rattle.fish_script.specs.declared.script.Block.{Block}
use Rattle.fish_script.specs.declared.script.Statement.{Statement}
use Rattle.fish_script.specs.declared.script.Statement.TheVariants as does

-- a definition is registered under a name of 1 to 32 bytes, and some source is it
abbrev pub IsRunnable : Statement → Type 0
IsRunnable (does.Register name def) = (1 ≤ length name) × (length name ≤ 32) × ((source : List ℕ) × IsAccepted source (definition_of def))
IsRunnable s = Unit {0}

-- so is each statement of a lane
abbrev pub AreRunnable : List Statement → Type 0
AreRunnable ss = (i : ℕ) (s : Statement) → slice_get ss i ≡ Some s → IsRunnable s

-- a block has 1 to 16 lanes of such statements, one where it is a statement by itself, and what the first alone may hold stands in no other
pub record IsRunnableBlock (b : Block) : Type 0 where
  pub some : 1 ≤ length b.lanes
  pub few : length b.lanes ≤ 16
  pub one : b.several ≡ false → length b.lanes ≡ 1
  pub statements : (i : ℕ) (ss : List Statement) → slice_get b.lanes i ≡ Some ss → AreRunnable ss
  pub free : (i : ℕ) (ss : List Statement) → 0 < i → slice_get b.lanes i ≡ Some ss → AreFree ss

-- each block of a script is one
abbrev pub CanRun : List Block → Type 0
CanRun script = (i : ℕ) (b : Block) → slice_get script i ≡ Some b → IsRunnableBlock b

-- that is so of the script that a text is
abbrev pub ScriptsCanRun : Type 0
ScriptsCanRun = (text : List ℕ) (script : List Block) → IsScript text script → CanRun script
