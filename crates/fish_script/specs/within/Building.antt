-- A script while its lines are read.
use Rattle.std.specs.Prelude.{◌≡◌, ℕ, zero, suc, ◌+◌, ◌≤◌, List, [], ◌∷◌, ◌++◌, false, count_by, length, if◌then◌else◌}
use Rattle.fish_script.specs.Limits.{most_feeds, most_lanes}
use Rattle.fish_script.specs.Lines.{script_lines}
use Rattle.fish_script.specs.Positions.{AllStand, position_of}
use Rattle.fish_script.specs.Refusals.{AllSay, HasFault, IsFeedTooMany, IsLate, Says}
use Rattle.fish_script.specs.Script.{AreBlocks, AreLaneLines, AreStatementsRead, OthersFree, feeds_of, is_feed}
use Rattle.fish_script.specs.declared.builder.ScriptBuilder.{ScriptBuilder}
use Rattle.fish_script.specs.declared.builder.Position.{Position}
use Rattle.fish_script.specs.declared.builder.Position.TheVariants.{Outside, Inside}
use Rattle.fish_script.specs.declared.refusal.ScriptRefusal.{ScriptRefusal}
use Rattle.fish_script.specs.declared.refusal.ScriptRefusal.TheVariants as refusal
use Rattle.fish_script.specs.declared.script.Block.{Block}
use Rattle.fish_script.specs.declared.script.Statement.{Statement}
use Rattle.fish_script.specs.declared.script_line.StatementLine.{StatementLine}
use Rattle.fish_script.specs.declared.script_line.ScriptLine.{ScriptLine}
use Rattle.fish_script.specs.declared.script_line.ScriptLine.TheVariants as said

-- the lines after `lanes` are those of the lanes that have ended, and of the one that has begun
pub record IsBegun (ws : List ScriptLine) (more feeds : ℕ) (lanes : List (List Statement)) (lane : List Statement)
    : Type 0 where
  pub ended : List ScriptLine
  pub own : List ScriptLine
  pub lines : ws ≡ ended ++ said.Lane ∷ own
  pub are : AreLaneLines ended lanes
  pub read : AreStatementsRead own lane
  pub count : more ≡ length lanes
  pub few : suc more ≤ most_lanes
  pub files : feeds ≡ feeds_of lanes + count_by is_feed lane
  pub few_feeds : feeds ≤ most_feeds
  pub free : OthersFree (lanes ++ lane ∷ [])

-- the lines after `lanes` are those of an open block
abbrev pub IsBlockOpen : List ScriptLine → ℕ → ℕ → List (List Statement) → List Statement → Type 0
IsBlockOpen ws zero feeds lanes lane = (ws ≡ []) × (feeds ≡ 0) × (lanes ≡ []) × (lane ≡ [])
IsBlockOpen ws (suc more) feeds lanes lane = IsBegun ws more feeds lanes lane

-- the lines are those of the blocks, and of the open one
abbrev pub IsScriptWritten : List ScriptLine → Position → List Block → List (List Statement) → List Statement → Type 0
IsScriptWritten ws Outside blocks lanes lane = AreBlocks ws blocks × (lanes ≡ []) × (lane ≡ [])
IsScriptWritten ws (Inside begun feeds) blocks lanes lane = (front : List ScriptLine) × (inside : List ScriptLine)
    × (ws ≡ front ++ said.Lanes ∷ inside) × AreBlocks front blocks × IsBlockOpen inside begun feeds lanes lane

-- the builder is that of these lines, which are all in order
pub record HasBuilt (ws : List ScriptLine) (d : ScriptBuilder) : Type 0 where
  pub position : position_of ws ≡ d.position
  pub stand : AllStand Outside ws
  pub written : IsScriptWritten ws d.position d.blocks d.lanes d.lane

-- one line more
abbrev pub Takes : ScriptLine → ScriptBuilder → ScriptBuilder → Type 0
Takes w old new = (ws : List ScriptLine) → HasBuilt ws old → HasBuilt (ws ++ w ∷ []) new

-- one line more, which may be skipped
abbrev pub TakesScriptLine : List ℕ → ScriptBuilder → ScriptBuilder → Type 0
TakesScriptLine b old new = (ws : List ScriptLine) → HasBuilt ws old
    → (own : List ScriptLine) × Says b own × HasBuilt (ws ++ own) new

-- the line is refused for this, or memory ran out
abbrev pub UnlessOutOfMemory : (ScriptRefusal → Type 0) → ScriptRefusal → Type 0
UnlessOutOfMemory P refusal.OutOfMemory = Unit {0}
UnlessOutOfMemory P e = P e

-- the statement came after the others
abbrev pub Pushes : Position → Statement → ScriptBuilder → ScriptBuilder → Type 0
Pushes Outside s old new =
    new ≡ record old { blocks = old.blocks ++ record { several = false; lanes = (s ∷ []) ∷ [] } ∷ [] }
Pushes (Inside lanes feeds) s old new =
    new ≡ record old { lane = old.lane ++ s ∷ []; position = Inside lanes (if is_feed s then feeds + 1 else feeds) }

-- the statement passes a limit there
abbrev pub IsPast : Position → Statement → ℕ → ScriptRefusal → Type 0
IsPast p s n (refusal.ControlInLane line) = (line ≡ n) × IsLate p s
IsPast p s n (refusal.TooManyFeeds line) = (line ≡ n) × (¬ IsLate p s) × IsFeedTooMany p s
IsPast p s n e = ⊥

-- it is in a block
abbrev pub IsInside : Position → Type 0
IsInside Outside = ⊥
IsInside (Inside lanes feeds) = Unit {0}

-- it is in a block, before its first lane
abbrev pub IsInFront : Position → Type 0
IsInFront Outside = ⊥
IsInFront (Inside lanes feeds) = lanes ≡ 0

-- the line is refused since its text is no definition
abbrev pub IsNoDefinition : StatementLine → ℕ → ScriptRefusal → Type 0
IsNoDefinition w n (refusal.Definition line why) = (line ≡ n) × HasFault w why
IsNoDefinition w n e = ⊥

-- so many lines of the text were read, and what is left
pub record IsSoFar (text rest : List ℕ) (number : ℕ) (d : ScriptBuilder) : Type 0 where
  pub before : List (List ℕ)
  pub splits : script_lines text ≡ before ++ script_lines rest
  pub count : length before ≡ number
  pub ws : List ScriptLine
  pub say : AllSay before ws
  pub builder : HasBuilt ws d
