-- What a text is: a script, or refused at its first line with a fault.
use Rattle.std.specs.Prelude.{◌≡◌, ℕ, suc, ◌<◌, ◌≤◌, ◌⊎◌, List, [], ◌∷◌, ◌++◌, true, false, Some, None, Err, IsUtf8}
use Rattle.std.specs.Prelude.{length}
use Rattle.fish_lang.specs.Language.{IsOutcome}
use Rattle.fish_lang.specs.declared.parse.LangRefusal.{LangRefusal}
use Rattle.fish_script.specs.Limits.{longest_script, most_feeds, most_lanes}
use Rattle.fish_script.specs.Lines.{script_lines}
use Rattle.fish_script.specs.Positions.{AllStand, IsMisplaced, position_of}
use Rattle.fish_script.specs.Script.{AreBlocks, ReadsStatement, is_control, is_feed}
use Rattle.fish_script.specs.ScriptLine.{script_line_of}
use Rattle.fish_script.specs.Words.{is_skipped}
use Rattle.fish_script.specs.declared.builder.Position.{Position}
use Rattle.fish_script.specs.declared.builder.Position.TheVariants.{Outside, Inside}
use Rattle.fish_script.specs.declared.refusal.ScriptRefusal.{ScriptRefusal}
use Rattle.fish_script.specs.declared.refusal.ScriptRefusal.TheVariants as refusal
use Rattle.fish_script.specs.declared.script.Block.{Block}
use Rattle.fish_script.specs.declared.script.Statement.{Statement}
use Rattle.fish_script.specs.declared.script_line.StatementLine.{StatementLine}
use Rattle.fish_script.specs.declared.script_line.StatementLine.TheVariants as word
use Rattle.fish_script.specs.declared.script_line.ScriptLine.{ScriptLine}
use Rattle.fish_script.specs.declared.script_line.ScriptLine.TheVariants as said

-- ---- what lines say

-- a line says this: nothing where it is skipped
abbrev pub Says : List ℕ → List ScriptLine → Type 0
Says b ws = ((is_skipped b ≡ true) × (ws ≡ []))
    ⊎ ((l : ScriptLine) × (is_skipped b ≡ false) × IsUtf8 b × (script_line_of b ≡ Some l) × (ws ≡ l ∷ []))

-- lines say this together
abbrev pub AllSay : List (List ℕ) → List ScriptLine → Type 0
AllSay [] ws = ws ≡ []
AllSay (b ∷ bs) ws = (own : List ScriptLine) × (others : List ScriptLine)
    × Says b own × AllSay bs others × (ws ≡ own ++ others)

-- ---- faults of one line

-- its text is refused as a definition for this
abbrev pub HasFault : StatementLine → LangRefusal → Type 0
HasFault (word.Register name source) why = IsOutcome source (Err why)
HasFault w why = ⊥

-- the statement is for the first lane alone, and this is another one
abbrev pub IsLate : Position → Statement → Type 0
IsLate Outside s = ⊥
IsLate (Inside lanes feeds) s = (1 < lanes) × (is_control s ≡ true)

-- the statement stores one file more than a block may
abbrev pub IsFeedTooMany : Position → Statement → Type 0
IsFeedTooMany Outside s = ⊥
IsFeedTooMany (Inside lanes feeds) s = (most_feeds ≤ feeds) × (is_feed s ≡ true)

-- there is one lane more than a block may have
abbrev pub IsLaneTooMany : Position → ScriptLine → Type 0
IsLaneTooMany (Inside lanes feeds) said.Lane = most_lanes ≤ lanes
IsLaneTooMany p l = ⊥

-- the line n, which says this at this position, is refused for this
abbrev pub IsFault : Position → ScriptLine → ℕ → ScriptRefusal → Type 0
IsFault p l n (refusal.Unexpected line) = (line ≡ n) × IsMisplaced p l
IsFault p (said.Statement w) n (refusal.Definition line why) =
    (line ≡ n) × (¬ IsMisplaced p (said.Statement w)) × HasFault w why
IsFault p (said.Statement w) n (refusal.ControlInLane line) =
    (line ≡ n) × (¬ IsMisplaced p (said.Statement w)) × (s : Statement) × ReadsStatement w s × IsLate p s
IsFault p (said.Statement w) n (refusal.TooManyFeeds line) =
    (line ≡ n) × (¬ IsMisplaced p (said.Statement w)) × (s : Statement) × ReadsStatement w s × (¬ IsLate p s)
    × IsFeedTooMany p s
IsFault p l n (refusal.TooManyLanes line) = (line ≡ n) × IsLaneTooMany p l
IsFault p l n e = ⊥

-- the line n, of these bytes at this position, is refused for this
abbrev pub IsLineFault : Position → List ℕ → ℕ → ScriptRefusal → Type 0
IsLineFault p b n (refusal.NotText line) = (line ≡ n) × (is_skipped b ≡ false) × ¬ IsUtf8 b
IsLineFault p b n e = (is_skipped b ≡ false) × IsUtf8 b
    × (((script_line_of b ≡ None) × (e ≡ refusal.Unexpected n))
    ⊎ ((l : ScriptLine) × (script_line_of b ≡ Some l) × IsFault p l n e))

-- ---- the whole text

-- the first line that is refused is refused for this
pub record StopsAtLine (text : List ℕ) (e : ScriptRefusal) : Type 0 where
  pub before : List (List ℕ)
  pub line : List ℕ
  pub behind : List (List ℕ)
  pub splits : script_lines text ≡ before ++ line ∷ behind
  -- what the lines before it say
  pub ahead : List ScriptLine
  pub say : AllSay before ahead
  pub stand : AllStand Outside ahead
  pub fault : IsLineFault (position_of ahead) line (suc (length before)) e

-- each line is in order, and the text ends within a block
pub record StopsPastLines (text : List ℕ) (e : ScriptRefusal) : Type 0 where
  pub ws : List ScriptLine
  pub say : AllSay (script_lines text) ws
  pub stand : AllStand Outside ws
  pub lanes : ℕ
  pub feeds : ℕ
  pub within : position_of ws ≡ Inside lanes feeds
  pub fault : e ≡ refusal.Unexpected (suc (length (script_lines text)))

-- the text is this script
pub record IsScript (text : List ℕ) (script : List Block) : Type 0 where
  pub size : length text ≤ longest_script
  pub ws : List ScriptLine
  pub say : AllSay (script_lines text) ws
  pub blocks : AreBlocks ws script

-- the text is refused for this; memory may run out at any text
abbrev pub IsRefusal : List ℕ → ScriptRefusal → Type 0
IsRefusal text refusal.OutOfMemory = Unit {0}
IsRefusal text (refusal.TooLong n) = (longest_script < length text) × (n ≡ length text)
IsRefusal text e = (length text ≤ longest_script) × (StopsAtLine text e ⊎ StopsPastLines text e)
