-- Where a line stands, by what the lines before it say, and what may stand there.
use Rattle.std.specs.Prelude.{◌≡◌, ℕ, ◌+◌, ◌<◌, ◌≤◌, List, [], ◌∷◌, true}
use Rattle.fish_script.specs.Limits.{most_feeds, most_lanes}
use Rattle.fish_script.specs.Script.{ReadsStatement, is_control, is_feed}
use Rattle.fish_script.specs.declared.builder.Position.{Position}
use Rattle.fish_script.specs.declared.builder.Position.TheVariants.{Outside, Inside}
use Rattle.fish_script.specs.declared.script.Statement.{Statement}
use Rattle.fish_script.specs.declared.script_line.StatementLine.{StatementLine}
use Rattle.fish_script.specs.declared.script_line.StatementLine.TheVariants as word
use Rattle.fish_script.specs.declared.script_line.ScriptLine.{ScriptLine}
use Rattle.fish_script.specs.declared.script_line.ScriptLine.TheVariants as said

-- one more where the statement stores a file
abbrev pub with_feed : StatementLine → ℕ → ℕ
with_feed (word.Ingest form header file) feeds = feeds + 1
with_feed w feeds = feeds

-- where the line after one stands: in a block, how many lanes have begun and how many files are stored
abbrev pub position_after : Position → ScriptLine → Position
position_after p said.Lanes = Inside 0 0
position_after p said.End = Outside
position_after Outside said.Lane = Outside
position_after Outside (said.Statement w) = Outside
position_after (Inside lanes feeds) said.Lane = Inside (lanes + 1) feeds
position_after (Inside lanes feeds) (said.Statement w) = Inside lanes (with_feed w feeds)

-- where the line after many stands
abbrev pub position_from : Position → List ScriptLine → Position
position_from p [] = p
position_from p (w ∷ ws) = position_from (position_after p w) ws

-- where a line stands that has these before it
abbrev pub position_of : List ScriptLine → Position
position_of ws = position_from Outside ws

-- the line can't stand there: `lane` and `end` outside of a block, `lanes` inside, and before a block's first
-- `lane` all but that
abbrev pub IsMisplaced : Position → ScriptLine → Type 0
IsMisplaced Outside said.Lanes = ⊥
IsMisplaced Outside said.Lane = Unit {0}
IsMisplaced Outside said.End = Unit {0}
IsMisplaced Outside (said.Statement w) = ⊥
IsMisplaced (Inside lanes feeds) said.Lanes = Unit {0}
IsMisplaced (Inside lanes feeds) said.Lane = ⊥
IsMisplaced (Inside lanes feeds) said.End = lanes ≡ 0
IsMisplaced (Inside lanes feeds) (said.Statement w) = lanes ≡ 0

-- the statement keeps the limits there
abbrev pub Fits : Position → Statement → Type 0
Fits Outside s = Unit {0}
Fits (Inside lanes feeds) s = (is_control s ≡ true → lanes ≤ 1) × (is_feed s ≡ true → feeds < most_feeds)

-- a `lane` keeps the limits there
abbrev pub FitsLane : Position → Type 0
FitsLane Outside = Unit {0}
FitsLane (Inside lanes feeds) = lanes < most_lanes

-- the line, which can stand there, keeps the limits and has a definition where it is to have one
abbrev pub IsInOrder : Position → ScriptLine → Type 0
IsInOrder p said.Lanes = Unit {0}
IsInOrder p said.End = Unit {0}
IsInOrder p said.Lane = FitsLane p
IsInOrder p (said.Statement w) = (s : Statement) × ReadsStatement w s × Fits p s

-- the line is in order there
abbrev pub IsPlaced : Position → ScriptLine → Type 0
IsPlaced p l = (¬ IsMisplaced p l) × IsInOrder p l

-- each of the lines is in order
abbrev pub AllStand : Position → List ScriptLine → Type 0
AllStand p [] = Unit {0}
AllStand p (w ∷ ws) = IsPlaced p w × AllStand (position_after p w) ws
