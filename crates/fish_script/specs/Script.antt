-- The script that lines are: blocks of lanes of statements.
use Rattle.std.specs.Prelude.{◌≡◌, ℕ, ◌+◌, ◌≤◌, List, [], ◌∷◌, ◌++◌, Bool, true, false, count_by, length}
use Rattle.fish_lang.specs.Definition.{definition_of}
use Rattle.fish_lang.specs.Language.{IsAccepted}
use Rattle.fish_lang.specs.declared.definition.Def.{Def}
use Rattle.fish_script.specs.Limits.{most_feeds, most_lanes}
use Rattle.fish_script.specs.declared.script.Block.{Block}
use Rattle.fish_script.specs.declared.script.Statement.{Statement}
use Rattle.fish_script.specs.declared.script.Statement.TheVariants as does
use Rattle.fish_script.specs.declared.script_line.StatementLine.{StatementLine}
use Rattle.fish_script.specs.declared.script_line.StatementLine.TheVariants as word
use Rattle.fish_script.specs.declared.script_line.ScriptLine.{ScriptLine}
use Rattle.fish_script.specs.declared.script_line.ScriptLine.TheVariants as said

-- the statement is the worded one, with its definition read
abbrev pub ReadsStatement : StatementLine → Statement → Type 0
ReadsStatement (word.Register name source) s =
    (def : Def) × (s ≡ does.Register name def) × IsAccepted source (definition_of def)
ReadsStatement (word.Deregister name) s = s ≡ does.Deregister name
ReadsStatement (word.Ingest form header file) s = s ≡ does.Ingest form header file
ReadsStatement (word.Scan l) s = s ≡ does.Scan l.name l.value l.range.from l.range.to l.range.by
ReadsStatement (word.Explain l) s = s ≡ does.Explain l.name l.value l.range.from l.range.to l.range.by
ReadsStatement word.Checkpoint s = s ≡ does.Checkpoint

-- the statement is that of the line
abbrev pub IsLineRead : ScriptLine → Statement → Type 0
IsLineRead (said.Statement w) s = ReadsStatement w s
IsLineRead l s = ⊥

-- the statements are what the lines say, one a line
abbrev pub AreStatementsRead : List ScriptLine → List Statement → Type 0
AreStatementsRead [] [] = Unit {0}
AreStatementsRead [] (s ∷ ss) = ⊥
AreStatementsRead (w ∷ ws) [] = ⊥
AreStatementsRead (w ∷ ws) (s ∷ ss) = IsLineRead w s × AreStatementsRead ws ss

-- it stores the records of a file
abbrev pub is_feed : Statement → Bool
is_feed (does.Ingest form header file) = true
is_feed (does.Register name def) = false
is_feed (does.Deregister name) = false
is_feed (does.Scan name value from to by) = false
is_feed (does.Explain name value from to by) = false
is_feed does.Checkpoint = false

-- the first lane of a block alone may hold it: it registers, deregisters or makes what is stored last
abbrev pub is_control : Statement → Bool
is_control (does.Register name def) = true
is_control (does.Deregister name) = true
is_control does.Checkpoint = true
is_control (does.Ingest form header file) = false
is_control (does.Scan name value from to by) = false
is_control (does.Explain name value from to by) = false

-- none of the statements is for the first lane alone
abbrev pub AreFree : List Statement → Type 0
AreFree [] = Unit {0}
AreFree (s ∷ ss) = (is_control s ≡ false) × AreFree ss

-- that holds of every lane
abbrev pub AllFree : List (List Statement) → Type 0
AllFree [] = Unit {0}
AllFree (ss ∷ lanes) = AreFree ss × AllFree lanes

-- that holds of every lane but the first
abbrev pub OthersFree : List (List Statement) → Type 0
OthersFree [] = Unit {0}
OthersFree (ss ∷ lanes) = AllFree lanes

-- how many statements of the lanes store a file
abbrev pub feeds_of : List (List Statement) → ℕ
feeds_of [] = 0
feeds_of (ss ∷ lanes) = count_by is_feed ss + feeds_of lanes

-- the lines are those of the lanes: for each one `lane`, and its statements after it
abbrev pub AreLaneLines : List ScriptLine → List (List Statement) → Type 0
AreLaneLines ws [] = ws ≡ []
AreLaneLines ws (ss ∷ lanes) =
    (own : List ScriptLine) × (others : List ScriptLine) × (ws ≡ said.Lane ∷ (own ++ others))
    × AreStatementsRead own ss × AreLaneLines others lanes

-- the lines are `lanes`, those of the lanes, and `end`
pub record IsSeveral (ws : List ScriptLine) (lanes : List (List Statement)) : Type 0 where
  pub inside : List ScriptLine
  pub lines : ws ≡ said.Lanes ∷ (inside ++ said.End ∷ [])
  pub are : AreLaneLines inside lanes
  -- there is one at least, and at most 16
  pub some : 1 ≤ length lanes
  pub few : length lanes ≤ most_lanes
  -- at most 256 statements store a file
  pub few_feeds : feeds_of lanes ≤ most_feeds
  pub free : OthersFree lanes

-- the line is one statement by itself
pub record IsLoneStatement (ws : List ScriptLine) (lanes : List (List Statement)) : Type 0 where
  pub line : ScriptLine
  pub statement : Statement
  pub lines : ws ≡ line ∷ []
  pub read : IsLineRead line statement
  pub one : lanes ≡ (statement ∷ []) ∷ []

-- the lines are those of a block
abbrev pub IsBlock : List ScriptLine → Bool → List (List Statement) → Type 0
IsBlock ws true lanes = IsSeveral ws lanes
IsBlock ws false lanes = IsLoneStatement ws lanes

-- the lines are those of the blocks, one after the other
abbrev pub AreBlocks : List ScriptLine → List Block → Type 0
AreBlocks ws [] = ws ≡ []
AreBlocks ws (b ∷ bs) =
    (own : List ScriptLine) × (others : List ScriptLine) × (ws ≡ own ++ others)
    × IsBlock own b.several b.lanes × AreBlocks others bs
