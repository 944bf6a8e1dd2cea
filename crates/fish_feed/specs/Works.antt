-- What the statements of a script have a lane do, over files that are told.
use Rattle.std.specs.Prelude.{ℕ, ◌≡◌, ◌≢◌, ◌+◌, List, [], ◌∷◌, ◌++◌, length, Option, Some, IfSome, ⊤}
use Rattle.fish_feed.specs.Parts.{IsFileRead}
use Rattle.fish_lang.specs.Definition.{definition_of}
use Rattle.fish_lang.specs.declared.definition.Def.{Def}
use Rattle.fish_lanes.specs.declared.work.Work.{Work}
use Rattle.fish_lanes.specs.declared.work.Work.TheVariants as work
use Rattle.fish_lines.specs.declared.resuming.Begin.{Begin}
use Rattle.fish_lines.specs.declared.resuming.Begin.TheVariants.{After, Start}
use Rattle.fish_outside.specs.Content.{Files}
use Rattle.fish_scan.specs.declared.ask.Ask.{Ask}
use Rattle.fish_scan.specs.declared.ask.How.{How}
use Rattle.fish_scan.specs.declared.ask.How.TheVariants as how
use Rattle.fish_script.specs.declared.script.By.{By}
use Rattle.fish_script.specs.declared.script.By.TheVariants as by
use Rattle.fish_script.specs.declared.script.Statement.{Statement}
use Rattle.fish_script.specs.declared.script.Statement.TheVariants as does
use Rattle.fish_value.specs.declared.field.Form.{Form}
use Rattle.fish_value.specs.declared.value.Value.{Value}

-- ---- lists side by side

-- the three lists are as long, and R holds of each three elements at one position
abbrev pub Triples : {A B C : Type 0} → (A → B → C → Type 0) → List A → List B → List C → Type 0
Triples R [] [] [] = Unit {0}
Triples R (x ∷ xs) (y ∷ ys) (z ∷ zs) = R x y z × Triples R xs ys zs
Triples R xs ys zs = ⊥

-- ---- statements

-- how a scan is to go
abbrev pub how_of : By → How
how_of by.Auto = how.Auto
how_of by.Index = how.Index
how_of by.Full = how.Full

-- what is asked
abbrev pub ask_of : List ℕ → Value → Option ℕ → Option ℕ → By → Ask
ask_of name value from to way = record { name = name; value = value; from = from; to = to; how = how_of way }

-- a statement without a file has a lane do this
abbrev pub IsWorkOf : Statement → Work → Type 0
IsWorkOf (does.Register name def) w =
    (other : Def) × (w ≡ work.Register name other) × (definition_of other ≡ definition_of def)
IsWorkOf (does.Deregister name) w = w ≡ work.Deregister name
IsWorkOf (does.Ingest form header file) w = ⊥
IsWorkOf (does.Scan name value from to way) w = w ≡ work.Scan (ask_of name value from to way)
IsWorkOf (does.Explain name value from to way) w = w ≡ work.Explain (ask_of name value from to way)
IsWorkOf does.Checkpoint w = w ≡ work.Checkpoint

-- these works do a statement: they are its file, perhaps in parts, or it is one without a file
abbrev pub IsDone : Option Files → Statement → List Work → Type 0
IsDone told (does.Ingest form header name) ws =
    (b : List ℕ) × IsFileRead form (Start header) name b ws × IfSome told (λ files. files name ≡ Some b)
IsDone told s ws = (w : Work) × (ws ≡ w ∷ []) × IsWorkOf s w

-- they do these statements, one after the other
abbrev pub AreStatementsDone : Option Files → List Statement → List Work → Type 0
AreStatementsDone told [] ws = ws ≡ []
AreStatementsDone told (s ∷ ss) ws = (now then : List Work) × (ws ≡ now ++ then) × IsDone told s now
    × AreStatementsDone told ss then

-- they are the first ones of works that do
abbrev pub AreFirstOf : Option Files → List Statement → List Work → Type 0
AreFirstOf told ss ws = (more : List Work) × AreStatementsDone told ss (ws ++ more)

-- ---- works that are given at once

-- the work stores no file
abbrev pub StoresNone : Work → Type 0
StoresNone w = (form : Form) (begin : Begin) (name file : List ℕ) → w ≢ work.Ingest form begin name file

-- how many bytes of a file it stores, and works do
abbrev pub bytes_in_work : Work → ℕ
bytes_in_work (work.Ingest form begin name file) = length file
bytes_in_work w = 0

abbrev pub bytes_in_works : List Work → ℕ
bytes_in_works [] = 0
bytes_in_works (w ∷ ws) = bytes_in_work w + bytes_in_works ws

-- the work is no later part of a file
abbrev pub IsAnew : Work → Type 0
IsAnew w = (form : Form) (name file : List ℕ) → w ≢ work.Ingest form After name file

abbrev pub AreAnew : List Work → Type 0
AreAnew [] = ⊤
AreAnew (w ∷ ws) = IsAnew w × AreAnew ws

-- of these works the first alone may be one
abbrev pub AreAnewAfterFirst : List Work → Type 0
AreAnewAfterFirst [] = ⊤
AreAnewAfterFirst (w ∷ ws) = AreAnew ws
