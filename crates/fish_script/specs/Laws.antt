-- What follows for every text.
use Rattle.std.specs.Prelude.{◌≡◌, ◌≢◌, ℕ, List, [], ◌∷◌}
use Rattle.fish_lang.specs.Definition.{definition_of}
use Rattle.fish_lang.specs.declared.definition.Def.{Def}
use Rattle.fish_script.specs.Refusals.{IsRefusal, IsScript}
use Rattle.fish_script.specs.declared.refusal.ScriptRefusal.{ScriptRefusal}
use Rattle.fish_script.specs.declared.refusal.ScriptRefusal.TheVariants.{OutOfMemory}
use Rattle.fish_script.specs.declared.script.Block.{Block}
use Rattle.fish_script.specs.declared.script.Statement.{Statement}
use Rattle.fish_script.specs.declared.script.Statement.TheVariants as does

-- no script is refused, unless memory runs out
abbrev pub NoScriptIsRefused : Type 0
NoScriptIsRefused = (text : List ℕ) (script : List Block) (e : ScriptRefusal) → IsScript text script → IsRefusal text e
    → e ≡ OutOfMemory

-- a text is refused for one cause
abbrev pub OneRefusal : Type 0
OneRefusal = (text : List ℕ) (one other : ScriptRefusal) → IsRefusal text one → IsRefusal text other → one ≢ OutOfMemory
    → other ≢ OutOfMemory → one ≡ other

-- the two are equal, but for where a definition lies in memory
abbrev pub IsAlike : Statement → Statement → Type 0
IsAlike (does.Register name def) t =
    (other : Def) × (t ≡ does.Register name other) × (definition_of def ≡ definition_of other)
IsAlike (does.Deregister name) t = t ≡ does.Deregister name
IsAlike (does.Ingest form header file) t = t ≡ does.Ingest form header file
IsAlike (does.Scan name value from to by) t = t ≡ does.Scan name value from to by
IsAlike (does.Explain name value from to by) t = t ≡ does.Explain name value from to by
IsAlike does.Checkpoint t = t ≡ does.Checkpoint

-- the two lists are as long, and R holds of each two elements at one position
abbrev pub Pairs : {A B : Type 0} → (A → B → Type 0) → List A → List B → Type 0
Pairs R [] [] = Unit {0}
Pairs R [] (y ∷ ys) = ⊥
Pairs R (x ∷ xs) [] = ⊥
Pairs R (x ∷ xs) (y ∷ ys) = R x y × Pairs R xs ys

-- the blocks have lanes with such statements
abbrev pub IsBlockAlike : Block → Block → Type 0
IsBlockAlike a b = (a.several ≡ b.several) × Pairs (Pairs IsAlike) a.lanes b.lanes

-- a text is one script
abbrev pub OneScript : Type 0
OneScript = (text : List ℕ) (one other : List Block) → IsScript text one → IsScript text other
    → Pairs IsBlockAlike one other
