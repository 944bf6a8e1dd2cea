-- What was selected from the parts of a file so far. Feeds are of a type F; left says which bytes one still gives, and
-- at_first which the file's gave before its first part.
use Rattle.std.specs.Prelude.{ℕ, ◌≡◌, ◌+◌, ◌≤◌, List, ◌++◌, length, Option, Some, IfSome}
use Rattle.fish_feed.specs.Parts.{longest_in_parts}
use Rattle.fish_feed.specs.declared.part.OpenFile.{OpenFile}
use Rattle.fish_lang.specs.Definition.{definition_of}
use Rattle.fish_lines.specs.File.{outcomes}
use Rattle.fish_lines.specs.Resuming.{outcomes_from}
use Rattle.fish_lines.specs.declared.resuming.Begin.TheVariants.{Start}
use Rattle.fish_program.specs.Answer.{PassesLimits}
use Rattle.fish_select.specs.Selection.{HasFoundRows}
use Rattle.fish_select.specs.declared.found.Found.{Found}
use Rattle.fish_command.specs.declared.command.Select.{Select}

-- so much of the file was read, and this was found in it; what it gives from there on is what it gives more
pub record HasSelected {F : Type 0} (left : F → Option (List ℕ)) (at_first : Option (List ℕ)) (s : Select)
    (o : OpenFile F) (found : Found) : Type 0 where
  pub before : List ℕ
  pub os : List (Option (List ℕ))
  pub form_is : o.form ≡ s.form
  pub room_is : length before + o.room ≡ longest_in_parts
  pub found_is : HasFoundRows (definition_of s.def) s.value s.form os found
  pub few : found.count + found.refused ≤ length before
  pub goes_on : (more : List ℕ)
      → outcomes_from s.form (Start s.header) (before ++ more) ≡ os ++ outcomes_from s.form o.begin more
  pub file : IfSome (left o.feed) (λ l. at_first ≡ Some (before ++ (o.rest ++ l)))

-- where the file is still told, this holds of its bytes
abbrev pub OfFile : {F : Type 0} → (F → Option (List ℕ)) → Option (List ℕ) → OpenFile F → (List ℕ → Type 0) → Type 0
OfFile left at_first o P = IfSome (left o.feed) (λ _. (b : List ℕ) × (at_first ≡ Some b) × P b)

-- this was found in all of it
abbrev pub IsSelected : {F : Type 0} → (F → Option (List ℕ)) → Option (List ℕ) → Select → OpenFile F → Found → Type 0
IsSelected left at_first s o found =
    OfFile left at_first o (λ b. HasFoundRows (definition_of s.def) s.value s.form (outcomes s.form s.header b) found)

-- it is too long to select from
abbrev pub IsPassed : {F : Type 0} → (F → Option (List ℕ)) → Option (List ℕ) → Select → OpenFile F → Type 0
IsPassed left at_first s o = OfFile left at_first o (PassesLimits s.form s.header)
