-- What the arguments of the process are: the name of a store, or no words.
use Rattle.std.specs.Prelude.{◌≡◌, ◌≢◌, ℕ, List, [], ◌∷◌, codes, if◌then◌else◌}
use Rattle.std.specs.Str.{bytes_eq}
use Rattle.std.specs.declared.io.ErrorKind.{ErrorKind}
use Rattle.std.specs.declared.io.ErrorKind.TheVariants.{OutOfMemory}
use Rattle.fish_program.specs.declared.fault.Fault.{Fault}
use Rattle.fish_program.specs.declared.fault.Fault.TheVariants as fault
use Rattle.fish_command.specs.declared.refusal.UsageCause.TheVariants as cause

-- memory ran out where that is the error, and else they are no text, which is no command
pub record IsArgsFault (kind : ErrorKind) (why : Fault) : Type 0 where
  pub memory : kind ≡ OutOfMemory → why ≡ fault.Memory
  pub words : kind ≢ OutOfMemory → why ≡ fault.Usage cause.Words

-- the name of the store that words speak of: the word after `run`, and of other words none
abbrev pub store_name : List (List ℕ) → List ℕ
store_name [] = []
store_name (verb ∷ []) = []
store_name (verb ∷ store ∷ rest) = if bytes_eq verb (codes "run") then store else []
