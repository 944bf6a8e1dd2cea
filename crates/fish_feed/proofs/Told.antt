-- Files that are told, later.
use Rattle.std.proofs.Common.{◌≡◌, Option, Some, None, refl, subst}
use Rattle.std.proofs.lemmas.Option.{same_Some}
use Rattle.std.specs.Prelude.{IfSome}
use Rattle.fish_outside.specs.Content.{Files, SameFiles}

-- what holds of files that were told holds of those that still are
pub told_later : (old new : Option Files) (P : Files → Type 0) → SameFiles old new → IfSome old P → IfSome new P
told_later old None P still h = tt
told_later None (Some files) P still h = absurd (let bad : None ≡ Some files = still in cc)
told_later (Some before) (Some files) P still h = subst P (same_Some before files still) h

pub still_self : (a : Option Files) → SameFiles a a
still_self None = tt
still_self (Some files) = refl
