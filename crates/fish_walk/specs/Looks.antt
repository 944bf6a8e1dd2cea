-- What a look tells.
use Rattle.std.specs.Prelude.{ℕ, ◌≡◌, ◌+◌, ◌*◌, ◌<◌, ◌≤◌, ◌⊎◌, zero, suc, List, [], ◌∷◌, ◌++◌, Option, Some, None, ⊤}
use Rattle.fish_rule.specs.LoadSteps.{kind_told}
use Rattle.fish_rule.specs.ChainFacts.{Always}
use Rattle.fish_rule.specs.Parts.{IsEntryWord}
use Rattle.fish_rule.specs.Views.{Among}
use Rattle.fish_rule.specs.World.{high}
use Rattle.fish_rule.specs.declared.view.Found.{Found}
use Rattle.fish_rule.specs.declared.view.Kind.{Kind}
use Rattle.fish_rule.specs.declared.view.Kind.TheVariants as kind
use Rattle.fish_rule.specs.declared.view.Opens.{Opens}
use Rattle.fish_rule.specs.declared.view.Position.{Position}
use Rattle.fish_rule.specs.declared.view.View.{View}
use Rattle.fish_walk.specs.declared.outcome.Look.{Look}
use Rattle.fish_walk.specs.declared.outcome.Look.TheVariants as found

-- what a published number of a kind is found to be
abbrev pub look_of_kind : Kind → Look
look_of_kind kind.Stored = found.Stored
look_of_kind kind.Void = found.Void
look_of_kind kind.Mark = found.Overflow

-- what a directory word tells: 0 that its number isn't published, any other its kind
abbrev pub look_of_word : ℕ → Look
look_of_word zero = found.Unfinished
look_of_word (suc x) = look_of_kind (kind_told (high (suc x)))

-- what is found at a number that is settled
abbrev pub IsEntryLook : Look → Type 0
IsEntryLook r = (r ≡ found.Stored) ⊎ (r ≡ found.Void)

-- an entry stands at the number, in every moment of a view that knows as much: it is published, and no mark
abbrev pub KnowsEntry : View → ℕ → Type 0
KnowsEntry v n = Always v (λ k w. IsEntryWord (w.dir n))

-- so many numbers are claimed where the tail is here
abbrev pub IsTailCount : ℕ → Option Position → Type 0
IsTailCount n None = ⊤
IsTailCount n (Some tail) = tail.number ≡ n

-- between the two views a counter rose by one for the directory word of a number, and by one for
-- each word of the log that was loaded, at most those of the record there
pub record CountsLoads (v u : View) (number old new : ℕ) : Type 0 where
  pub exact : new + v.clock.loads ≡ old + u.clock.loads + 1
  pub few : (f : Found) → Among f v.learned.found → f.number ≡ number → f.kind ≡ kind.Stored
      → new ≤ old + 1 + f.lines * 4

-- a number was found to be of this kind
abbrev pub HasFound : View → ℕ → Kind → Type 0
HasFound v n kind = (f : Found) × Among f v.learned.found × (f.number ≡ n) × (f.kind ≡ kind)

-- what a look told of a number is known
abbrev pub IsLookAt : View → ℕ → Look → Type 0
IsLookAt v n found.Unfinished = ⊤
IsLookAt v n found.Void = HasFound v n kind.Void
IsLookAt v n found.Stored = HasFound v n kind.Stored
IsLookAt v n found.Overflow = HasFound v n kind.Mark

-- of the numbers that the pass found unpublished since it loaded this count, these are some
pub record HasOpens (v : View) (count : ℕ) (numbers : List ℕ) : Type 0 where
  pub last : Opens
  pub before : List Opens
  pub opens : v.learned.opens ≡ last ∷ before
  pub count_is : last.count ≡ count
  pub listed : (n : ℕ) → Among n numbers → Among n last.numbers

-- a number that a look found unpublished joins others
abbrev pub with_look : ℕ → Look → List ℕ → List ℕ
with_look n found.Unfinished numbers = numbers ++ n ∷ []
with_look n found.Void numbers = numbers
with_look n found.Stored numbers = numbers
with_look n found.Overflow numbers = numbers

-- so of the numbers below the count that were found unpublished before, and of this one
abbrev pub KeepsOpens : View → View → ℕ → Look → Type 0
KeepsOpens v u n r = (count : ℕ) (numbers : List ℕ) → HasOpens v count numbers → n < count
    → HasOpens u count (with_look n r numbers)
