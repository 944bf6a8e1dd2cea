-- What holds of each pass's knowledge at every moment: its own numbers, what it learned, and the claim that
-- shut it.
use Rattle.std.specs.Prelude.{ℕ, ◌≡◌, ◌≢◌, ◌+◌, ◌-◌, ◌*◌, ◌<◌, ◌≤◌, suc, List, Option, Some, None, ⊤}
use Rattle.fish_layout.specs.Cleared.{body_of}
use Rattle.fish_rule.specs.Regions.{code}
use Rattle.fish_rule.specs.Views.{AllOf, Among, Has}
use Rattle.fish_rule.specs.Gaps.{IsGap, IsLabel}
use Rattle.fish_rule.specs.World.{body, high}
use Rattle.fish_rule.specs.declared.view.Found.{Found}
use Rattle.fish_rule.specs.declared.view.Key.{Key}
use Rattle.fish_rule.specs.declared.view.Kind.TheVariants.{Mark, Stored}
use Rattle.fish_rule.specs.declared.view.Known.{Known}
use Rattle.fish_rule.specs.declared.view.Learned.{Learned}
use Rattle.fish_rule.specs.declared.view.Opens.{Opens}
use Rattle.fish_rule.specs.declared.view.Own.{Own}
use Rattle.fish_rule.specs.declared.view.Recorded.{Recorded}
use Rattle.fish_rule.specs.declared.view.Shut.{Shut}

-- ---- own numbers

-- the number n is published, and a record that lane l claimed
pub record IsStoredBy (k : Key) (count : ℕ) (dir lane_of : ℕ → ℕ) (l n : ℕ) : Type 0 where
  pub above : k.number ≤ n
  pub below : n < count
  pub stored : high (dir n) ≡ code Stored
  pub lane : lane_of n ≡ l

-- a pass's own numbers are exactly the published records of the lanes that it has
pub record Owns (k : Key) (count : ℕ) (dir lane_of : ℕ → ℕ) (lane : ℕ) (out : List ℕ) (own : List Own) : Type 0 where
  pub sound : (o : Own) → Among o own → Has lane out o.lane × IsStoredBy k count dir lane_of o.lane o.number
  pub complete : (o : Own) → Has lane out o.lane → IsStoredBy k count dir lane_of o.lane o.number → Among o own

-- ---- facts

-- a number that was found published is, with that kind and region
pub record IsFound (k : Key) (count : ℕ) (dir start : ℕ → ℕ) (f : Found) : Type 0 where
  pub above : k.number ≤ f.number
  pub below : f.number < count
  pub kind : high (dir f.number) ≡ code f.kind
  pub line : start f.number ≡ f.line
  pub lines : start (suc f.number) ≡ f.line + f.lines

-- a word that was read of a published region stands there
pub record IsFactKnown (k : Key) (count : ℕ) (dir log start : ℕ → ℕ) (x : Known) : Type 0 where
  pub number : ℕ
  pub offset : ℕ
  pub above : k.number ≤ number
  pub below : number < count
  pub published : dir number ≢ 0
  pub inside : offset < (start (suc number) - start number) * 4
  pub place : x.place ≡ start number * 4 + offset
  pub word : body log (start number) offset ≡ x.value

-- the words that were stored for a published record are its words
pub record IsRecorded (k : Key) (count : ℕ) (dir log start : ℕ → ℕ) (r : Recorded) : Type 0 where
  pub above : k.number ≤ r.number
  pub below : r.number < count
  pub stored : high (dir r.number) ≡ code Stored
  pub words : body log (start r.number) ≡ body_of r.words

-- all that a pass has learned is so
pub record Facts (k : Key) (count : ℕ) (dir log start : ℕ → ℕ) (l : Learned) : Type 0 where
  pub counted : l.count ≤ count
  pub found : AllOf (IsFound k count dir start) l.found
  pub known : AllOf (IsFactKnown k count dir log start) l.known
  pub records : AllOf (IsRecorded k count dir log start) l.records
  pub gaps : AllOf (IsGap k count dir log start) l.gaps
  pub labels : AllOf (IsLabel k count dir log start) l.labels

-- these numbers were found unpublished since the tail was at a count: below it each was the last that its lane claimed
pub record AreOpens (k : Key) (count : ℕ) (dir lane_of : ℕ → ℕ) (o : Opens) : Type 0 where
  pub within : o.count ≤ count
  pub below : (n : ℕ) → Among n o.numbers → n < o.count
  pub latest : (m n : ℕ) → Among n o.numbers → n < m → m < o.count → lane_of m ≢ lane_of n

-- the claim that shut a pass is a published mark
pub record IsShut (k : Key) (count : ℕ) (dir start : ℕ → ℕ) (s : Shut) : Type 0 where
  pub number : ℕ
  pub end : s.end ≡ k.end
  pub past : k.end < s.line + s.lines
  pub mark : IsFound k count dir start (record { number = number; kind = Mark; line = s.line; lines = s.lines })

-- the same where there is one
abbrev pub ShutOk : Key → ℕ → (ℕ → ℕ) → (ℕ → ℕ) → Option Shut → Type 0
ShutOk k count dir start None = ⊤
ShutOk k count dir start (Some s) = IsShut k count dir start s
