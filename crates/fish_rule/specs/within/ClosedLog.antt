-- What is left of a log that is closed. What private clauses need of it.
use Rattle.std.proofs.Common.{◌⊎◌}
use Rattle.std.proofs.Math.ListN.{get_elem?}
use Rattle.std.specs.Prelude.{Some}
use Rattle.std.specs.Prelude.{ℕ, ◌≡◌, ◌≢◌, ◌+◌, ◌*◌, ◌<◌, ◌≤◌, suc, List, [], ◌∷◌, ◌++◌, length, Bool, true, false}
use Rattle.fish_catalog.specs.declared.page_start.PageStart.{PageStart}
use Rattle.fish_layout.specs.Pages.{page_of}
use Rattle.fish_rule.specs.ClosedLog.{PagesRise}
use Rattle.fish_rule.specs.Parts.{first_head}
use Rattle.fish_rule.specs.Views.{Among}
use Rattle.fish_rule.specs.declared.close.Next.TheVariants as next
use Rattle.fish_rule.specs.declared.close.Next.{Next}
use Rattle.fish_rule.specs.declared.close.ReadLog.{ReadLog}
use Rattle.fish_rule.specs.declared.close.WholeLog.{WholeLog}
use Rattle.fish_rule.specs.declared.view.Found.{Found}
use Rattle.fish_rule.specs.declared.view.Kind.TheVariants.{Mark}
use Rattle.fish_rule.specs.declared.view.Position.{Position}
use Rattle.fish_rule.specs.declared.view.View.{View}
use mathlib.Core.Option.{some}

-- ---- on the way

-- the number is known to be published, and no mark, and its region begins at the line
abbrev pub HasLine : View → ℕ → ℕ → Type 0
HasLine v n line = (f : Found) × Among f v.learned.found × (f.number ≡ n) × (f.kind ≢ Mark) × (f.line ≡ line)

-- the number is known to be a mark that begins at the line
abbrev pub HasMarkAt : View → ℕ → ℕ → Type 0
HasMarkAt v n line = (f : Found) × Among f v.learned.found × (f.number ≡ n) × (f.kind ≡ Mark) × (f.line ≡ line)

-- what was found at a number, and the line at which it begins
abbrev pub IsNextEntry : View → ℕ → Next → Type 0
IsNextEntry v n (next.Entry line) = HasLine v n line
IsNextEntry v n (next.Mark line) = HasMarkAt v n line

-- of a number that was read, one of the starts begins its page
pub record IsEntryCovered (v : View) (starts : List PageStart) (n : ℕ) : Type 0 where
  pub line : ℕ
  pub has : HasLine v n line
  pub start : PageStart
  pub among : Among start starts
  pub page : page_of start.line ≡ page_of line
  pub upto : start.number ≤ n

-- the entries below a number were read, with the first region in each of their pages
pub record IsReadUpTo (v : View) (n : ℕ) (read : ReadLog) : Type 0 where
  pub from : v.about.number ≤ n
  pub many : read.number ≡ n
  pub rise : PagesRise read.starts
  pub sound : (s : PageStart) → Among s read.starts
      → (v.about.number ≤ s.number) × (s.number < n) × HasLine v s.number s.line
  pub covers : (m : ℕ) → v.about.number ≤ m → m < n → IsEntryCovered v read.starts m
  pub paged : (s : PageStart) → Among s read.starts → page_of s.line < read.next_page
  pub last : 0 < read.next_page → (s : PageStart) × Among s read.starts × (suc (page_of s.line) ≡ read.next_page)

-- a number was read, and its region came to the starts where its page had none
pub record HasStart (r : ReadLog) (n line : ℕ) (r' : ReadLog) : Type 0 where
  pub number : r'.number ≡ suc n
  pub lines : r'.lines ≡ r.lines
  pub first : r.next_page ≤ page_of line → (r'.starts ≡ r.starts ++ record { number = n; line = line } ∷ [])
      × (r'.next_page ≡ suc (page_of line))
  pub other : page_of line < r.next_page → (r'.starts ≡ r.starts) × (r'.next_page ≡ r.next_page)

-- what a number is was added, and the log goes on, or ends at a mark
abbrev pub IsEntryAdded : View → ℕ → Bool → ℕ → ReadLog → Type 0
IsEntryAdded v n true lines read = IsReadUpTo v (suc n) read × (read.lines ≡ lines)
IsEntryAdded v n false lines read = IsReadUpTo v n read × HasMarkAt v n read.lines

-- all was read: up to the end, whose line is this one, or up to a mark before it
pub record IsLogRead (v : View) (end line : ℕ) (read : ReadLog) : Type 0 where
  pub number : ℕ
  pub upto : IsReadUpTo v number read
  pub ends : ((number ≡ end) × (read.lines ≡ line)) ⊎ ((number < end) × HasMarkAt v number read.lines)

-- a bucket's head has reached this place, no entry of a record below the number lies above it, and it is the head of
-- the start where it is no place of the table
pub record HasHead (v : View) (settled b x : ℕ) : Type 0 where
  pub top : Among (record { bucket = b; place = x }) v.learned.least_heads
  pub gap : (end : ℕ) × (settled ≤ end)
      × Among (record { bucket = b; end = end; above = v.about.end * 4; below = x }) v.learned.gaps
  pub first : x ≤ v.about.line * 4 → x ≡ first_head v.about b

-- these are the heads of so many buckets
pub record AreSettledHeads (v : View) (settled buckets : ℕ) (heads : List ℕ) : Type 0 where
  pub many : length heads ≡ buckets
  pub each : (b x : ℕ) → get_elem? heads b ≡ some x → HasHead v settled b x

-- all of a log was read, up to its tail: which numbers it has, its heads after these, and its version
pub record IsWholeLog (v : View) (whole : WholeLog) : Type 0 where
  pub tail : Position
  pub rests : v.tail ≡ Some tail
  pub read : IsLogRead v tail.number tail.line whole.read
  pub settled : ℕ
  pub far : whole.read.number ≤ settled
  pub heads : AreSettledHeads v settled v.about.buckets whole.heads
  pub version : whole.version ≡ v.learned.version
