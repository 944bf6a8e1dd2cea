-- What holds of the words and the views at every moment, part by part.
use Rattle.std.specs.Prelude.{ℕ, ◌≡◌, ◌≢◌, ◌+◌, ◌-◌, ◌*◌, ◌<◌, ◌≤◌, zero, suc, List, length, slice_index, Option, Some}
use Rattle.std.specs.Prelude.{None, ⊤}
use mathlib.Core.Option.{some}
use Rattle.std.proofs.Math.ListN.{get_elem?}
use Rattle.fish_layout.specs.Cleared.{entry_at}
use Rattle.fish_layout.specs.Header.{keys_of, lines_of}
use Rattle.fish_rule.specs.Regions.{HoldsRegion, IsRecord, code, kind_of}
use Rattle.fish_rule.specs.Views.{Each, Has, HasFlight, IsFlightOf, IsOver}
use Rattle.fish_rule.specs.World.{body, high, last_line, last_number, low, max_lines}
use Rattle.fish_rule.specs.declared.view.Flight.{Flight}
use Rattle.fish_rule.specs.declared.view.Key.{Key}
use Rattle.fish_rule.specs.declared.view.Kind.TheVariants.{Mark, Stored, Void}
use Rattle.fish_rule.specs.declared.view.Position.{Position}
use Rattle.fish_rule.specs.declared.view.Shut.{Shut}
use Rattle.fish_rule.specs.declared.view.View.{View}

-- ---- the key

-- no entry of a table that begins at the line is at the place: it is 0, or that of an older record's entry
abbrev pub IsOlderPlace : ℕ → ℕ → Type 0
IsOlderPlace line p = p ≢ 0 → p < line * 4

-- the head that a bucket has at the start
abbrev pub first_head : Key → ℕ → ℕ
first_head k b = slice_index k.heads.value b

-- a table has at most 512 pages; even 16 claims past its end leave numbers below 2^28 and lines below 2^36; each
-- bucket's head at the start is that of older records
pub record FitsTable (k : Key) : Type 0 where
  pub some_lines : k.line ≤ k.end
  pub few_lines : k.end ≤ k.line + 16777216
  pub few_numbers : k.number + (k.end - k.line) ≤ last_number
  pub low_end : k.end ≤ last_line
  pub some_buckets : 0 < k.buckets
  pub few_buckets : k.buckets ≤ 65536
  pub all_heads : length k.heads.value ≡ k.buckets
  pub older_heads : (b : ℕ) → IsOlderPlace k.line (first_head k b)

-- ---- seats

-- no two passes have one lane, and no lane is above 16
pub record Seats (views : List View) : Type 0 where
  pub apart : (i j : ℕ) (v u : View) (l : ℕ) → get_elem? views i ≡ some v → get_elem? views j ≡ some u
      → Has v.lane v.out l → Has u.lane u.out l → i ≡ j
  pub few : Each (λ v. v.lane ≤ 16) views

-- where no lane is out, the tail is as the control pass's last step left it
abbrev pub RestsAt : ℕ → ℕ → Option Position → Type 0
RestsAt count line None = ⊤
RestsAt count line (Some t) = (t.number ≡ count) × (t.line ≡ line)

-- ---- space

-- the regions of the claimed numbers, each of 1 to 18,625 lines, follow one another up to the tail;
-- the region of n begins at `start n`
pub record Regions (k : Key) (count line : ℕ) (start : ℕ → ℕ) : Type 0 where
  pub some : k.number ≤ count
  pub first : start k.number ≡ k.line
  pub last : start count ≡ line
  pub grows : (n : ℕ) → k.number ≤ n → n < count → start n < start (suc n)
  pub small : (n : ℕ) → k.number ≤ n → n < count → start (suc n) ≤ start n + max_lines

-- the number n is published: its directory word has its line and the kind of its region, whose
-- words hold what that kind asks
pub record IsPublishedRegion (k : Key) (dir log start lane_of : ℕ → ℕ) (n : ℕ) : Type 0 where
  pub kind : high (dir n) ≡ code (kind_of k.end (start n) (start (suc n)))
  pub line : low (dir n) ≡ start n
  pub lined : lines_of (body log (start n) 0) ≤ start (suc n) - start n
  pub holds : HoldsRegion (kind_of k.end (start n) (start (suc n))) (lane_of n) n (start (suc n) - start n)
      (body log (start n))

-- word i of a region is the first of one of the key entries that are linked
abbrev pub IsLinkedWord : ℕ → ℕ → Type 0
IsLinkedWord linked i = (c : ℕ) × (c < linked) × (i ≡ entry_at c)

-- a record in flight whose words are all stored, with so many of its entries linked
pub record IsWholeFlight (k : Key) (log : ℕ → ℕ) (lane : ℕ) (f : Flight) : Type 0 where
  pub kind : kind_of k.end f.line (f.line + f.lines) ≡ Stored
  pub full : length f.words ≡ f.lines * 4
  pub record_of : IsRecord lane f.number f.lines (body log f.line)
  pub upto : f.linked ≤ keys_of (body log f.line 0)

-- a record in flight with a pass of this lane: its region is claimed and its number not published, and it is the lane's
-- last claim; the words stored so far stand in the log, and zeros after them; of a void that is the header alone
pub record InFlight (k : Key) (count : ℕ) (dir log start lane_of : ℕ → ℕ) (lane : ℕ) (f : Flight) : Type 0 where
  pub above : k.number ≤ f.number
  pub below : f.number < count
  pub line : start f.number ≡ f.line
  pub lines : start (suc f.number) ≡ f.line + f.lines
  pub unpublished : dir f.number ≡ 0
  pub owner : lane_of f.number ≡ lane
  pub latest : (n : ℕ) → f.number < n → n < count → lane_of n ≢ lane
  pub live : 1 ≤ lane
  pub short : length f.words ≤ f.lines * 4
  pub written : (i : ℕ) → i < length f.words → ¬ IsLinkedWord f.linked i → log (f.line * 4 + i) ≡ slice_index f.words i
  pub unwritten : (i : ℕ) → length f.words ≤ i → i < f.lines * 4 → log (f.line * 4 + i) ≡ 0
  pub whole : 0 < f.linked → IsWholeFlight k log lane f
  pub header : kind_of k.end f.line (f.line + f.lines) ≡ Void → length f.words ≤ 1

-- the same where there is one
abbrev pub Flies : Key → ℕ → (ℕ → ℕ) → (ℕ → ℕ) → (ℕ → ℕ) → (ℕ → ℕ) → ℕ → Option Flight → Type 0
Flies k count dir log start lane_of lane None = ⊤
Flies k count dir log start lane_of lane (Some f) = InFlight k count dir log start lane_of lane f

-- each claimed number is published, or in flight with exactly one pass; after the tail all words are 0
pub record Space (k : Key) (count line : ℕ) (dir log : ℕ → ℕ) (views : List View) (start lane_of : ℕ → ℕ) : Type 0 where
  pub regions : Regions k count line start
  pub finished : (n : ℕ) → k.number ≤ n → n < count → dir n ≢ 0 → IsPublishedRegion k dir log start lane_of n
  pub flying : (n : ℕ) → k.number ≤ n → n < count → dir n ≡ 0 → HasFlight n views
  pub flights : Each (λ v. Flies k count dir log start lane_of v.lane v.flight) views
  pub alone : (i j : ℕ) (v u : View) (n : ℕ) → get_elem? views i ≡ some v → get_elem? views j ≡ some u
      → IsFlightOf n v.flight → IsFlightOf n u.flight → i ≡ j
  pub dir_below : (n : ℕ) → n < k.number → dir n ≡ 0
  pub dir_beyond : (n : ℕ) → count ≤ n → dir n ≡ 0
  pub log_beyond : (p : ℕ) → line * 4 ≤ p → log p ≡ 0

-- ---- the limit

-- the sum of a quota over the lanes 1 to l
abbrev pub quotas : (ℕ → ℕ) → ℕ → ℕ
quotas quota zero = 0
quotas quota (suc l) = quotas quota l + quota (suc l)

-- a pass may still make a claim that ends past the log's end: it isn't shut and has no such claim in flight
abbrev pub MayOverflow : ℕ → Option Shut → Option Flight → Type 0
MayOverflow end shut flight = (shut ≡ None) × ¬ IsOver end flight

-- the claims that end past the log's end, and the lanes that may still make one, are together at most 16
pub record Limit (k : Key) (count : ℕ) (views : List View) (start quota : ℕ → ℕ) : Type 0 where
  pub first : ℕ
  pub above : k.number ≤ first
  pub within : first ≤ count
  pub fits : start first ≤ k.end
  pub past : (n : ℕ) → first ≤ n → n < count → k.end < start (suc n)
  pub few : quotas quota 16 + (count - first) ≤ 16
  pub may : Each (λ v. (l : ℕ) → Has v.lane v.out l → MayOverflow k.end v.shut v.flight → quota l ≡ 1) views

-- ---- settled numbers

-- a directory word is that of a record or a void
pub record IsEntryWord (word : ℕ) : Type 0 where
  pub published : word ≢ 0
  pub unmarked : high word ≢ code Mark

-- the settled number is at or past the base's; every number of the table below it is published, and no mark
pub record Settled (k : Key) (count settled : ℕ) (dir : ℕ → ℕ) : Type 0 where
  pub from : k.number ≤ settled
  pub within : settled ≤ count
  pub below : (n : ℕ) → k.number ≤ n → n < settled → IsEntryWord (dir n)
