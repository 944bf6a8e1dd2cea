-- What is left of a log that is closed.
use Rattle.std.specs.Prelude.{ℕ, ◌≡◌, ◌+◌, ◌<◌, ◌≤◌, List, [], ◌∷◌, length}
use Rattle.std.specs.Prelude.{Option, Some, ⊤}
use mathlib.Core.Option.{some}
use Rattle.std.proofs.Math.ListN.{get_elem?}
use Rattle.fish_catalog.specs.declared.listed.Listed.{Listed}
use Rattle.fish_catalog.specs.declared.page_start.PageStart.{PageStart}
use Rattle.fish_layout.specs.Pages.{page_of}
use Rattle.fish_rule.specs.Facts.{Facts, Owns}
use Rattle.fish_rule.specs.Logs.{IsLog, Learns}
use Rattle.fish_rule.specs.Parts.{RestsAt}
use Rattle.fish_rule.specs.Registry.{version_in}
use Rattle.fish_rule.specs.Rule.{Rule}
use Rattle.fish_rule.specs.Views.{AllOf, Among}
use Rattle.fish_rule.specs.World.{World, high, low}
use Rattle.fish_rule.specs.declared.close.Remains.{Remains}
use Rattle.fish_rule.specs.declared.view.Key.{Key}
use Rattle.fish_rule.specs.declared.view.Learned.{Learned}
use Rattle.fish_rule.specs.declared.view.Own.{Own}
use Rattle.fish_rule.specs.declared.view.Position.{Position}
use Rattle.fish_rule.specs.declared.view.View.{View}

-- ---- page starts

-- the pages of page starts rise
abbrev pub PagesRise : List PageStart → Type 0
PagesRise [] = ⊤
PagesRise (s ∷ starts) = AllOf (λ t. page_of s.line < page_of t.line) starts × PagesRise starts

-- of the numbers from a base on and below an end, whose regions begin at lines, the first one in each page
pub record ArePageStarts (begins : ℕ → ℕ → Type 0) (base end : ℕ) (starts : List PageStart) : Type 0 where
  pub rise : PagesRise starts
  pub sound : (s : PageStart) → Among s starts → (base ≤ s.number) × (s.number < end) × begins s.number s.line
  pub first : (n line : ℕ) → base ≤ n → n < end → begins n line
      → (s : PageStart) × Among s starts × (page_of s.line ≡ page_of line) × (s.number ≤ n)

-- ---- the closed log

-- what is left is that of a moment that meets the rule: its log, its heads and version, where the log ends, and its
-- page starts; these own numbers are exact, and all of these facts hold; a pass there has a view that is later, of the
-- same lanes, own numbers and definitions, and nothing was claimed since the tail was here
pub record IsClosedAt (k : Key) (is_later : View → Type 0) (lane : ℕ) (out : List ℕ) (own : List Own)
    (rows : List Listed)
    (tail : Option Position) (learned : Learned) (remains : Remains) : Type 0 where
  pub moment : World
  pub rule : Rule k moment
  pub log : IsLog k moment remains.log
  pub base : remains.base ≡ k.number
  pub lines : remains.lines ≡ rule.start (k.number + length remains.log)
  pub many_heads : length remains.heads ≡ k.buckets
  pub heads : (b x : ℕ) → get_elem? remains.heads b ≡ some x → x ≡ moment.head b
  pub version : remains.version ≡ version_in moment.registry
  pub starts : ArePageStarts (λ n line. rule.start n ≡ line) k.number (k.number + length remains.log) remains.starts
  pub seat : ℕ
  pub last : View
  pub at : get_elem? moment.views seat ≡ some last
  pub later : is_later last
  pub lane_is : last.lane ≡ lane
  pub out_is : last.out ≡ out
  pub own_is : last.own ≡ own
  pub rows_is : last.rows ≡ rows
  pub owns : Owns k moment.count moment.dir rule.lane_of lane out own
  pub rests : RestsAt moment.count moment.line tail
  pub facts : Facts k moment.count moment.dir moment.log rule.start learned

-- the same of all that a view knows
abbrev pub IsClosed : View → Remains → Type 0
IsClosed v remains = IsClosedAt v.about (Learns v) v.lane v.out v.own v.rows v.tail v.learned remains

-- ---- on the way

-- the control pass read on: it has its lanes and own numbers, and nothing was claimed since the tail was as it left it
pub record ReadsOn (v u : View) : Type 0 where
  pub learns : Learns v u
  pub frame : u ≡ record v { epoch = u.epoch; tail = u.tail; learned = u.learned; clock = u.clock }
  pub found : ℕ
  pub tail : u.tail ≡ Some (record { number = high found; line = low found })
  pub rests : RestsAt (high found) (low found) v.tail

-- the control pass that could not close the log read on, and is as it was but for what it learned, its clock and the
-- tail that it found: as far entered, with its lanes and own numbers, and shut by what shut it
pub record StaysOpen (v u : View) : Type 0 where
  pub on : ReadsOn v u
  pub frame : u ≡ record v { tail = u.tail; learned = u.learned; clock = u.clock }
