-- The whole log of a store, over the tables that hold it one after the other, and what it may be in the end.
use Rattle.std.specs.Prelude.{ℕ, ◌≡◌, ◌⊎◌, ◌+◌, ◌≤◌, List, [], ◌++◌, length, map}
use Rattle.std.proofs.Math.Decide.{dec_lt}
use Rattle.fish_catalog.specs.Listing.{listed_of}
use Rattle.fish_catalog.specs.declared.entry.Entry.{Entry}
use Rattle.fish_catalog.specs.declared.listed.Listed.{Listed}
use Rattle.fish_layout.specs.Cleared.{choose}
use Rattle.fish_rule.specs.ClosedLog.{IsClosed}
use Rattle.fish_rule.specs.Logs.{AreKnown, Learns}
use Rattle.fish_rule.specs.Registry.{definitions_at}
use Rattle.fish_rule.specs.Views.{Among}
use Rattle.fish_rule.specs.declared.close.Remains.{Remains}
use Rattle.fish_rule.specs.declared.view.Own.{Own}
use Rattle.fish_rule.specs.declared.view.View.{View}

-- ---- the whole

-- a log from number 0 on, and the definitions at each version
pub record Whole : Type 0 where
  pub log : List Entry
  pub rows : ℕ → List Listed

-- what is said of the whole
abbrev pub WholeFact : Type 1
WholeFact = Whole → Type 0

-- the second list begins with the first
abbrev pub IsPrefix : {A : Type 0} → List A → List A → Type 0
IsPrefix {A} xs ys = (rest : List A) × (ys ≡ xs ++ rest)

-- ---- the end

-- the whole begins with what stood before a table and what is left of the table; its definitions are those from before,
-- up to the version with which the table began, and from there on those of the table's words
pub record IsBehind (past : Whole) (u : View) (remains : Remains) (closed : IsClosed u remains) (w : Whole)
    : Type 0 where
  pub starts : IsPrefix (past.log ++ remains.log) w.log
  pub before : (n : ℕ) → n ≤ u.about.version → w.rows n ≡ past.rows n
  pub since : (n : ℕ) → u.about.version ≤ n → n ≤ remains.version
      → w.rows n ≡ definitions_at u.about closed.moment.registry n

-- all that stands when a table is closed
abbrev pub behind_table : Whole → (u : View) (remains : Remains) → IsClosed u remains → Whole
behind_table past u remains c = record {
  log = past.log ++ remains.log;
  rows = λ n. choose (dec_lt u.about.version n) (definitions_at u.about c.moment.registry n) (past.rows n);
}

-- the table may yet be closed for a pass that knows as much, and the whole begins with what it leaves
pub record MayHold (past : Whole) (v : View) (w : Whole) : Type 0 where
  pub last : View
  pub remains : Remains
  pub base : last.about.number ≡ length past.log
  pub learns : Learns v last
  pub closed : IsClosed last remains
  pub behind : IsBehind past last remains closed w

-- the second view knows what the first knew, and what came to its own records since has a number that the first
-- hadn't counted
pub record Later (v u : View) : Type 0 where
  pub learns : Learns v u
  pub gained : (o : Own) → Among o u.own → Among o v.own ⊎ (v.learned.count ≤ o.number)

-- the table may yet be closed by the control pass in a later state, with no lane out, and the whole begins with what it
-- leaves
pub record MayEnd (past : Whole) (v : View) (w : Whole) : Type 0 where
  pub last : View
  pub remains : Remains
  pub base : last.about.number ≡ length past.log
  pub control : last.lane ≡ 1
  pub all : last.out ≡ []
  pub later : Later v last
  pub closed : IsClosed last remains
  pub behind : IsBehind past last remains closed w

-- ---- what holds in the end

-- the claim holds of each whole that begins with what a pass may leave that knows as much
abbrev pub MustHold : Whole → View → WholeFact → Type 0
MustHold past v Q = (w : Whole) → MayHold past v w → Q w

-- it holds of each that begins with what the control pass may leave in a later state
abbrev pub WillHold : Whole → View → WholeFact → Type 0
WillHold past v Q = (w : Whole) → MayEnd past v w → Q w

-- what may be in the end of the second state might have been in the end of the first
abbrev pub Narrows : Whole → View → Whole → View → Type 0
Narrows past v past' u = (w : Whole) → MayEnd past' u w → MayEnd past v w

-- ---- states

-- a table may come after what was before it: it begins past the last entry, with the definitions of the last version
pub record FitsPast (past : Whole) (v : View) : Type 0 where
  pub base : v.about.number ≡ length past.log
  pub joins : past.rows v.about.version ≡ map listed_of v.about.rows.value

-- the list is a part of the log for good: what stood before the table, and entries after it that the pass was told,
-- begin with it
pub record IsKnown (past : Whole) (v : View) (log : List Entry) : Type 0 where
  pub entries : List Entry
  pub told : AreKnown v (length past.log) entries
  pub front : IsPrefix log (past.log ++ entries)

-- one state goes on to another, in the same table or in a later one
pub record GoesOn (past : Whole) (v : View) (next : Whole) (u : View) : Type 0 where
  pub fits : FitsPast next u
  pub narrows : Narrows past v next u
  pub grows : IsPrefix past.log next.log
  pub known : (log : List Entry) → IsKnown past v log → IsKnown next u log
