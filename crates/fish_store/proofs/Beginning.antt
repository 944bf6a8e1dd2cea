-- What is asked for before a table begins after one that was closed.
use Rattle.std.proofs.Common.{◌≡◌, ℕ, ◌≤◌, List, [], ◌∷◌, Option, Some, None, map, refl, arith}
use Rattle.fish_catalog.specs.Clamps.{clamped}
use Rattle.fish_catalog.specs.Listing.{listed_of}
use Rattle.fish_catalog.specs.declared.commit.Commit.{Commit}
use Rattle.fish_catalog.specs.declared.entry.Entry.{Entry}
use Rattle.fish_catalog.specs.declared.row.CatRow.{CatRow}
use Rattle.fish_flush.specs.Carrying.{CarriesLog}
use Rattle.fish_flush.specs.declared.flusher.Flusher.{Flusher}
use Rattle.fish_recover.proofs.Beginnings.{committed_kept}
use Rattle.fish_recover.specs.Beginning.{IsFlusherKept}
use Rattle.fish_rule.proofs.laws.NextLog.{may_follow}
use Rattle.fish_rule.specs.Start.{IsShape}
use Rattle.fish_rule.specs.declared.table.Shape.{Shape}
use Rattle.fish_rule.specs.declared.view.View.{View}
use Rattle.fish_store.specs.within.Rolling.{IsClosedWith}

-- a row that is cut is the same definition
listed_cut : (n : ℕ) (row : CatRow) → listed_of (clamped n row) ≡ listed_of row
listed_cut n row = by row.to
  where
    by : (to : Option ℕ) → listed_of (clamped n (record row { to = to })) ≡ listed_of (record row { to = to })
    by None = refl
    by (Some t) = refl

-- so are rows
pub all_cut : (n : ℕ) (rows : List CatRow) → map listed_of (map (clamped n) rows) ≡ map listed_of rows
all_cut n [] = refl
all_cut n (row ∷ rows) = λ i. listed_cut n row i ∷ all_cut n rows i

-- what is carried has the shape of a log
pub carried_shape : (images : List ℕ → Type 0) (f : Flusher) (v : View) (s : Shape) (rows : List CatRow) (c : Commit) (log : List Entry)
    → CarriesLog images f v s rows c log → IsShape s
carried_shape images f v s rows c log k =
    let within = k.rest.committed.is.told.commit.within in
    let some_pages = within.some_pages in
    let few_pages = within.few_pages in
    let some_bits = within.some_bits in
    let few_bits = within.few_bits in
    let pages = k.pages in
    let bits = k.bits in
    record { some_pages = omega arith; few_pages = omega arith; some_bits = omega arith; few_bits = omega arith }

-- and what is kept of it is within the limits of the next table
pub carried_kept : (images : List ℕ → Type 0) (f : Flusher) (v : View) (s : Shape) (rows : List CatRow) (c : Commit) (log : List Entry)
    → CarriesLog images f v s rows c log → IsFlusherKept s f
carried_kept images f v s rows c log k = committed_kept f c k.rest.body k.rest.lines log s k.rest.committed k.bits

-- the version of a closed log is one with which a table may begin
pub version_few : (v : View) (version : ℕ) → IsClosedWith v version → version ≤ 512
version_few v version x = (let few = (may_follow v x.remains x.closed).version in let is = x.is in omega arith)
