-- What a checkpoint asks for is there at first and stays: laws.
use Rattle.std.specs.Prelude.{ℕ, ◌≡◌, ◌≤◌, List, [], map}
use Rattle.fish_catalog.specs.Clamps.{clamped}
use Rattle.fish_catalog.specs.Closing.{with_to}
use Rattle.fish_catalog.specs.PageStarts.{page_after}
use Rattle.fish_catalog.specs.Rows.{IsActiveNamed}
use Rattle.fish_catalog.specs.declared.commit.Commit.{Commit}
use Rattle.fish_catalog.specs.declared.entry.Entry.{Entry}
use Rattle.fish_catalog.specs.declared.row.CatRow.{CatRow}
use Rattle.fish_flush.specs.Carrying.{CarriesLog}
use Rattle.fish_flush.specs.Kept.{IsAtRest, first_commit}
use Rattle.fish_flush.specs.Rows.{HaveGrown, HoldsRows}
use Rattle.fish_flush.specs.declared.flusher.Flusher.{Flusher}
use Rattle.fish_image.specs.Log.{Agrees}
use Rattle.fish_image.specs.Reached.{Reached}
use Rattle.fish_lang.specs.declared.definition.Def.{Def}
use Rattle.fish_registry.specs.Changing.{Changes}
use Rattle.fish_registry.specs.Knowing.{Knows}
use Rattle.fish_registry.specs.Refusing.{HasBegunChange, PollSays}
use Rattle.fish_registry.specs.declared.outcome.Poll.{Poll}
use Rattle.fish_registry.specs.declared.registrar.Registrar.{Registrar}
use Rattle.fish_rule.specs.Logs.{Learns}
use Rattle.fish_rule.specs.Table.{first_view}
use Rattle.fish_rule.specs.declared.table.Shape.{Shape}
use Rattle.fish_rule.specs.declared.view.Key.{Key}
use Rattle.fish_rule.specs.declared.view.View.{View}

-- ---- what is carried

-- a store that was made carries the first view of an empty log that begins at number 0 and line 0, whatever rows it has
abbrev pub FirstCarries : (List ℕ → Type 0) → Type 0
FirstCarries images = (f : Flusher) (s : Shape) (k : Key) (rows : List CatRow) → IsAtRest images f (first_commit s) []
    → k.number ≡ 0 → k.line ≡ 0 → CarriesLog images f (first_view k) s rows (first_commit s) []

-- what is carried stays so, whatever the pass learns, while the rows go on
abbrev pub CarriesOn : (List ℕ → Type 0) → Type 0
CarriesOn images = (f : Flusher) (v u : View) (s : Shape) (old new : List CatRow) (c : Commit) (log : List Entry)
    → CarriesLog images f v s old c log → Learns v u → HaveGrown c.count c.rows new → CarriesLog images f u s new c log

-- ---- rows of the catalogue

-- the rows with which a log begins are those that its first pass knows
abbrev pub FirstHolds : Type 0
FirstHolds = (k : Key) → HoldsRows (first_view k) k.rows.value

-- the rows that a registrar keeps are those that its pass knows
abbrev pub KnownAreHeld : Type 0
KnownAreHeld = (v : View) (r : Registrar) → Knows v r → HoldsRows v r.catalog

-- they stay so, whatever else the pass does
abbrev pub HoldsOn : Type 0
HoldsOn = (v u : View) (rows : List CatRow) → u.lane ≡ v.lane → u.rows ≡ v.rows → u.control_words ≡ v.control_words
    → HoldsRows v rows → HoldsRows u rows

-- ---- how rows go on, from those of a commit of so many entries

-- a registration that begins keeps them going on
abbrev pub GrownBegins : Type 0
GrownBegins = (n : ℕ) (old : List CatRow) (v u : View) (r s : Registrar) (name : List ℕ) (def : Def) (id : ℕ)
    → HaveGrown n old r.catalog → HasBegunChange v r name def u s id → HaveGrown n old s.catalog

-- so does a look at the lanes, by a pass that has counted those entries
abbrev pub GrownPolls : Type 0
GrownPolls = (n : ℕ) (old : List CatRow) (v u : View) (r s : Registrar) (answer : Poll)
    → HaveGrown n old r.catalog → n ≤ v.learned.count → Changes v u → PollSays v r u s answer
    → HaveGrown n old s.catalog

-- so does an end, wherever it is
abbrev pub GrownEnds : Type 0
GrownEnds = (n : ℕ) (old : List CatRow) (r s : Registrar) (name : List ℕ) (id to : ℕ)
    → HaveGrown n old r.catalog → IsActiveNamed r.catalog name id → s.catalog ≡ with_to r.catalog id to
    → HaveGrown n old s.catalog

-- and so does a cut of their boundaries to a count that is no less
abbrev pub GrownClamps : Type 0
GrownClamps = (n count : ℕ) (old rows : List CatRow) → HaveGrown n old rows → n ≤ count
    → HaveGrown n old (map (clamped count) rows)

-- ---- page starts

-- where words were read so far, the first page in which no region begins is the one after that of the last page start
abbrev pub PagesFollowStarts : Type 0
PagesFollowStarts = (c : Commit) (words : List ℕ) (n : ℕ) (s : Reached) → Agrees c words n s
    → s.page ≡ page_after s.starts
