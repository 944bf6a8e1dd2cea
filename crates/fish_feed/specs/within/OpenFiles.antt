-- A file that is being read, and what a step of that leaves. Feeds are of a type F; left says which bytes one still
-- gives, and faults how often it failed. What private clauses need of it.
use Rattle.std.specs.Prelude.{Option, length}
use Rattle.std.specs.Prelude.{ℕ, ◌≡◌, ◌+◌, ◌≤◌, List, [], ◌++◌, true, false}
use Rattle.fish_feed.specs.Parts.{EndsLine}
use Rattle.fish_feed.specs.declared.part.OpenFile.{OpenFile}
use Rattle.fish_lanes.specs.declared.work.Work.TheVariants as work
use Rattle.fish_lanes.specs.declared.work.Work.{Work}
use Rattle.fish_lines.specs.declared.resuming.Begin.TheVariants.{After}
use Rattle.fish_outside.specs.Content.{Took}
use Rattle.fish_value.specs.declared.field.Form.TheVariants.{Json}

-- whole lines of the bytes that came were cut off
pub record IsCutOff {F : Type 0} (o u : OpenFile F) (w : Work) : Type 0 where
  pub part : List ℕ
  pub json : o.form ≡ Json
  pub line : EndsLine part
  pub cut : o.rest ≡ part ++ u.rest
  pub is : w ≡ work.Ingest o.form o.begin o.name part
  pub form_is : u.form ≡ o.form
  pub begin_is : u.begin ≡ After
  pub name_is : u.name ≡ o.name
  pub feed_is : u.feed ≡ o.feed
  pub failed_is : u.failed ≡ o.failed
  pub lost_is : u.lost ≡ o.lost
  pub room_is : length part + u.room ≡ o.room

-- these bytes came, and are kept after the others
pub record HasReadMore {F : Type 0} (left : F → Option (List ℕ)) (o u : OpenFile F) : Type 0 where
  pub more : List ℕ
  pub took : Took (left o.feed) (left u.feed) more
  pub rest_is : u.rest ≡ o.rest ++ more
  pub form_is : u.form ≡ o.form
  pub begin_is : u.begin ≡ o.begin
  pub name_is : u.name ≡ o.name
  pub room_is : u.room ≡ o.room
  pub whole : (o.lost ≡ false) × (u.lost ≡ false)

-- these bytes came, and are kept after the others, and then some that were lost; none are kept after a loss
pub record ReadsOnFile {F : Type 0} (left : F → Option (List ℕ)) (o u : OpenFile F) : Type 0 where
  pub more : List ℕ
  pub gone : List ℕ
  pub took : Took (left o.feed) (left u.feed) (more ++ gone)
  pub rest_is : u.rest ≡ o.rest ++ more
  pub whole : u.lost ≡ false → (o.lost ≡ false) × (gone ≡ [])
  pub none : o.lost ≡ true → more ≡ []
  pub form_is : u.form ≡ o.form
  pub begin_is : u.begin ≡ o.begin
  pub name_is : u.name ≡ o.name
  pub room_is : u.room ≡ o.room

-- so many bytes came, unless a read failed
abbrev pub HoldsWanted : {F : Type 0} → ℕ → OpenFile F → Type 0
HoldsWanted wanted o = o.failed ≡ false → wanted ≤ length o.rest
