-- A file that is being read, and what a step of that leaves. Feeds are of a type F; left says which bytes one still
-- gives, and faults how often it failed.
use Rattle.std.specs.Prelude.{ℕ, ◌≡◌, ◌≢◌, ◌+◌, ◌<◌, ◌≤◌, ◌⊎◌, List, [], ◌++◌, true, false}
use Rattle.std.specs.Prelude.{Option, Some, IfSome, length, take}
use Rattle.fish_feed.specs.Parts.{EndsLine, HasNoEnd, longest_in_parts, longest_csv_read}
use Rattle.fish_feed.specs.Works.{bytes_in_work}
use Rattle.fish_feed.specs.declared.part.OpenFile.{OpenFile}
use Rattle.fish_feed.specs.declared.part.Part.{Part}
use Rattle.fish_lanes.specs.declared.work.Work.{Work}
use Rattle.fish_lanes.specs.declared.work.Work.TheVariants as work
use Rattle.fish_lines.specs.declared.resuming.Begin.{Begin}
use Rattle.fish_lines.specs.declared.resuming.Begin.TheVariants.{After}
use Rattle.fish_outside.specs.Causes.{Rose}
use Rattle.fish_outside.specs.Content.{Took}
use Rattle.fish_value.specs.Limits.{longest_file}
use Rattle.fish_value.specs.declared.field.Form.{Form}
use Rattle.fish_value.specs.declared.field.Form.TheVariants.{Json}

-- nothing was read of it
pub record IsFileUnread {F : Type 0} (form : Form) (begin : Begin) (name : List ℕ) (feed : F) (o : OpenFile F)
    : Type 0 where
  pub form_is : o.form ≡ form
  pub begin_is : o.begin ≡ begin
  pub name_is : o.name ≡ name
  pub feed_is : o.feed ≡ feed
  pub rest_is : o.rest ≡ []
  pub room_is : o.room ≡ longest_in_parts
  pub whole : o.lost ≡ false

-- a part of it was given
abbrev pub HasPassedHeader : {F : Type 0} → OpenFile F → Type 0
HasPassedHeader o = o.begin ≡ After

-- it holds no more than may be given at once, and a read that failed was counted
pub record CanRead {F : Type 0} (faults : F → ℕ) (o : OpenFile F) : Type 0 where
  pub short : length o.rest ≤ longest_csv_read
  pub failed : o.failed ≡ true → Rose 0 (faults o.feed)

-- a part of it was given, perhaps once more bytes had come
pub record IsFilePart {F : Type 0} (left : F → Option (List ℕ)) (o : OpenFile F) (w : Work) (u : OpenFile F)
    : Type 0 where
  pub part : List ℕ
  pub more : List ℕ
  pub json : o.form ≡ Json
  pub line : EndsLine part
  pub took : Took (left o.feed) (left u.feed) more
  pub cut : o.rest ++ more ≡ part ++ u.rest
  pub is : w ≡ work.Ingest o.form o.begin o.name part
  pub form_is : u.form ≡ o.form
  pub begin_is : u.begin ≡ After
  pub name_is : u.name ≡ o.name
  pub room_is : length part + u.room ≡ o.room
  pub whole : (o.lost ≡ false) × (u.lost ≡ false)

-- no whole line of these bytes may be given: they have none, or too many were given before
abbrev pub IsStuck : Form → ℕ → List ℕ → Type 0
IsStuck form room b = (form ≢ Json) ⊎ (HasNoEnd b ⊎ (room < length b))

-- all that was left of it was given, up to so many bytes
pub record IsRestOf {F : Type 0} (left : F → Option (List ℕ)) (o : OpenFile F) (w : Work) (u : OpenFile F)
    : Type 0 where
  pub bytes : List ℕ
  pub few : length bytes ≤ longest_csv_read
  pub is : w ≡ work.Ingest o.form o.begin o.name bytes
  pub stuck : longest_file < length bytes → IsStuck o.form o.room bytes
  pub whole : o.lost ≡ false
  pub all : IfSome (left u.feed) (λ _. (l : List ℕ) × (left o.feed ≡ Some l)
      × (bytes ≡ take longest_csv_read (o.rest ++ l)))

-- few bytes of it were given: a part, or the rest
pub record GivesPart {F : Type 0} (left : F → Option (List ℕ)) (o : OpenFile F) (p : Part) (u : OpenFile F)
    : Type 0 where
  pub few : bytes_in_work p.work ≤ longest_csv_read
  pub one : p.last ≡ false → IsFilePart left o p.work u
  pub rest : p.last ≡ true → IsRestOf left o p.work u
