-- What a run of a script did, what it wrote of it, and what it left of the store. `disks` is what the contract of a
-- disk's type tells: what reads give, what a crash may leave now and since a moment, and how many calls there were.
use Rattle.std.specs.Prelude.{ℕ, ◌≡◌, ◌≢◌, ◌+◌, ◌≤◌, List, [], ◌∷◌, ◌++◌, ⊤, Bool, true, false, Option, Some, None}
use Rattle.std.specs.Prelude.{IfSome, IsSome, length, map, slice_get, take}
use Rattle.fish_catalog.specs.Clamps.{clamped}
use Rattle.fish_catalog.specs.declared.commit.Commit.{Commit}
use Rattle.fish_catalog.specs.declared.entry.Entry.{Entry}
use Rattle.fish_disk.specs.declared.disk.Disk.{Ghosts as Disks}
use Rattle.fish_feed.specs.Works.{AreStatementsDone}
use Rattle.fish_image.specs.Stands.{Stands}
use Rattle.fish_outside.specs.Content.{Files, Gained, GainedPart}
use Rattle.fish_recover.specs.Stores.{IsOpened, shape_of}
use Rattle.fish_recover.specs.declared.opened.Opened.{Opened}
use Rattle.fish_report.specs.ReportText.{report_text}
use Rattle.fish_report.specs.declared.item.Item.{Item}
use Rattle.fish_rule.specs.declared.close.Remains.{Remains}
use Rattle.fish_run.specs.Faults.{IsFirstFault}
use Rattle.fish_run.specs.Blocks.{AreAcknowledged, Block, Round, SaysRun, rounds_of, with_cut}
use Rattle.fish_run.specs.Rounds.{AreAll, AreRounds, FollowOn, given_in}
use Rattle.fish_run.specs.Reports.{are_refused, first_item, report_of, whole_report}
use Rattle.fish_run.specs.CommitRows.{KeepsDefinitions}
use Rattle.fish_run.specs.Tables.{AreRenewed, LastTable, rows_over}
use Rattle.fish_run.specs.declared.fault.RunFault.{RunFault}
use Rattle.fish_run.specs.declared.fault.RunFault.TheVariants as fault
use Rattle.fish_script.specs.Laws.{Pairs}
use Rattle.fish_script.specs.declared.script.Block as script
use Rattle.fish_store.specs.Ending.{IsLost as LosesLog, IsShownLog, KeepsCatalog}

-- a block that ran is one of the script: what its lanes were given over its rounds does their statements, with the
-- files that they name, each round does what the one before it left to do and what was given for it, and the last one
-- leaves nothing
pub record IsBlockOf (told : Option Files) (s : script.Block) (b : Block) : Type 0 where
  pub several : b.several ≡ s.several
  pub follow : FollowOn b.rounds
  pub done : Pairs (AreStatementsDone told) s.lanes (given_in b.rounds)
  pub all : AreAll b.rounds

-- these are the first blocks of the script
abbrev pub AreFirst : Option Files → List script.Block → List Block → Type 0
AreFirst told text blocks = Pairs (IsBlockOf told) (take (length blocks) text) blocks

-- these rounds, if any, are the first ones of the block after so many
abbrev pub AreNextOf : Option Files → List script.Block → ℕ → List Round → Type 0
AreNextOf told text many [] = ⊤
AreNextOf told text many (a ∷ rounds) = (s : script.Block) × (slice_get text many ≡ Some s)
    × AreRounds told s.lanes (a ∷ rounds)

-- ---- what the disk has in the end

-- the store was opened of a disk that stood for this log by this commit, since the moment a crash had left nothing
-- else, and the content of the disk is told in the end
pub record StoodFor {D : Type 0} (disks : Disks D) (disk disk' : D) (o : Opened) (c : Commit) (log : List Entry) (t : ℕ)
    : Type 0 where
  pub is : IsOpened (disks.content disk) (disks.images disk) c log o
  pub early : t ≤ disks.moment disk
  pub stood : (i : List ℕ) → disks.since disk t i → Stands c i log
  pub told : IsSome (disks.content disk')

-- all that is told is so of a whole log that begins with the one for which the disk stood, and ends with what is left;
-- what a crash leaves now is a part of it that has the last commit's entries, and no checkpoint that was told has more,
-- and all of it where the run had come to its end, with its lines and the definitions that its report tells, in a store
-- of the same shape; what one may have left since the store was opened is a part of it that has the old log; and each
-- has the definitions of a moment
pub record Keeps (now since : List ℕ → Type 0) (c : Commit) (log : List Entry) (ended : Bool) (rounds : List Round)
    (cut : Option Round) (remains : Remains) : Type 0 where
  pub count : ℕ
  pub acknowledged : AreAcknowledged count (with_cut rounds cut)
  pub shown : IsShownLog now since log count
      (λ w. SaysRun w (length log) (map (clamped c.count) c.rows) rounds cut (length w.log)) remains
  pub all : ended ≡ true → count ≡ length shown.whole.log
  pub catalog : ended ≡ true → (i : List ℕ) → now i → KeepsCatalog (shape_of c) (rows_over c rounds) remains.lines i
  pub definitions : KeepsDefinitions now since c (with_cut rounds cut)

-- the same of crashes where the log couldn't be shown
pub record StillKeeps (now since : List ℕ → Type 0) (c : Commit) (log : List Entry) (rounds : List Round)
    (cut : Option Round) : Type 0 where
  pub count : ℕ
  pub acknowledged : AreAcknowledged count (with_cut rounds cut)
  pub lost : LosesLog now since log count
  pub definitions : KeepsDefinitions now since c (with_cut rounds cut)

-- ---- the end of a run

-- the first item that a run writes of its store
abbrev pub opened_item : Opened → Item
opened_item o = first_item o.made o.count

-- how many entries the whole log has that ends with what is left
abbrev pub entries_of : Remains → ℕ
entries_of remains = remains.base + length remains.log

-- a run that came to its end: each block of the script ran; where a round found the table full, a new one was begun
-- after it, but near the limits of a log; the text of their items, and that the log was closed, was written; refusals
-- of a full log agree, what is left is that of a closed log, and it has its buckets; and the disk keeps all of the log
pub record IsRunWhole {D : Type 0} (disks : Disks D) (disk disk' : D) (o : Opened) (told : Option Files)
    (text : List script.Block) (remains : Remains) (old new : Option (List ℕ)) (refused : Bool) : Type 0 where
  pub blocks : List Block
  pub are : Pairs (IsBlockOf told) text blocks
  pub renewed : AreRenewed o.log.key.number (rounds_of blocks) false false
  pub last : LastTable o remains false (rounds_of blocks) None
  pub written : Gained old new (report_text (whole_report (opened_item o) blocks (entries_of remains)))
  pub refused_is : refused ≡ are_refused blocks
  pub keeps : (c : Commit) (log : List Entry) (t : ℕ) → StoodFor disks disk disk' o c log t
      → Keeps (disks.images disk') (disks.since disk' t) c log true (rounds_of blocks) None remains

-- a first part was written of the report of blocks; or, where the run had come to its end, and they are the whole
-- script, of one that goes on with that
abbrev pub WritesPart : Bool → Item → Option Files → List script.Block → ℕ → Option (List ℕ) → Option (List ℕ)
    → List Block → Type 0
WritesPart false first told text count old new blocks = GainedPart old new (report_text (report_of first blocks))
WritesPart true first told text count old new blocks =
    Pairs (IsBlockOf told) text blocks × GainedPart old new (report_text (whole_report first blocks count))

-- a run that a fault stopped: the first blocks ran, and perhaps the first rounds of one more, in the last of which a
-- lane stopped at the fault, but for one of a file that couldn't be read; what is left is that of a closed log; a first
-- part of the report was written, without the cut block, and all of it unless it couldn't be written or memory ran out;
-- refusals are those of the blocks; and the disk keeps what was committed
pub record IsRunStopped {D : Type 0} (disks : Disks D) (disk disk' : D) (o : Opened) (told : Option Files)
    (text : List script.Block) (remains : Remains) (old new : Option (List ℕ)) (refused : Bool) (why : RunFault)
    : Type 0 where
  pub blocks : List Block
  pub part : List Round
  pub cut : Option Round
  pub fresh : Bool
  pub are : AreFirst told text blocks
  pub next : AreNextOf told text (length blocks) (with_cut part cut)
  pub named : IfSome cut (λ b. IsFirstFault b.lanes why)
  pub renewed : AreRenewed o.log.key.number (with_cut (rounds_of blocks ++ part) cut) true false
  pub last : LastTable o remains fresh (rounds_of blocks ++ part) cut
  pub ended : Bool
  pub written : WritesPart ended (opened_item o) told text (entries_of remains) old new blocks
  pub refused_is : refused ≡ are_refused blocks
  pub exact : why ≢ fault.Output → why ≢ fault.Memory → Gained old new (report_text (report_of (opened_item o) blocks))
  pub input : why ≡ fault.Input → cut ≡ None
  pub keeps : (c : Commit) (log : List Entry) (t : ℕ) → StoodFor disks disk disk' o c log t
      → Keeps (disks.images disk') (disks.since disk' t) c log ended (rounds_of blocks ++ part) cut remains

-- a run whose log couldn't be shown, since memory ran out: the first blocks ran, and perhaps one more, which was cut; a
-- first part of the report of the blocks was written; and the disk keeps what was committed
pub record IsRunLost {D : Type 0} (disks : Disks D) (disk disk' : D) (o : Opened) (told : Option Files)
    (text : List script.Block) (old new : Option (List ℕ)) (refused : Bool) : Type 0 where
  pub blocks : List Block
  pub part : List Round
  pub cut : Option Round
  pub are : AreFirst told text blocks
  pub next : AreNextOf told text (length blocks) (with_cut part cut)
  pub written : GainedPart old new (report_text (report_of (opened_item o) blocks))
  pub refused_is : refused ≡ are_refused blocks
  pub keeps : (c : Commit) (log : List Entry) (t : ℕ) → StoodFor disks disk disk' o c log t
      → StillKeeps (disks.images disk') (disks.since disk' t) c log (rounds_of blocks ++ part) cut
