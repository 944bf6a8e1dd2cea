-- Which pages are held of the older records, and what the calls do to them.
use Rattle.std.specs.Prelude.{ℕ, ◌≡◌, ◌≢◌, ◌-◌, ◌*◌, ◌/◌, ◌%◌, ◌<◌, List, Option, Some, Result}
use Rattle.std.specs.Prelude.{Contains, IfSome, IsErrOf, OnErr, OnOk, nat_eq, drop, if◌then◌else◌}
use Rattle.std.specs.Map.{lookup}
use Rattle.lru.specs.LruCache.{lru_cache, put_entries}
use Rattle.fish_catalog.specs.declared.page_start.PageStart.{PageStart}
use Rattle.fish_disk.specs.declared.disk.Disk.{Ghosts as Disks}
use Rattle.fish_layout.specs.Pages.{page_of}
use Rattle.fish_layout.specs.declared.parts.BodyParts.{BodyParts}
use Rattle.fish_layout.specs.declared.parts.KeyPart.{KeyPart}
use Rattle.fish_cold.specs.Answers.{HasNodeAt}
use Rattle.fish_cold.specs.Caching.{HasDiskCause, IsPageIn, OnlyReads}
use Rattle.fish_cold.specs.Pages.{page_words}
use Rattle.fish_cold.specs.Regions.{Leads}
use Rattle.fish_cold.specs.Starts.{IsStartOf}
use Rattle.fish_cold.specs.declared.cold.Cold.{Cold}
use Rattle.fish_cold.specs.declared.page.Page.{Page}
use Rattle.fish_cold.specs.declared.refusal.ColdRefusal.{ColdRefusal}
use Rattle.fish_cold.specs.declared.refusal.ColdRefusal.TheVariants.{DiskFault}

-- the page that holds the base's line
abbrev pub base_page : Cold → ℕ
base_page cold = page_of cold.base.line

-- the page, if it is held: in the list, or beside it where it holds the base's line
abbrev pub held_in : Cold → ℕ → Option Page
held_in cold page = if nat_eq page (base_page cold) then cold.tail else lookup (nat_eq page) cold.cache.entries

-- the page is held
abbrev pub HoldsPage : Cold → ℕ → Type 0
HoldsPage cold page = (p : Page) × (held_in cold page ≡ Some p)

-- each page that is held is what a file of this content reads
pub record IsReadFrom (content : List ℕ) (cold : Cold) : Type 0 where
  pub cached : (number : ℕ) (page : Page) → Contains cold.cache.entries (number, page)
      → IsPageIn cold.base.line cold.starts content number page
  pub older : (number : ℕ) (page : Page) → Contains cold.cache.entries (number, page) → number < base_page cold
  pub last : (page : Page) → cold.tail ≡ Some page → IsPageIn cold.base.line cold.starts content (base_page cold) page

-- the page was used: it is the first of the list, with the others after it in their order, of which the last goes where
-- there would be 17; the page that holds the base's line is kept beside the list
pub record Uses (number : ℕ) (page : Page) (old new : Cold) : Type 0 where
  pub base : new.base ≡ old.base
  pub starts : new.starts ≡ old.starts
  pub listed : number ≢ base_page old → new.cache ≡ lru_cache (put_entries nat_eq old.cache number page) old.cache.cap
  pub others : number ≢ base_page old → new.tail ≡ old.tail
  pub beside : number ≡ base_page old → (new.cache ≡ old.cache) × (new.tail ≡ Some page)

-- ---- what a call does beside its answer

-- the page is the one that was held, if one was
abbrev pub IsHeld : Cold → ℕ → Page → Type 0
IsHeld cold number page = (p : Page) → held_in cold number ≡ Some p → page ≡ p

-- a record was looked at on a page: the page was used, and the disk isn't touched where it was held before; where
-- nothing is answered nothing changed
pub record LooksAtPage {D T : Type 0} (disks : Disks D) (number : ℕ) (old new : Cold) (disk next : D)
    (result : Result T ColdRefusal) : Type 0 where
  pub used : OnOk result ((page : Page) × IsHeld old number page × Uses number page old new)
  pub refused : OnErr result (new ≡ old)
  pub cached : HoldsPage old number → (next ≡ disk) × ¬ IsErrOf result DiskFault
  pub kept : IfSome (disks.content next) (λ c. IsReadFrom c old → IsReadFrom c new)
  pub outside : OnlyReads disks disk next
  pub cause : HasDiskCause (disks.faults disk) (disks.faults next) result

-- the same, whether a page was looked at or none
pub record ReadsAtMost {D T : Type 0} (disks : Disks D) (old new : Cold) (disk next : D) (result : Result T ColdRefusal)
    : Type 0 where
  pub base : new.base ≡ old.base
  pub starts : new.starts ≡ old.starts
  pub refused : OnErr result (new ≡ old)
  pub kept : IfSome (disks.content next) (λ c. IsReadFrom c old → IsReadFrom c new)
  pub outside : OnlyReads disks disk next
  pub cause : HasDiskCause (disks.faults disk) (disks.faults next) result

-- ---- where an entry is

-- the words of the page that has a place
abbrev pub words_on : Cold → List ℕ → ℕ → List ℕ
words_on cold content place = page_words cold.base.line (place / 131072) content

-- entry j of the record of the region at a line of its page is at the place
abbrev pub HasNodeOn : Cold → List ℕ → ℕ → ℕ → BodyParts → ℕ → KeyPart → Type 0
HasNodeOn cold content place line p j k = HasNodeAt (words_on cold content place) (place % 131072) line p j k

-- the words of a page below the base from the region of a number on
pub record HasRegion (cold : Cold) (content : List ℕ) (number : ℕ) (rest : List ℕ) : Type 0 where
  pub start : PageStart
  pub is_start : IsStartOf cold.starts number start
  pub older : start.line < cold.base.line
  pub line : ℕ
  pub leads : Leads (page_words cold.base.line (page_of start.line) content) (start.line % 32768)
      (number - start.number) line
  pub rest_is : rest ≡ drop (4 * line) (page_words cold.base.line (page_of start.line) content)
