-- Lines of the log on their way to the disk: what was copied to memory, and what of it is written.
use Rattle.std.specs.Prelude.{ℕ, ◌≡◌, ◌≢◌, ◌+◌, ◌-◌, ◌*◌, ◌<◌, ◌≤◌, List, [], ◌∷◌, ◌++◌, length, take}
use Rattle.std.specs.Vec.{vec_capacity, vec_len}
use Rattle.fish_catalog.specs.declared.commit.Commit.{Commit}
use Rattle.fish_catalog.specs.declared.entry.Entry.{Entry}
use Rattle.fish_flush.specs.within.Linking.{AreSpelled}
use Rattle.fish_flush.specs.Reading.{IsLineAt}
use Rattle.fish_flush.specs.within.Reading.{IsReadTo}
use Rattle.fish_flush.specs.Rows.{HoldsRows}
use Rattle.fish_flush.specs.declared.batch.Batch.{Batch}
use Rattle.fish_flush.specs.declared.flusher.Flusher.{Flusher}
use Rattle.fish_image.specs.Stands.{words_in}
use Rattle.fish_layout.specs.Pages.{page_of}
use Rattle.fish_rule.specs.Logs.{AreKnown, HasWords, KnowsAs}
use Rattle.fish_rule.specs.Views.{Among}
use Rattle.fish_rule.specs.declared.view.Found.{Found}
use Rattle.fish_rule.specs.declared.view.Kind.TheVariants.{Mark}
use Rattle.fish_rule.specs.declared.view.View.{View}

-- ---- memory

-- the words of the largest region
abbrev pub region_words : ℕ
region_words = 74500

-- the bytes of a page, and of the largest region after it
abbrev pub buffer_bytes : ℕ
buffer_bytes = 1644576

-- there is memory for the bytes of a page and of a region more, for the words of a region, and for the starts of the
-- pages up to the end: of those after the line's, and of its own where it has none yet
pub record HasBatchRoom (b : Batch) : Type 0 where
  pub bytes : length b.bytes.items ≡ buffer_bytes
  pub words : length b.words.items ≡ region_words
  pub later : vec_len b.starts + (page_of b.end - page_of b.line) ≤ vec_capacity b.starts
  pub own : b.page ≤ page_of b.line → vec_len b.starts + (page_of b.end + 1 - page_of b.line) ≤ vec_capacity b.starts

-- ---- regions

-- the first words are those of the region of a number, which the pass found, with the previous nodes that the heads
-- gave; and the heads after are those with its key entries
pub record IsCopied (v : View) (n : ℕ) (heads heads' : List ℕ) (size : ℕ) (words : List ℕ) : Type 0 where
  pub read : List ℕ
  pub found : Found
  pub number : found.number ≡ n
  pub plain : found.kind ≢ Mark
  pub among : Among found v.learned.found
  pub has : HasWords v found read
  pub size_is : size ≡ length read
  pub within : size ≤ length words
  pub spelled : AreSpelled found.line read heads heads' (take size words)

-- ---- lines

-- the lines that were copied and aren't written yet
abbrev pub pending : Batch → List ℕ
pending b = take (32 * (b.line - b.written)) b.bytes.items

-- the region of a number was copied after the others, and is pending; all else is as it was, but for the heads, the
-- page and its starts
pub record HasAdded (v u : View) (end n : ℕ) (a b : Batch) : Type 0 where
  pub line : IsLineAt u (n + 1) b.line
  pub later : a.line < b.line
  pub within : b.line ≤ end
  pub written : b.written ≡ a.written
  pub end_is : b.end ≡ a.end
  pub room : HasBatchRoom b
  pub fits : 32 * (b.line - b.written) ≤ buffer_bytes
  pub heads : length b.heads.items ≡ length a.heads.items
  pub whole : length (pending a) ≡ 32 * (a.line - a.written)
  pub read : (c : Commit) (w : List ℕ) (old : List Entry) → HoldsRows v c.rows
      → IsReadTo c (w ++ words_in (pending a)) old n a.line a.heads.items a.page a.starts.items
      → (e : Entry) × KnowsAs u n e
      × IsReadTo c (w ++ words_in (pending b)) (old ++ e ∷ []) (n + 1) b.line b.heads.items b.page b.starts.items

-- the batch goes on from a number, nothing is pending, and it has room for all up to another, which begins at its end
pub record IsBatchReady (v : View) (from to : ℕ) (b : Batch) : Type 0 where
  pub line : IsLineAt v from b.line
  pub end_is : IsLineAt v to b.end
  pub none : b.written ≡ b.line
  pub some : 0 < length b.heads.items
  pub room : HasBatchRoom b

-- the batch goes on from what is kept of the last commit
pub record Begins (f : Flusher) (end : ℕ) (b : Batch) : Type 0 where
  pub line : b.line ≡ f.line
  pub none : b.written ≡ b.line
  pub end_is : b.end ≡ end
  pub heads : b.heads.items ≡ f.heads.items
  pub page : b.page ≡ f.page
  pub starts : b.starts.items ≡ f.starts.items
  pub room : HasBatchRoom b

-- lines that were copied from a number on up to another: whatever was read up to the first is read up to the second
-- with them
pub record HasCopied (v u : View) (from to : ℕ) (a b : Batch) (lines : List ℕ) : Type 0 where
  pub line : IsLineAt u to b.line
  pub ordered : a.line ≤ b.line
  pub size : length lines ≡ 32 * (b.line - a.line)
  pub heads : length b.heads.items ≡ length a.heads.items
  pub read : (c : Commit) (w : List ℕ) (old : List Entry) → HoldsRows v c.rows
      → IsReadTo c w old from a.line a.heads.items a.page a.starts.items
      → (more : List Entry) × AreKnown u from more × (length more + from ≡ to)
      × IsReadTo c (w ++ words_in lines) (old ++ more) to b.line b.heads.items b.page b.starts.items
