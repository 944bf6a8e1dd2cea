-- What an opening found, whatever the disk tells: a body and whole lines, which tell one log.
use Rattle.std.proofs.Common.{◌≡◌, ℕ, ◌-◌, ◌*◌, ◌/◌, ◌^◌, ◌≤◌, List, length, drop, refl, ap, sym, subst, ◌∙◌, arith}
use Rattle.std.proofs.lemmas.List.{length-take}
use Rattle.std.specs.Prelude.{◌↔◌, Option, Some, None, IfSome, IsTrue}
use Rattle.fish_catalog.specs.declared.commit.Commit.{Commit}
use Rattle.fish_catalog.specs.declared.entry.Entry.{Entry}
use Rattle.fish_disk.proofs.Regions.{told_at}
use Rattle.fish_flush.proofs.PageStarts.{pages_follow_starts}
use Rattle.fish_flush.specs.Kept.{IsAtRest, IsCommitted, IsKeptOf}
use Rattle.fish_flush.specs.declared.flusher.Flusher.{Flusher}
use Rattle.fish_image.proofs.Agreement.{agrees_within}
use Rattle.fish_image.proofs.Spelling.{told_length}
use Rattle.fish_image.specs.Checking.{HasChecked}
use Rattle.fish_image.specs.Log.{Agrees}
use Rattle.fish_image.specs.Progress.{AreHeads}
use Rattle.fish_image.specs.Reached.{Reached}
use Rattle.fish_image.specs.Reading.{IsBodyOf}
use Rattle.fish_image.specs.Stands.{Stands, words_in}
use Rattle.fish_slots.specs.Commits.{SlotCounts, SlotRests}
use Rattle.fish_slots.specs.Offsets.{lines_at}
use Rattle.fish_slots.specs.Slots.{IsOpen, line_count, lines_in_slot}
use Rattle.fish_recover.proofs.Holding.{body_lines}
use Rattle.fish_image.proofs.ByteWords.{length-words_of}
use Rattle.fish_recover.specs.Opening.{IsImageFound, IsFoundRead}
use Rattle.fish_recover.specs.within.Resting.{AreAtRest, AreLong, AreStored, AreWhole}
use Rattle.fish_recover.specs.declared.finding.Found.{Found}
use Rattle.fish_recover.specs.declared.refusal.Asked.{Asked}

-- ---- sizes

-- lines of which a log was read, and no more than were counted, are all
pub whole_lines : (c : Commit) (w : List ℕ) (n : ℕ) (end : Reached) → Agrees c (words_in w) n end → end.line ≡ c.lines
    → length w ≤ 32 * c.lines → length w ≡ 32 * c.lines
whole_lines c w n end agrees line few =
    let within = agrees_within c (words_in w) n end agrees in
    let words = length-words_of (length w / 8) w in
    omega arith

-- so many lines of an image are no more
few_lines : (count : ℕ) (i w : List ℕ) → lines_in_slot count i ≡ w → length w ≤ 32 * count
few_lines count i w is =
    let taken = length-take (32 * count) (drop lines_at i) in
    let size = ap (λ (l : List ℕ). length l) is in
    omega arith

-- the body and the lines of an image that stands for a log are whole
pub stands_whole : (c : Commit) (i : List ℕ) (log : List Entry) → (h : Stands c i log) → AreWhole h.body h.lines
stands_whole c i log h =
    let counted = body_lines c h.body h.is.told in
    let few = few_lines (line_count h.body) i h.lines h.commit.counts.lines_are in
    let size = whole_lines c h.lines c.count h.is.stands.end h.is.stands.agrees h.is.stands.lines (omega arith) in
    record { body_size = told_length c h.body h.is.told; lines_size = omega arith }

-- ---- what was found

-- a body and whole lines, which tell the commit and one log; they are those of the content, where it is told
pub record KeptIn (x : Option (List ℕ)) (f : Found) : Type 0 where
  pub body : List ℕ
  pub lines : List ℕ
  pub slot_is : f.slot ≤ 1
  pub told : IsBodyOf f.commit body
  pub held : HasChecked f.commit (words_in lines) f.checked
  pub size : length lines ≡ 32 * f.commit.lines
  pub counts : IfSome x (SlotCounts f.slot body lines)
  pub other : IfSome x (λ i. IsTrue f.both ↔ IsOpen (1 - f.slot) i)

pub kept_in : (x : Option (List ℕ)) (asked : Asked) (f : Found) → IfSome x (λ i. IsImageFound i asked f) → IsFoundRead f → KeptIn x f
kept_in None asked f h read = record {
  body = read.slot.body;
  lines = read.lines.lines;
  slot_is = read.slot.slot_is;
  told = read.slot.told;
  held = read.lines.held;
  size = whole_lines f.commit read.lines.lines f.commit.count read.lines.held.end read.lines.held.agrees read.lines.held.lines
      read.lines.size;
  counts = tt;
  other = tt;
}
kept_in (Some i) asked f h read =
    let counted = body_lines f.commit h.body h.told in
    let few = few_lines (line_count h.body) i h.lines h.commit.counts.lines_are in
    record {
      body = h.body;
      lines = h.lines;
      slot_is = read.slot.slot_is;
      told = h.told;
      held = h.checked;
      size = whole_lines f.commit h.lines f.commit.count h.checked.end h.checked.agrees h.checked.lines (omega arith);
      counts = subst (λ (s : ℕ). SlotCounts s h.body h.lines i) h.slot h.commit.counts;
      other = h.older;
    }

module _ (x : Option (List ℕ)) (f : Found) (k : KeptIn x f) where
  -- they are whole
  kept_whole : AreWhole k.body k.lines
  kept_whole =
      let counted = body_lines f.commit k.body k.told in
      let size = k.size in
      record { body_size = told_length f.commit k.body k.told; lines_size = omega arith }

  -- every image of a disk that was synced has them
  pub kept_stored : (images : List ℕ → Type 0) → ((i : List ℕ) → images i → x ≡ Some i)
      → AreStored images f.slot f.both k.body k.lines
  kept_stored images synced = record {
    whole = kept_whole;
    counts = λ i here. told_at (SlotCounts f.slot k.body k.lines) x i (synced i here) k.counts;
    other = λ i here. told_at (λ e. IsTrue f.both ↔ IsOpen (1 - f.slot) e) x i (synced i here) k.other;
  }

  -- so it stands for the log
  pub kept_stands : (i : List ℕ) → x ≡ Some i → Stands f.commit i k.held.end.entries
  kept_stands i is = record {
    body = k.body;
    lines = k.lines;
    commit = record { slot = f.slot; slot_is = k.slot_is; counts = told_at (SlotCounts f.slot k.body k.lines) x i is k.counts };
    is = record {
      told = k.told;
      stands = record { end = k.held.end; agrees = k.held.agrees; lines = k.held.lines; entries = refl };
    };
  }

-- ---- what is kept of it

-- a flusher that goes on with what was found keeps its commit
pub kept_committed : (f : Found) (body lines : List ℕ) (told : IsBodyOf f.commit body)
    (held : HasChecked f.commit (words_in lines) f.checked) (g : Flusher) → length lines ≡ 32 * f.commit.lines
    → IsKeptOf f.slot f.commit f.checked.heads f.checked.starts g → IsCommitted g f.commit body lines held.end.entries
kept_committed f body lines told held g size kept = record {
  is = record { told = told; stands = record { end = held.end; agrees = held.agrees; lines = held.lines; entries = refl } };
  size = size;
  turn = sym kept.turn;
  count = sym kept.count;
  line = sym kept.line;
  heads = subst (AreHeads (2 ^ f.commit.bucket_bits) held.end.places) (sym kept.heads_are) held.heads;
  page = pages_follow_starts f.commit (words_in lines) f.commit.count held.end held.agrees
      ∙ ap Rattle.fish_catalog.specs.PageStarts.page_after (sym held.starts) ∙ sym kept.page;
  starts = sym held.starts ∙ sym kept.starts_are;
}

-- and is at rest, where the images are
pub kept_rest : (x : Option (List ℕ)) (f : Found) (k : KeptIn x f) (images : List ℕ → Type 0) (g : Flusher)
    → AreAtRest images f.slot k.body k.lines → AreLong images k.body
    → IsKeptOf f.slot f.commit f.checked.heads f.checked.starts g → IsAtRest images g f.commit k.held.end.entries
kept_rest x f k images g rest long kept =
    let slot_le = k.slot_is in
    let slot = kept.slot_is in
    let line = kept.line in
    let counted = body_lines f.commit k.body k.told in
    record {
      slot_is = omega arith;
      body = k.body;
      lines = k.lines;
      rests = λ i here. subst (λ (s : ℕ). SlotRests s k.body k.lines i) (sym kept.slot_is) (rest.rests i here);
      long = λ i here. (let l = long i here in omega arith);
      committed = kept_committed f k.body k.lines k.told k.held g k.size kept;
    }
