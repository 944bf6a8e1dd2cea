-- How far the words of a log were read.
use Rattle.std.specs.Prelude.{ℕ, ◌≡◌, ◌+◌, ◌==◌, List, [], ◌∷◌, ◌++◌, if◌then◌else◌}
use Rattle.fish_catalog.specs.declared.entry.Entry.{Entry}
use Rattle.fish_catalog.specs.declared.page_start.PageStart.{PageStart}
use Rattle.fish_catalog.specs.PageStarts.{starts_after}
use Rattle.fish_layout.specs.Hash.{bucket_in, key_hash_of}
use Rattle.fish_layout.specs.Pages.{page_of, place_of}
use Rattle.fish_layout.specs.declared.parts.KeyPart.{KeyPart}

-- how far words were read: the next line and the next number, the number of the first page in which no region begins
-- yet, the buckets and places of the key entries, newest first, where pages begin to hold regions, and the entries
pub record Reached : Type 0 where
  pub line : ℕ
  pub number : ℕ
  pub page : ℕ
  pub places : List (ℕ × ℕ)
  pub starts : List PageStart
  pub entries : List Entry

-- nothing was read
abbrev pub unread : Reached
unread = record { line = 0; number = 0; page = 0; places = []; starts = []; entries = [] }

-- the place of the newest key entry of a bucket, or 0
abbrev pub head_of : List (ℕ × ℕ) → ℕ → ℕ
head_of [] b = 0
head_of (place ∷ places) b = if place.0 == b then place.1 else head_of places b

-- the bucket of a key
abbrev pub bucket_of_key : ℕ → KeyPart → ℕ
bucket_of_key buckets k = bucket_in (key_hash_of k.id k.value) buckets

-- the key entries with those of the record at a line, from entry c on
abbrev pub with_keys : ℕ → ℕ → ℕ → List KeyPart → List (ℕ × ℕ) → List (ℕ × ℕ)
with_keys buckets line c [] places = places
with_keys buckets line c (k ∷ ks) places =
    with_keys buckets line (c + 1) ks ((bucket_of_key buckets k, place_of line c) ∷ places)

-- each previous node of the record at a line is the newest key entry of its bucket before it, or 0
abbrev pub AreLinked : ℕ → ℕ → ℕ → List KeyPart → List (ℕ × ℕ) → Type 0
AreLinked buckets line c [] places = Unit {0}
AreLinked buckets line c (k ∷ ks) places =
    (k.prev ≡ head_of places (bucket_of_key buckets k))
    × AreLinked buckets line (c + 1) ks ((bucket_of_key buckets k, place_of line c) ∷ places)

-- where pages begin to hold regions, with the region that begins at the next line
abbrev pub starts_behind : Reached → List PageStart
starts_behind s = starts_after s.page s.number s.line s.starts

-- after a region of so many lines that holds an entry, with these key entries
abbrev pub reached_after : Reached → ℕ → List (ℕ × ℕ) → Entry → Reached
reached_after s lines places entry =
    record {
      line = s.line + lines;
      number = s.number + 1;
      page = page_of s.line + 1;
      places = places;
      starts = starts_behind s;
      entries = s.entries ++ entry ∷ [];
    }
