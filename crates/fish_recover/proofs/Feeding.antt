-- What a checker has seen of the lines of an image.
use Rattle.std.proofs.Common.{◌≡◌, ℕ, ◌+◌, ◌-◌, ◌*◌, ◌/◌, ◌≤◌, List, [], ◌++◌, Err, inl, length, take, refl, ap, sym, subst}
use Rattle.std.proofs.Common.{◌∙◌, arith, length-append}
use Rattle.std.proofs.lemmas.List.{length-take-le}
use Rattle.std.specs.Prelude.{Option, Some, None, IfSome}
use Rattle.fish_catalog.specs.declared.commit.Checked.{Checked}
use Rattle.fish_catalog.specs.declared.commit.Commit.{Commit}
use Rattle.fish_disk.specs.Content.{part}
use Rattle.fish_image.proofs.Pieces.{breaks_damaged, breaks_more}
use Rattle.fish_image.specs.Checking.{Fed, HasChecked, HasSeen}
use Rattle.fish_image.specs.Stands.{words_in, words_of}
use Rattle.fish_image.specs.declared.checker.Checker.{Checker}
use Rattle.fish_image.specs.declared.refusal.ImageRefusal.{ImageRefusal}
use Rattle.fish_image.specs.declared.refusal.ImageRefusal.TheVariants.{Damaged as Broken, OutOfMemory as NoMemory}
use Rattle.fish_slots.specs.Offsets.{lines_at}
use Rattle.fish_image.proofs.ByteWords.{words_of-take}
use Rattle.fish_recover.proofs.Words.{words_joined, words_next}
use Rattle.fish_recover.specs.Opening.{AreLinesRead}
use Rattle.fish_recover.specs.within.Opening.{HasReadLines, IsLinesCause, IsPieceCause, IsSameRefusal, first_words}
use Rattle.fish_recover.specs.declared.refusal.OpenRefusal.{OpenRefusal}
use Rattle.fish_recover.specs.declared.refusal.OpenRefusal.TheVariants.{Damaged, DiskFault, NotAStore, OutOfMemory, ShapeDiffers}

-- what holds anyway holds of a content
pub any_holds : (P : List ℕ → Type 0) (x : Option (List ℕ)) → ((i : List ℕ) → P i) → IfSome x P
any_holds P None h = tt
any_holds P (Some i) h = h i

-- what holds of a content and gives another holds too
pub both_hold : (P Q : List ℕ → Type 0) (x : Option (List ℕ)) → IfSome x P → IfSome x (λ i. P i → Q i) → IfSome x Q
both_hold P Q None h f = tt
both_hold P Q (Some i) h f = f h

-- why a checker took no more words
piece_cause : (e : ImageRefusal) (r : OpenRefusal) (c : Commit) (w words : List ℕ) (new : Checker) → Fed (Err e) c w words new
    → IsSameRefusal e r → IsPieceCause c (w ++ words) r
piece_cause (Broken n) r c w words new h same = subst (IsPieceCause c (w ++ words)) (sym same) h.1
piece_cause NoMemory r c w words new h same = subst (IsPieceCause c (w ++ words)) (sym same) tt

module _ (c : Commit) (old new : Checker) (line count : ℕ) (words : List ℕ) where
  -- the words are those of the next lines
  next_words : (i : List ℕ) → words ≡ words_in (part (lines_at + 32 * line) (32 * count) i)
      → first_words line i ++ words ≡ first_words (line + count) i
  next_words i is = ap (λ (l : List ℕ). first_words line i ++ l) is ∙ sym (words_next line count i)

  -- they were seen
  pub fed_on : (x : Option (List ℕ)) → IfSome x (λ i. words ≡ words_in (part (lines_at + 32 * line) (32 * count) i))
      → ((w : List ℕ) → HasSeen c old w → HasSeen c new (w ++ words))
      → IfSome x (λ i. HasSeen c old (first_words line i) → HasSeen c new (first_words (line + count) i))
  fed_on None are fed = tt
  fed_on (Some i) are fed = λ seen. subst (HasSeen c new) (next_words i are) (fed (first_words line i) seen)

  -- or why not
  pub fed_not : (x : Option (List ℕ)) (e : ImageRefusal) (r : OpenRefusal)
      → IfSome x (λ i. words ≡ words_in (part (lines_at + 32 * line) (32 * count) i))
      → ((w : List ℕ) → HasSeen c old w → Fed (Err e) c w words new) → IsSameRefusal e r
      → IfSome x (λ i. HasSeen c old (first_words line i) → IsPieceCause c (first_words (line + count) i) r)
  fed_not None e r are fed same = tt
  fed_not (Some i) e r are fed same = λ seen.
      subst (λ (l : List ℕ). IsPieceCause c l r) (next_words i are)
      (piece_cause e r c (first_words line i) words new (fed (first_words line i) seen) same)

-- why a piece wasn't taken is why the lines aren't
lines_cause : (e : OpenRefusal) (c : Commit) (w more : List ℕ) → IsPieceCause c w e → IsLinesCause c (w ++ more) e
lines_cause NotAStore c w more h = absurd h
lines_cause (Damaged n) c w more h = breaks_damaged c (w ++ more) n (breaks_more c w more n h)
lines_cause (ShapeDiffers kept asked) c w more h = absurd h
lines_cause DiskFault c w more h = tt
lines_cause OutOfMemory c w more h = tt

-- so it is of all lines, where some were given
pub all_cause : (e : OpenRefusal) (c : Commit) (n lines : ℕ) (i : List ℕ) → n ≤ lines → IsPieceCause c (first_words n i) e
    → IsLinesCause c (first_words lines i) e
all_cause e c n lines i few h =
    let all : n + (lines - n) ≡ lines = omega arith in
    subst (λ (k : ℕ). IsLinesCause c (first_words k i) e) all
    (subst (λ (l : List ℕ). IsLinesCause c l e) (sym (words_next n (lines - n) i)) (lines_cause e c (first_words n i) _ h))

-- ---- whatever the disk tells

-- no word was seen
pub read_none : (c : Commit) (checker : Checker) → HasSeen c checker [] → HasReadLines c checker 0
read_none c checker seen = record { bytes = []; words = 0; size = refl; within = omega arith; seen = seen }

-- the whole words of bytes are those of so many whole words of bytes
whole_words : (b : List ℕ) → words_in (take (8 * (length b / 8)) b) ≡ words_in b
whole_words b =
    let size : length (take (8 * (length b / 8)) b) ≡ 8 * (length b / 8) = length-take-le (8 * (length b / 8)) b (omega arith) in
    let count : length (take (8 * (length b / 8)) b) / 8 ≡ length b / 8 = omega arith in
    ap (λ (k : ℕ). words_of k (take (8 * (length b / 8)) b)) count
    ∙ words_of-take (length b / 8) (8 * (length b / 8)) b (omega arith)

-- a piece of bytes was seen
pub read_on : (c : Commit) (old new : Checker) (line count : ℕ) (words b : List ℕ) → length b ≤ 32 * count → words ≡ words_in b
    → ((w : List ℕ) → HasSeen c old w → HasSeen c new (w ++ words)) → HasReadLines c old line → HasReadLines c new (line + count)
read_on c old new line count words b few is fed h =
    let more : List ℕ = take (8 * (length b / 8)) b in
    let size : length more ≡ 8 * (length b / 8) = length-take-le (8 * (length b / 8)) b (omega arith) in
    let both = length-append h.bytes more in
    let before = h.size in
    let within = h.within in
    let same : words_in h.bytes ++ words ≡ words_in (h.bytes ++ more) =
    ap (λ (l : List ℕ). words_in h.bytes ++ l) (is ∙ sym (whole_words b)) ∙ sym (words_joined h.words h.bytes more (inl h.size)) in
    record {
      bytes = h.bytes ++ more;
      words = h.words + length b / 8;
      size = omega arith;
      within = omega arith;
      seen = subst (HasSeen c new) same (fed (words_in h.bytes) h.seen);
    }

-- some lines were held to the commit
pub lines_read : (c : Commit) (checker : Checker) (line : ℕ) (checked : Checked) → line ≤ c.lines → HasReadLines c checker line
    → ((w : List ℕ) → HasSeen c checker w → HasChecked c w checked) → AreLinesRead c checked
lines_read c checker line checked few h found =
    let within = h.within in
    record { lines = h.bytes; size = omega arith; held = found (words_in h.bytes) h.seen }
