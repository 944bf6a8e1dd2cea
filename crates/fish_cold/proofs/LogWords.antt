-- The words of the log in a file, and those of its pages.
use Rattle.std.proofs.Common.{◌≡◌, ℕ, zero, suc, ◌+◌, ◌-◌, ◌*◌, ◌/◌, ◌<◌, ◌≤◌, List, ◌∷◌, length, take, drop}
use Rattle.std.proofs.Common.{refl, sym, ap, ◌∙◌, arith, drop-drop, length-drop}
use Rattle.std.proofs.lemmas.List.{length-take, length-take-le}
use Rattle.std.specs.Prelude.{min}
use Rattle.fish_image.proofs.ByteWords.{length-words_of, words_of-take}
use Rattle.fish_image.specs.Slot.{number}
use Rattle.fish_image.specs.Stands.{words_in, words_of}
use Rattle.fish_slots.specs.Offsets.{lines_at}
use Rattle.fish_slots.specs.Slots.{lines_in_slot}
use Rattle.fish_cold.specs.Pages.{lines_below, log_words, page_size, page_words}

-- words after others
pub drop-words_of : (i n : ℕ) (b : List ℕ) → i ≤ n → drop i (words_of n b) ≡ words_of (n - i) (drop (8 * i) b)
drop-words_of zero n b h =
    let all : n ≡ n - 0 = omega arith in
    ap (λ k. words_of k b) all
drop-words_of (suc i) zero b h = absurd (omega arith)
drop-words_of (suc i) (suc n) b h =
    let fewer : n - i ≡ suc n - suc i = omega arith in
    let further : 8 + 8 * i ≡ 8 * suc i = omega arith in
    drop-words_of i n (drop 8 b) (omega arith)
    ∙ ap (λ k. words_of k (drop (8 * i) (drop 8 b))) fewer
    ∙ ap (words_of (suc n - suc i)) (drop-drop (8 * i) 8 b ∙ ap (λ k. drop k b) further)

-- the first of them
pub take-words_of : (m n : ℕ) (b : List ℕ) → m ≤ n → take m (words_of n b) ≡ words_of m b
take-words_of zero n b h = refl
take-words_of (suc m) zero b h = absurd (omega arith)
take-words_of (suc m) (suc n) b h = ap (λ l. number b ∷ l) (take-words_of m n (drop 8 b) (omega arith))

-- some of the log's words among others
pub part_of_log : (content : List ℕ) (from n i m : ℕ) → i + m ≤ n
    → take m (drop i (log_words content from n)) ≡ log_words content (from + i) m
part_of_log content from n i m within =
    let place : lines_at + 8 * from + 8 * i ≡ lines_at + 8 * (from + i) = omega arith in
    ap (take m) (drop-words_of i n (drop (lines_at + 8 * from) content) (omega arith))
    ∙ take-words_of m (n - i) (drop (8 * i) (drop (lines_at + 8 * from) content)) (omega arith)
    ∙ ap (words_of m) (drop-drop (8 * i) (lines_at + 8 * from) content ∙ ap (λ k. drop k content) place)

-- the words of lines are those of the file
pub lines_words : (image : List ℕ) (m : ℕ) → words_in (lines_in_slot m image)
    ≡ log_words image 0 (length (words_in (lines_in_slot m image)))
lines_words image m =
    let bytes = lines_in_slot m image in
    let size = length-words_of (length bytes / 8) bytes in
    let cut = length-take (32 * m) (drop lines_at image) in
    words_of-take (length bytes / 8) (32 * m) (drop lines_at image) (omega arith)
    ∙ ap (λ n. words_of n (drop lines_at image)) (sym size)

-- and the file has all of them
pub lines_room : (image : List ℕ) (m : ℕ) → 0 < length (words_in (lines_in_slot m image))
    → lines_at + 8 * length (words_in (lines_in_slot m image)) ≤ length image
lines_room image m some =
    let bytes = lines_in_slot m image in
    let size = length-words_of (length bytes / 8) bytes in
    let cut = length-take (32 * m) (drop lines_at image) in
    let behind = length-drop lines_at image in
    omega arith

-- the pages below a line, of words that are all in the file
pub record ArePages (w : List ℕ) (end : ℕ) (words : ℕ → List ℕ) : Type 0 where
  pub size : (p : ℕ) → length (words p) ≡ 4 * lines_below end p
  pub part : (p i m : ℕ) → 32768 * p ≤ end → i + m ≤ 4 * lines_below end p → take m (drop i (words p)) ≡ take m (drop (131072 * p + i) w)

-- they lie below the line
below_end : (end p : ℕ) → lines_below end p ≤ end - 32768 * p
below_end end p = omega arith

-- the file has all words of a page below the line
size_full : (end p : ℕ) (content w : List ℕ) → 4 * end ≤ length w → lines_at + 8 * length w ≤ length content
    → page_size end p content ≡ 4 * lines_below end p
size_full end p content w within room = omega arith

pub are_pages : (content w : List ℕ) (end : ℕ) → w ≡ log_words content 0 (length w) → 4 * end ≤ length w
    → lines_at + 8 * length w ≤ length content → ArePages w end (λ p. page_words end p content)
are_pages content w end is within room =
    record {
      size = λ p. length-words_of (page_size end p content) (drop (lines_at + 8 * (131072 * p)) content)
          ∙ size_full end p content w within room;
      part = λ p i m first below.
          let full : page_size end p content ≡ 4 * lines_below end p = size_full end p content w within room in
          let most : lines_below end p ≤ end - 32768 * p = below_end end p in
          let place : 0 + (131072 * p + i) ≡ 131072 * p + i = omega arith in
          part_of_log content (131072 * p) (page_size end p content) i m (omega arith)
          ∙ ap (λ k. log_words content k m) (sym place)
          ∙ sym (part_of_log content 0 (length w) (131072 * p + i) m (omega arith))
          ∙ ap (λ l. take m (drop (131072 * p + i) l)) (sym is);
    }

-- what was read of a page is its words
pub page_read : (end page count at : ℕ) (content buf ws : List ℕ) → at ≡ lines_at + 8 * (131072 * page)
    → length buf ≡ 32 * lines_below end page → count ≡ min (length content - at) (length buf)
    → take count buf ≡ take count (drop at content) → ws ≡ words_of (length (take count buf) / 8) (take count buf)
    → ws ≡ page_words end page content
page_read end page count at content buf ws place size counted same is =
    let whole : length (take count buf) ≡ count = length-take-le count buf (omega arith) in
    let many : length (take count buf) / 8 ≡ page_size end page content = omega arith in
    is
    ∙ ap (words_of (length (take count buf) / 8)) same
    ∙ words_of-take (length (take count buf) / 8) count (drop at content) (omega arith)
    ∙ ap (λ n. words_of n (drop at content)) many
    ∙ ap (λ n. words_of (page_size end page content) (drop n content)) place
