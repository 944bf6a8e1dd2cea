-- Files whose first lines are the same have the same pages below them.
use Rattle.std.proofs.Common.{◌≡◌, ℕ, ◌+◌, ◌*◌, ◌<◌, ◌≤◌, inl, inr, List, [], ◌∷◌, ◌++◌, length, take, drop}
use Rattle.std.proofs.Common.{refl, sym, ap, subst, ◌∙◌, arith}
use Rattle.std.proofs.lemmas.Bool.{cases_lt}
use Rattle.std.proofs.lemmas.List.{take-append-le, take-take, take_all}
use Rattle.fish_cold.proofs.LogWords.{are_pages, lines_room, lines_words}
use Rattle.fish_image.proofs.ByteWords.{length-words_of}
use Rattle.fish_cold.specs.Pages.{lines_below, log_words, page_size, page_words}
use Rattle.fish_image.specs.Stands.{words_in}
use Rattle.fish_slots.specs.Offsets.{lines_at}
use Rattle.fish_slots.specs.Slots.{lines_in_slot}

-- the first of more lines are the lines before
pub first_lines : (image lines more : List ℕ) (m n : ℕ) → m ≤ n → length lines ≡ 32 * m → lines_in_slot n image ≡ lines ++ more
    → lines_in_slot m image ≡ lines
first_lines image lines more m n few size all =
    sym (take-take (32 * m) (32 * n) (drop lines_at image) (omega arith))
    ∙ ap (take (32 * m)) all
    ∙ take-append-le (32 * m) lines more (omega arith)
    ∙ take_all (32 * m) lines (omega arith)

-- no words are none
no_words : (a : List ℕ) → length a ≡ 0 → a ≡ []
no_words [] size = refl
no_words (x ∷ a) size = absurd (omega arith)

-- the words of a page below a line are those of lines that a file has and that reach that far
of_lines : (image lines : List ℕ) (m end p : ℕ) → lines_in_slot m image ≡ lines → 4 * end ≤ length (words_in lines)
    → 32768 * p < end → page_words end p image ≡ take (4 * lines_below end p) (drop (131072 * p) (words_in lines))
of_lines image lines m end p is within here =
    let w : List ℕ = words_in lines in
    let read : w ≡ log_words image 0 (length w) =
    subst (λ l. words_in l ≡ log_words image 0 (length (words_in l))) is (lines_words image m) in
    let room : lines_at + 8 * length w ≤ length image =
    subst (λ l. 0 < length (words_in l) → lines_at + 8 * length (words_in l) ≤ length image) is (lines_room image m) (omega arith) in
    let pages = are_pages image w end read within room in
    let size = pages.size p in
    let first : 131072 * p + 0 ≡ 131072 * p = omega arith in
    sym (take_all (4 * lines_below end p) (page_words end p image) (omega arith))
    ∙ pages.part p 0 (4 * lines_below end p) (omega arith) (omega arith)
    ∙ ap (λ n. take (4 * lines_below end p) (drop n w)) first

-- a page past the line has none
past_lines : (image : List ℕ) (end p : ℕ) → end ≤ 32768 * p → page_words end p image ≡ []
past_lines image end p past =
    let size = length-words_of (page_size end p image) (drop (lines_at + 8 * (131072 * p)) image) in
    no_words (page_words end p image) (omega arith)

-- two files have the same words of a page below a line where both have lines that reach that far
pub same_page : (one other lines : List ℕ) (m end p : ℕ) → lines_in_slot m one ≡ lines → lines_in_slot m other ≡ lines
    → 4 * end ≤ length (words_in lines) → page_words end p one ≡ page_words end p other
same_page one other lines m end p here there within = elim (cases_lt (32768 * p) end) [
  | inl near ↦ of_lines one lines m end p here within near ∙ sym (of_lines other lines m end p there within near)
  | inr past ↦ past_lines one end p past ∙ sym (past_lines other end p past)
]
