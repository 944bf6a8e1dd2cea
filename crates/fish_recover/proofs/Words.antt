-- The words of the lines of a log, piece by piece.
use Rattle.std.proofs.Common.{◌≡◌, ℕ, ◌+◌, ◌*◌, ◌/◌, ◌⊎◌, inl, inr, List, [], ◌++◌}
use Rattle.std.proofs.Common.{length, take, drop, ap, sym, ◌∙◌, arith, append-nil, length-append, length-drop, drop-drop}
use Rattle.std.proofs.Math.Seq.{take-add}
use Rattle.std.proofs.lemmas.Bool.{cases_lt}
use Rattle.std.proofs.lemmas.List.{drop_all, length-take, length-take-le}
use Rattle.fish_disk.specs.Content.{part}
use Rattle.fish_image.proofs.ByteWords.{no_bytes, words_of-append}
use Rattle.fish_image.specs.Stands.{words_in, words_of}
use Rattle.fish_slots.specs.Offsets.{lines_at}
use Rattle.fish_recover.specs.within.Opening.{first_words}

-- where the first are whole words, or nothing comes after them, the words of both are theirs
pub words_joined : (n : ℕ) (a b : List ℕ) → (length a ≡ 8 * n) ⊎ (length b ≡ 0) → words_in (a ++ b) ≡ words_in a ++ words_in b
words_joined n a b (inl size) =
    let both = length-append a b in
    let all : length (a ++ b) / 8 ≡ n + length b / 8 = omega arith in
    let one : n ≡ length a / 8 = omega arith in
    ap (λ (k : ℕ). words_of k (a ++ b)) all ∙ words_of-append n (length b / 8) a b size
    ∙ ap (λ (k : ℕ). words_of k a ++ words_in b) one
words_joined n a b (inr size) =
    let gone : b ≡ [] = no_bytes b size in
    ap (λ (l : List ℕ). words_in (a ++ l)) gone ∙ ap words_in (append-nil a) ∙ sym (append-nil (words_in a))
    ∙ ap (λ (l : List ℕ). words_in a ++ words_in l) (sym gone)

-- the words of lines and of those after them
pub words_next : (line count : ℕ) (c : List ℕ)
    → first_words (line + count) c ≡ first_words line c ++ words_in (part (lines_at + 32 * line) (32 * count) c)
words_next line count c =
    let a : List ℕ = part lines_at (32 * line) c in
    let b : List ℕ = part (lines_at + 32 * line) (32 * count) c in
    let sum : 32 * (line + count) ≡ 32 * line + 32 * count = omega arith in
    let left = length-drop lines_at c in
    ap (λ (n : ℕ). words_in (part lines_at n c)) sum
    ∙ ap words_in (take-add (32 * line) (32 * count) (drop lines_at c)
    ∙ ap (λ (l : List ℕ). a ++ take (32 * count) l) (drop-drop (32 * line) lines_at c))
    ∙ words_joined (4 * line) a b (elim (cases_lt (length c) (lines_at + 32 * line)) [
      | inl less ↦ inr (ap (λ (l : List ℕ). length (take (32 * count) l))
          (drop_all (lines_at + 32 * line) c (omega arith)) ∙ nothing (32 * count))
      | inr more ↦ inl (length-take-le (32 * line) (drop lines_at c) (omega arith)
          ∙ (let four : 32 * line ≡ 8 * (4 * line) = omega arith in four))
    ])
  where
    nothing : (n : ℕ) → length (take n (let no : List ℕ = [] in no)) ≡ 0
    nothing n = (let size = length-take n (let no : List ℕ = [] in no) in omega arith)
