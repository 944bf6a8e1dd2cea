-- The eight bytes are those of the word.
use Rattle.std.proofs.Common.{ℕ, ◌+◌, ◌*◌, List, arith}
use Rattle.fish_catalog.proofs.RowReads.{byte_of_word}
use Rattle.fish_catalog.proofs.words.word_of_bytes.Goals as goal

-- byte by byte
pub returns : goal.returns
returns c =
    let b : List ℕ = c.args.bytes.now in
    let i : ℕ = c.args.position in
    omega (
      arith,
      c.from_le_bytes.ensures,
      c.byte_at.ensures,
      c.byte_at-2.ensures,
      c.byte_at-3.ensures,
      c.byte_at-4.ensures,
      c.byte_at-5.ensures,
      c.byte_at-6.ensures,
      c.byte_at-7.ensures,
      c.byte_at-8.ensures,
      byte_of_word b i 0 (8 * i) (omega arith) (omega arith),
      byte_of_word b i 1 (8 * i + 1) (omega arith) (omega arith),
      byte_of_word b i 2 (8 * i + 2) (omega arith) (omega arith),
      byte_of_word b i 3 (8 * i + 3) (omega arith) (omega arith),
      byte_of_word b i 4 (8 * i + 4) (omega arith) (omega arith),
      byte_of_word b i 5 (8 * i + 5) (omega arith) (omega arith),
      byte_of_word b i 6 (8 * i + 6) (omega arith) (omega arith),
      byte_of_word b i 7 (8 * i + 7) (omega arith) (omega arith),
    )
