-- The third word, by its definition.
use Rattle.std.proofs.Common.{length, ap, arith}
use Rattle.fish_catalog.specs.Words.{bit_of, row_word}
use Rattle.fish_catalog.proofs.RowReads.{bit_byte}
use Rattle.fish_catalog.proofs.words.word_of_sizes.Goals as goal

-- the lengths are those of the texts, and the bit is the row's
pub returns : goal.returns
unfolding row_word
returns c =
    omega (
      arith,
      ap length c.as_bytes.ensures.value,
      ap length c.as_bytes-2.ensures.value,
      c.from.ensures,
      bit_byte c.is_active.result,
      ap bit_of c.is_active.ensures.value,
    )
