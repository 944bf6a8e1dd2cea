-- A canonical text is short, and the bytes of a text are bytes.
use Rattle.std.proofs.Common.{arith}
use Rattle.fish_catalog.proofs.RowReads.{canonical_short, text_small}
use Rattle.fish_catalog.proofs.words.read_texts.Goals as goal

-- each length by the row, each byte by the text
pub returns : goal.returns
returns c =
    let name = c.as_bytes-name.ensures in
    let text = c.as_bytes-text.ensures in
    record {
      short_name = omega (arith, c.requires.name);
      name = text_small name.value name.utf8;
      short_text = canonical_short c.args.row.now.def c.requires.text;
      text = text_small text.value text.utf8;
    }
