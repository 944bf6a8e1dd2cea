-- The parts that were read are those that the words spell.
use Rattle.fish_catalog.proofs.RowReads.{listed_from}
use Rattle.fish_catalog.proofs.words.read_row.Goals as goal

-- each part by its size and its words
pub returns : goal.returns
returns c =
    listed_from c.args.words.now c.args.id c.args.active c.told-words c.in_ok-read_bytes.ensures
    c.in_ok-read_bytes-2.ensures c.name_size_in.ensures c.text_size_in.ensures
