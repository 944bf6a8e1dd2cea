-- Bytes that aren't there count as zero bytes.
use Rattle.std.proofs.Common.{◌∙◌, length, refl}
use Rattle.fish_recover.proofs.Pieces.{few_bytes}
use Rattle.fish_recover.proofs.bytes.number_in.Goals as goal

pub returns-else-is_empty : goal.returns-else-is_empty
returns-else-is_empty c = c.read_uint.ensures ∙ few_bytes (length c.args.bytes.now) c.args.bytes.now refl c.requires
