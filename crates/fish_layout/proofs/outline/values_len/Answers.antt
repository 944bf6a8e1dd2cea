-- The last key entry says where the values end.
use Rattle.std.proofs.Common.{arith}
use Rattle.fish_layout.proofs.Outlines.{body_values_size}
use Rattle.fish_layout.proofs.outline.values_len.Goals as goal

pub returns-clause-value : goal.returns-clause-value
returns-clause-value c p h keys =
    omega (arith, body_values_size h c.args.keys keys (omega arith), c.offset_in.ensures.value, c.size_in.ensures.value)
