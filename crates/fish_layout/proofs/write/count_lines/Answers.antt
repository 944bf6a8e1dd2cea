-- The words after the header are counted part by part.
use Rattle.std.proofs.Common.{arith}
use Rattle.fish_layout.proofs.Sizes.{few_lines, length-words_after_head}
use Rattle.fish_layout.specs.Body.{parts_of}
use Rattle.fish_layout.proofs.write.count_lines.Goals as goal

pub returns-clause-value : goal.returns-clause-value
returns-clause-value c head =
    omega (arith, length-words_after_head (parts_of head c.args.keys.now c.args.payload.now))

pub returns-clause-fits : goal.returns-clause-fits
returns-clause-fits c =
    let p = parts_of c.requires.0 c.args.keys.now c.args.payload.now in
    omega (arith, returns-clause-value c c.requires.0, few_lines p c.requires.1)
