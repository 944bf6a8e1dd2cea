-- A record has few keys and few lines.
use Rattle.std.proofs.Common.{arith}
use Rattle.fish_layout.proofs.Sizes.{few_keys_of, few_lines}
use Rattle.fish_layout.specs.Body.{parts_of}
use Rattle.fish_layout.proofs.write.header_word_of.Goals as goal

pub overflow_cast-header : goal.overflow_cast-header
overflow_cast-header c = omega (arith, few_keys_of c.requires.proper)

pub pack_header-requires-clause-lines : goal.pack_header-requires-clause-lines
pack_header-requires-clause-lines c =
    let p = parts_of c.args.head c.args.keys.now c.args.payload.now in
    omega (arith, few_lines p c.requires.proper, c.requires.lines)

pub pack_header-requires-clause-keys : goal.pack_header-requires-clause-keys
pack_header-requires-clause-keys c = omega (arith, few_keys_of c.requires.proper)
