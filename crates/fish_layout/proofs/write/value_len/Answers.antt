-- The values have few bytes.
use Rattle.std.proofs.Common.{arith}
use Rattle.fish_layout.proofs.Entries.{few_bytes_at, few_bytes_up}
use Rattle.fish_layout.proofs.write.value_len.Goals as goal

pub overflow_add-bytes : goal.overflow_add-bytes
overflow_add-bytes c =
    omega (
      arith,
      few_bytes_at c.args.keys.now c.loop-key.key-index c.key-item.result c.requires.few c.requires.keys (omega arith) c.key-item.is,
    )

pub returns-clause-fits : goal.returns-clause-fits
returns-clause-fits c = omega (arith, few_bytes_up c.args.keys.now c.loop-key.key-index c.requires.few c.requires.keys)
