-- Each key entry says the number.
use Rattle.std.proofs.Common.{◌∙◌, arith}
use Rattle.fish_layout.proofs.Entries.{some_element}
use Rattle.fish_layout.proofs.KeyWords.{body_key}
use Rattle.fish_layout.proofs.read.number_of.Goals as goal

pub returns-else-keys-eq0-clause-value : goal.returns-else-keys-eq0-clause-value
returns-else-keys-eq0-clause-value c p h keys some =
    let key = some_element p.keys 0 (omega arith) in
    c.number_in.ensures.value ∙ (body_key 0 key.0 h (omega arith) key.1).number
